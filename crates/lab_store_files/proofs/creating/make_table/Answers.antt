use Rattle.std.proofs.Common.{[], subst}
use Rattle.sqlite.specs.State.{ExecutesInside}
use Rattle.sqlite.specs.Held.{state}
use Rattle.lab_store_files.proofs.Making.{table_done}
use Rattle.lab_store_files.proofs.creating.make_table.Goals as goal

pub returns-clause-made : goal.returns-clause-made
returns-clause-made g c clean was =
    let old = state g.S.Store c.args.tx.now.conn.now in
    let new = state g.S.Store c.run.new.tx.conn.now in
    table_done c.args.one old new c.run.result (subst (λ t. ExecutesInside 0 t [] old new c.run.result) c.text.ensures (c.run.ensures.runs clean)) was
