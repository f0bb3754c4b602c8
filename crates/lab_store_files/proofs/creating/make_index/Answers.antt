use Rattle.sqlite.specs.Held.{state}
use Rattle.lab_store_files.proofs.Making.{index_done}
use Rattle.lab_store_files.proofs.creating.make_index.Goals as goal

pub returns-clause-made : goal.returns-clause-made
returns-clause-made g c clean was =
    index_done (state g.S.Store c.args.tx.now.conn.now) (state g.S.Store c.run.new.tx.conn.now) c.run.result (c.run.ensures.runs clean) was
