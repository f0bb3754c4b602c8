use Rattle.std.proofs.Common.{arith}
use Rattle.sqlite.specs.State.{HasCleanDisk}
use Rattle.sqlite.specs.Held.{state}
use Rattle.lab_store_files.proofs.creating.make_all.Goals as goal

pub returns-clause-made : goal.returns-clause-made
returns-clause-made g c clean blank =
    let indexed : HasCleanDisk (state g.S.Store c.make_index.new.tx.conn.now) = omega (arith, c.name_schema.ensures.survives.clean) in
    let tables : HasCleanDisk (state g.S.Store c.make_tables.new.tx.conn.now) = omega (arith, c.make_index.ensures.survives.clean) in
    c.in_ok-name_schema.ensures.made clean (c.in_ok-make_index.ensures.made indexed (c.in_ok-make_tables.ensures.made tables blank))
