use Rattle.std.proofs.Common.{arith}
use Rattle.sqlite.specs.State.{HasCleanDisk}
use Rattle.sqlite.specs.Held.{state}
use Rattle.lab_store_files.proofs.Transactions.{inside_keeps, inside_stays}
use Rattle.lab_store_files.proofs.creating.run.Goals as goal

pub returns-clause-runs : goal.returns-clause-runs
returns-clause-runs g c clean =
    let early : HasCleanDisk (state g.S.Store c.args.tx.now.conn.now) = omega (arith, c.execute.ensures.survives.clean) in
    c.execute.ensures.runs clean (c.requires.mode early)

pub returns-clause-kept : goal.returns-clause-kept
returns-clause-kept g c clean =
    let early : HasCleanDisk (state g.S.Store c.args.tx.now.conn.now) = omega (arith, c.execute.ensures.survives.clean) in
    inside_keeps _ _ (state g.S.Store c.args.tx.now.conn.now) (state g.S.Store c.execute.new.self.conn.now) c.execute.result (c.execute.ensures.runs clean (c.requires.mode early))

pub returns-clause-inside : goal.returns-clause-inside
returns-clause-inside g c clean =
    let early : HasCleanDisk (state g.S.Store c.args.tx.now.conn.now) = omega (arith, c.execute.ensures.survives.clean) in
    inside_stays _ _ (state g.S.Store c.args.tx.now.conn.now) (state g.S.Store c.execute.new.self.conn.now) c.execute.result (c.execute.ensures.runs clean (c.requires.mode early))
