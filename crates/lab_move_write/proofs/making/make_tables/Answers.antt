use Rattle.std.proofs.Common.{Ok}
use Rattle.sqlite.specs.Held.{state}
use Rattle.lab_store_files.specs.NewFiles.{IsBlank}
use Rattle.lab_move_write.specs.Unfinished.{IsUnfinished, Begins}
use Rattle.lab_move_write.proofs.Causes.{isnt_memory, making_told}
use Rattle.lab_move_write.proofs.Commits.{told_ok, told_err, makes_weaker}
use Rattle.lab_move_write.proofs.MadeTables.{begins}
use Rattle.lab_move_write.proofs.making.make_tables.Goals as goal

pub returns-in-Ok-clause-begun : goal.returns-in-Ok-clause-begun
returns-in-Ok-clause-begun g c =
    let was = (state g.S.Store c.args.conn.now).now in
    told_ok tt tt (makes_weaker (λ db. IsBlank was → IsUnfinished db) (Begins was) (Ok tt) (begins was) c.in-Ok.ensures.ends)

pub returns-in-Err-clause-begun : goal.returns-in-Err-clause-begun
returns-in-Err-clause-begun g c =
    let was = (state g.S.Store c.args.conn.now).now in
    told_err _ _ (makes_weaker (λ db. IsBlank was → IsUnfinished db) (Begins was) _ (begins was) c.in-Err.ensures.ends)

pub returns-in-Err-clause-cause : goal.returns-in-Err-clause-cause
returns-in-Err-clause-cause g c =
    making_told c.in-Err.error c.from.result (isnt_memory c.in-Err.error c.from.result c.from.ensures) c.in-Err.ensures.cause
