use Rattle.std.proofs.Common.{Ok, sym, ◌∙◌}
use Rattle.sqlite.specs.Held.{state}
use Rattle.lab_store_tables.specs.Ready.{IsMadeBy}
use Rattle.lab_store_write.proofs.Transactions.{isnt_memory, told_so}
use Rattle.lab_move_write.proofs.Commits.{told_ok, told_err, makes_weaker}
use Rattle.lab_move_write.specs.Placings.{PlacesByRules}
use Rattle.lab_move_write.specs.Carrying.{Carries}
use Rattle.lab_move_write.proofs.Carried.{carries}
use Rattle.lab_move_write.proofs.placing.place_lab.Goals as goal

pub returns-in-Ok-clause-ends : goal.returns-in-Ok-clause-ends
returns-in-Ok-clause-ends g c = told_ok tt tt c.in-Ok.ensures.ends

pub returns-in-Ok-clause-placed : goal.returns-in-Ok-clause-placed
returns-in-Ok-clause-placed g c within bound dual =
    let old = state g.S.Store c.args.conn.now in
    let lab = c.args.lab.now in
    told_ok tt tt (makes_weaker (IsMadeBy (PlacesByRules lab) old) (Carries lab old.now) (Ok tt) (carries lab within bound dual old.now) c.in-Ok.ensures.ends)

pub returns-in-Err-clause-ends : goal.returns-in-Err-clause-ends
returns-in-Err-clause-ends g c = told_err _ _ c.in-Err.ensures.ends

pub returns-in-Err-clause-placed : goal.returns-in-Err-clause-placed
returns-in-Err-clause-placed g c within bound dual =
    let old = state g.S.Store c.args.conn.now in
    let lab = c.args.lab.now in
    told_err _ _ (makes_weaker (IsMadeBy (PlacesByRules lab) old) (Carries lab old.now) _ (carries lab within bound dual old.now) c.in-Err.ensures.ends)

pub returns-in-Err-clause-cause : goal.returns-in-Err-clause-cause
returns-in-Err-clause-cause g c =
    told_so c.in-Err.error c.read_fault.result (λ told. isnt_memory c.in-Err.error (sym c.read_fault.ensures ∙ told)) c.in-Err.ensures.cause
