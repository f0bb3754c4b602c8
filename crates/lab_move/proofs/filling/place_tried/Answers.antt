use Rattle.std.proofs.Common.{refl}
use Rattle.std.proofs.lemmas.Result.{err_from_is_err_and}
use Rattle.lab_move_write.proofs.Commits.{told_ok, told_err}
use Rattle.lab_move.proofs.OldVerdicts.{of_store}
use Rattle.lab_move.proofs.RefusedLabs.{told_storage}
use Rattle.lab_move.proofs.filling.place_tried.Goals as goal

pub returns-in_err-place_lab-clause-placed : goal.returns-in_err-place_lab-clause-placed
returns-in_err-place_lab-clause-placed g c is =
    let failed = err_from_is_err_and c.from_residual.result c.from_residual.ensures.1 in
    rw failed.1 (told_err _ _ (c.in_err-place_lab.ensures.placed is.within is.bound is.dual))

pub returns-in_err-place_lab-clause-fault : goal.returns-in_err-place_lab-clause-fault
returns-in_err-place_lab-clause-fault g c =
    let failed = err_from_is_err_and c.from_residual.result c.from_residual.ensures.1 in
    rw (failed.1, failed.2) (of_store c.in_err-place_lab.field-0.0)

pub returns-in_err-place_lab-clause-cause : goal.returns-in_err-place_lab-clause-cause
returns-in_err-place_lab-clause-cause g c ours clean =
    let failed = err_from_is_err_and c.from_residual.result c.from_residual.ensures.1 in
    rw (failed.1, failed.2) (λ told. c.in_err-place_lab.ensures.cause.cause ours clean (told_storage c.in_err-place_lab.field-0.0 _ refl told))

pub returns-clause-placed : goal.returns-clause-placed
returns-clause-placed g c is = told_ok _ tt (c.in_ok-place_lab.ensures.placed is.within is.bound is.dual)
