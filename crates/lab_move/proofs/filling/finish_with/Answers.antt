use Rattle.std.proofs.Common.{refl}
use Rattle.std.proofs.lemmas.Result.{err_from_is_err_and}
use Rattle.lab_move_write.proofs.Commits.{told_ok, told_err}
use Rattle.lab_move.proofs.OldVerdicts.{of_store}
use Rattle.lab_move.proofs.RefusedLabs.{told_storage}
use Rattle.lab_move.proofs.filling.finish_with.Goals as goal

pub returns-in_err-finish-clause-finished : goal.returns-in_err-finish-clause-finished
returns-in_err-finish-clause-finished g c =
    let failed = err_from_is_err_and c.from_residual.result c.from_residual.ensures.1 in
    rw failed.1 (told_err _ _ c.in_err-finish.ensures.finished)

pub returns-in_err-finish-clause-named : goal.returns-in_err-finish-clause-named
returns-in_err-finish-clause-named g c =
    let failed = err_from_is_err_and c.from_residual.result c.from_residual.ensures.1 in
    rw failed.1 (told_err _ _ c.in_err-finish.ensures.ends)

pub returns-in_err-finish-clause-fault : goal.returns-in_err-finish-clause-fault
returns-in_err-finish-clause-fault g c =
    let failed = err_from_is_err_and c.from_residual.result c.from_residual.ensures.1 in
    rw (failed.1, failed.2) (of_store c.in_err-finish.field-0.0)

pub returns-in_err-finish-clause-cause : goal.returns-in_err-finish-clause-cause
returns-in_err-finish-clause-cause g c clean =
    let failed = err_from_is_err_and c.from_residual.result c.from_residual.ensures.1 in
    rw (failed.1, failed.2) (λ told. c.in_err-finish.ensures.cause clean (told_storage c.in_err-finish.field-0.0 _ refl told))

pub returns-clause-finished : goal.returns-clause-finished
returns-clause-finished g c = told_ok _ _ c.in_ok-finish.ensures.finished

pub returns-clause-named : goal.returns-clause-named
returns-clause-named g c = told_ok _ _ c.in_ok-finish.ensures.ends
