-- The status is 1 where the word was told whole.
use Rattle.std.proofs.Common.{refl}
use Rattle.std.proofs.lemmas.Result.{err_from_is_err_and}
use Rattle.lab_program_opening.proofs.telling.decline.Goals as goal

pub returns-in_err-told : goal.returns-in_err-told
returns-in_err-told g c =
    let fault = err_from_is_err_and c.from_residual.result c.from_residual.ensures.1 in
    rw (fault.1, fault.2) (tt, rw c.in_err-told.was at c.tell-told.ensures)

pub returns : goal.returns
returns g c = (refl, rw c.in_ok-told.was at c.tell-told.ensures)
