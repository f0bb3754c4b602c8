-- The line with the code is told, or, where there is no memory for it, that it ran out.
use Rattle.std.proofs.Common.{◌∙◌, inl, inr}
use Rattle.lab_program_moves.proofs.moving.decline_unsound.Goals as goal

pub returns-in-Ok : goal.returns-in-Ok
returns-in-Ok g c =
    let made = rw c.in-Ok.is at c.format.ensures.ok in
    inl (rw (c.as_str.ensures.value ∙ made) at c.decline.ensures)

pub returns-in-Err : goal.returns-in-Err
returns-in-Err g c = inr (rw c.word.ensures at c.decline-in-Err.ensures)
