-- The line was cut, and that is told; or there was no memory for it.
use Rattle.std.proofs.Common.{◌∙◌, inl, inr}
use Rattle.std.proofs.KnownBytes.{Keeps-refl}
use Rattle.lab_program_moves.proofs.moving.print.Goals as goal

pub returns-in_default : goal.returns-in_default
returns-in_default g c = inr (inr (Keeps-refl _, rw c.word.ensures at c.word_told.ensures))

pub returns : goal.returns
returns g c =
    let made = rw c.in-Ok.is at c.format.ensures.ok in
    let line = c.as_bytes.ensures.value ∙ made in
    inr (inl (
      (c.in-Err.field-0.sent, rw line at c.in-Err.ensures.short, rw line at c.in-Err.ensures.cut),
      rw c.word-in-Err.ensures at c.word_told-in-Err.ensures,
    ))
