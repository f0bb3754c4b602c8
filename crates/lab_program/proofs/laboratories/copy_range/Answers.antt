-- A text that is no code is told as such, and a code's records are copied.
use Rattle.std.proofs.Common.{inl}
use Rattle.std.proofs.KnownBytes.{Keeps-refl}
use Rattle.lab_program.proofs.UnbegunLemmas.{declined, done_of_code, no_copying}
use Rattle.lab_program.proofs.laboratories.copy_range.Goals as goal

pub returns-in-Err : goal.returns-in-Err
returns-in-Err g c =
    declined _ _ _ _ _ _ (no_copying _ _ _ _ _ _ _ _ _ _ _ (inl tt))
    c.args.lab.now c.in-Err.fault c.in-Err.ensures.fault
    (Keeps-refl _, rw c.word.ensures at c.decline-status.ensures)

pub returns : goal.returns
returns g c = done_of_code _ _ _ _ _ _ c.args.lab.now c.in-Ok.ensures.admitted
    (rw c.in-Ok.ensures.value at c.copy.ensures)
