-- A text that is no code is told as such, and in a code's name the input is founded.
use Rattle.std.proofs.Common.{inl}
use Rattle.std.proofs.KnownBytes.{Keeps-refl}
use Rattle.lab_program.proofs.UnbegunLemmas.{declined, done_of_code, no_founding}
use Rattle.lab_program.proofs.WholeLemmas.{founding_whole}
use Rattle.lab_program.proofs.laboratories.found_for.Goals as goal

pub returns-in-Err : goal.returns-in-Err
returns-in-Err g c =
    declined _ _ _ _ _ _ (no_founding _ _ _ _ _ _ _ _ _ _ (inl (inl tt)))
    c.args.lab.now c.in-Err.fault c.in-Err.ensures.fault
    (Keeps-refl _, rw c.word.ensures at c.decline-status.ensures)

pub returns : goal.returns
returns g c = done_of_code _ _ _ _ _ _ c.args.lab.now c.in-Ok.ensures.admitted
    (founding_whole _ _ _ (g.R.Read.remaining c.args.input) _ _ _ _ (rw (c.in-Ok.ensures.value, c.front_of-body.ensures) at c.found.ensures))
