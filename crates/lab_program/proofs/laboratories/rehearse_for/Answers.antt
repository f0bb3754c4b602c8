-- A text that is no code is told as such, and a code is rehearsed.
use Rattle.std.proofs.KnownBytes.{Keeps-refl}
use Rattle.lab_program.proofs.UnbegunLemmas.{declined, done_of_code, no_rehearsal}
use Rattle.lab_program.proofs.WholeLemmas.{rehearsal_whole}
use Rattle.lab_program.proofs.laboratories.rehearse_for.Goals as goal

pub returns-in-Err-parse : goal.returns-in-Err-parse
returns-in-Err-parse g c = λ moment within is.
    declined _ _ _ _ _ _ (no_rehearsal _ _ _ _ _ _ _) c.args.lab.now c.in-Err-parse.fault c.in-Err-parse.ensures.fault
    (Keeps-refl _, rw c.word-in-Err-parse.ensures at c.decline-status.ensures)

pub returns : goal.returns
returns g c = λ moment within is.
    done_of_code _ _ _ _ _ _ c.args.lab.now c.in-Ok-parse.ensures.admitted
    (rehearsal_whole _ (g.R.Read.remaining c.args.input) _ (rw (c.in-Ok-parse.ensures.value, c.front_of-body.ensures) at c.rehearse.ensures))
