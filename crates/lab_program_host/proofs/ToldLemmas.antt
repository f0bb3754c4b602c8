-- A line that is told on standard error, whole or cut.
use Rattle.std.proofs.Common.{arith, ◌≡◌, ℕ, ◌+◌, ◌<◌, List, ◌++◌, length, take, Option, Result, Ok, Err, sym, ap, subst, ◌∙◌}
use Rattle.std.specs.Prelude.{OnOk, IfErr}
use Rattle.std.specs.Io.KnownBytes.{Appends}
use Rattle.std.proofs.KnownBytes.{Appends-trans}
use Rattle.std.proofs.Math.Seq.{take-append-add}
use Rattle.std.proofs.lemmas.List.{length-append}
use Rattle.lab_forms_streams.specs.declared.sending.WriteFault.{WriteFault as Untold}
use Rattle.lab_program_host.specs.Faults.{IsLinePrinted}

-- how many bytes of three texts went out, where it was the last that was cut
cut_last : (first word last : List ℕ) (part : ℕ) →
    take (length first + (length word + part)) (first ++ (word ++ last))
    ≡ first ++ (word ++ take part last)
cut_last first word last part =
    take-append-add first (word ++ last) (length word + part)
    ∙ ap (λ text. first ++ text) (take-append-add word last part)

-- three texts that were written, one after the other
pub told_parts : (first word last : List ℕ) (at : ℕ) (a b c d : Option (List ℕ))
    (told : Result (Unit {0}) Untold) → at ≡ length first + length word →
    Appends a b first → Appends b c word → OnOk told (Appends c d last) →
    IfErr told (λ untold. (part : ℕ) × (untold.sent ≡ at + part) × (part < length last)
    × Appends c d (take part last)) → IsLinePrinted (first ++ (word ++ last)) told a d
told_parts first word last at a b c d (Ok _) place one two whole cut =
    Appends-trans a b d first (word ++ last) one (Appends-trans b c d word last two whole)
told_parts first word last at a b c d (Err untold) place one two whole cut =
    let sent : untold.sent ≡ length first + (length word + cut.0) =
    omega (arith, cut.1, place) in
    let text : take untold.sent (first ++ (word ++ last)) ≡ first ++ (word ++ take cut.0 last) =
    ap (λ count. take count (first ++ (word ++ last))) sent ∙ cut_last first word last cut.0 in (
      subst (Appends a d) (sym text)
          (Appends-trans a b d first (word ++ take cut.0 last) one
          (Appends-trans b c d word (take cut.0 last) two cut.3)),
      omega (arith, sent, cut.2, length-append first (word ++ last), length-append word last),
    )
