-- Why no copy was begun.
use Rattle.std.proofs.Common.{◌≡◌, Option, Some, None, Result, Ok, Err, inl, inr}
use Rattle.std.specs.Prelude.{◌⊎◌, IfErr, IfSome, MatchOption}
use Rattle.lab_program_opening.specs.declared.faults.OpenFault.{OpenFault}
use Rattle.lab_program_opening.specs.declared.faults.OpenFault.TheVariants.{Drawing}

-- the file wasn't opened; or the clock failed, and what was opened was closed
pub cause_of : {S A : Type 0} (opened closed : S → Type 0) (unopened : OpenFault → Type 0)
    (ending : Result A OpenFault) (finished : Option S) →
    IfErr ending (λ _. IfSome finished opened) →
    IfErr ending (λ fault. MatchOption finished (unopened fault) (λ _. fault ≡ Drawing)) →
    IfSome finished closed →
    IfErr ending (λ fault. unopened fault
    ⊎ ((fault ≡ Drawing) × ((conn : S) × opened conn × closed conn)))
cause_of opened closed unopened (Ok value) finished was cause shut = tt
cause_of opened closed unopened (Err fault) None was cause shut = inl cause
cause_of opened closed unopened (Err fault) (Some conn) was cause shut =
    inr (cause, (conn, was, shut))
