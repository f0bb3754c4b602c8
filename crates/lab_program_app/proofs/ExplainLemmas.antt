-- What words come to that ask for no task.
use Rattle.std.proofs.Common.{◌≡◌, ◌⊎◌, ℕ, List, [], ◌∷◌, Option, Result}
use Rattle.clap.specs.Words.{IsAmong, Kinds}
use Rattle.clap.specs.declared.error.kind.ErrorKind.{ErrorKind}
use Rattle.clap.specs.declared.error.kind.ErrorKind.TheVariants as kind
use Rattle.lab_forms_streams.specs.declared.sending.WriteFault.{WriteFault as Untold}
use Rattle.lab_program_app.specs.Explaining.{Explains, IsExplained}

module _ (before after told_before told_after : Option (List ℕ)) (status : Result ℕ Untold) where
  -- by the kind that was given
  pub explained_by : (kinds : Kinds) (k : ErrorKind) → (k ≡ kind.OutOfMemory) ⊎ IsAmong k kinds →
      Explains k before after told_before told_after status
      → IsExplained kinds before after told_before told_after status
  explained_by [] k given told = tt
  explained_by (first ∷ rest) k given told = (k, given, told)

  pub unexplained : (kinds : Kinds) → kinds ≡ [] →
      IsExplained kinds before after told_before told_after status
  unexplained [] none = tt
  unexplained (first ∷ rest) none = absurd (cc)
