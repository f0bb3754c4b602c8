-- Values from outside, so that a wrong rule in the definitions does not check: with which status words end that ask for no task
-- (docs/FORMATS.md).
use Rattle.std.proofs.Common.{refl, sym, ap, inl, List, ℕ, Bool, false, Ok, Err, true≢false}
use Rattle.std.specs.Prelude.{Option, Result, ◌==◌}
use Rattle.std.specs.Io.KnownBytes.{Keeps}
use Rattle.clap.specs.declared.error.kind.ErrorKind.TheVariants.{DisplayHelp, DisplayVersion, UnknownArgument}
use Rattle.lab_forms_streams.specs.declared.sending.WriteFault.{WriteFault as Untold}
use Rattle.lab_program_app.specs.Explaining.{Explains}

-- the status is 2
abbrev is_two : Result ℕ Untold → Bool
is_two (Ok status) = status == 2
is_two (Err fault) = false

module _ (before after told : Option (List ℕ)) where
  -- help and the version are shown with the status 0, and nothing is told of them
  pub known_shows : Keeps told told
      → Explains DisplayHelp before after told told (Ok 0) × Explains DisplayVersion before after told told (Ok 0)
  known_shows kept = (inl (refl, kept), inl (refl, kept))

  -- a word that is none ends with the status 2, with nothing on standard output, and with no other
  pub known_fault : Keeps before before
      → Explains UnknownArgument before before told after (Ok 2) × (Explains UnknownArgument before before told after (Ok 0) → ⊥)
  known_fault kept = (
    (refl, kept),
    λ told_so. true≢false (ap is_two (sym told_so.0)),
  )
