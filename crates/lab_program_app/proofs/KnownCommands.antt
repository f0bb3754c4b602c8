-- Values of the definitions in `specs/`, computed: what `clap` finds at fault in the words behind the program's name, which may be any
-- (docs/FORMATS.md has the commands).
use Rattle.std.proofs.Common.{◌≡◌, ℕ, List, [], ◌∷◌, refl, codes}
use Rattle.clap.specs.Words.{fault_of}
use Rattle.clap.proofs.OnLiterals.{clap_on_literals}
use Rattle.clap.specs.declared.error.kind.ErrorKind.TheVariants.{DisplayHelp, DisplayVersion, InvalidSubcommand, MissingSubcommand, MissingRequiredArgument, ValueValidation, UnknownArgument}
use Rattle.lab_program_app.specs.Apps.{labdesk_app}

module _ (program : List ℕ) where
  the_version : fault_of labdesk_app (program ∷ codes "--version" ∷ []) ≡ DisplayVersion ∷ []
  unfolding clap_on_literals
  the_version = refl

  help : fault_of labdesk_app (program ∷ codes "--help" ∷ []) ≡ DisplayHelp ∷ []
  unfolding clap_on_literals
  help = refl

  help_on_a_command : fault_of labdesk_app (program ∷ codes "copy" ∷ codes "--help" ∷ []) ≡ DisplayHelp ∷ []
  unfolding clap_on_literals
  help_on_a_command = refl

  nothing_is_asked_for : fault_of labdesk_app (program ∷ []) ≡ MissingSubcommand ∷ []
  unfolding clap_on_literals
  nothing_is_asked_for = refl

  a_word_that_is_no_command : fault_of labdesk_app (program ∷ codes "relay" ∷ []) ≡ UnknownArgument ∷ InvalidSubcommand ∷ []
  unfolding clap_on_literals
  a_word_that_is_no_command = refl

  a_founding_in_no_file : fault_of labdesk_app (program ∷ codes "found" ∷ codes "--lab=aqua" ∷ []) ≡ MissingRequiredArgument ∷ []
  unfolding clap_on_literals
  a_founding_in_no_file = refl

  a_port_past_the_last : fault_of labdesk_app (program ∷ codes "serve" ∷ codes "--file=labs.db" ∷ codes "--port=65536" ∷ [])
      ≡ ValueValidation ∷ []
  unfolding clap_on_literals
  a_port_past_the_last = refl

  no_connections : fault_of labdesk_app
      (program ∷ codes "serve" ∷ codes "--file=labs.db" ∷ codes "--port=1" ∷ codes "--count=0" ∷ []) ≡ ValueValidation ∷ []
  unfolding clap_on_literals
  no_connections = refl

  too_many_connections : fault_of labdesk_app
      (program ∷ codes "serve" ∷ codes "--file=labs.db" ∷ codes "--port=1" ∷ codes "--count=1000000001" ∷ [])
      ≡ ValueValidation ∷ []
  unfolding clap_on_literals
  too_many_connections = refl

  a_record_past_the_last : fault_of labdesk_app
      (program ∷ codes "copy" ∷ codes "--file=labs.db" ∷ codes "--lab=aqua" ∷ codes "--from=1" ∷ codes "--to=1000000001" ∷ [])
      ≡ ValueValidation ∷ []
  unfolding clap_on_literals
  a_record_past_the_last = refl

  a_rehearsal_without_a_moment : fault_of labdesk_app
      (program ∷ codes "rehearse" ∷ codes "--lab" ∷ codes "aqua" ∷ []) ≡ MissingRequiredArgument ∷ []
  unfolding clap_on_literals
  a_rehearsal_without_a_moment = refl

  a_moment_past_the_last : fault_of labdesk_app
      (program ∷ codes "rehearse" ∷ codes "--lab=aqua" ∷ codes "--moment=253402300800" ∷ [])
      ≡ ValueValidation ∷ []
  unfolding clap_on_literals
  a_moment_past_the_last = refl

  a_move_to_no_file : fault_of labdesk_app (program ∷ codes "migrate" ∷ codes "--old=labs.db" ∷ []) ≡ MissingRequiredArgument ∷ []
  unfolding clap_on_literals
  a_move_to_no_file = refl
