-- Definitions for proofs only, which belong to specs/Passwords.antt: no clause names them.
use Rattle.std.specs.Prelude.{Bool, true, ◌&&◌}
use Rattle.lab_people_access.specs.declared.passwords.Password.{Password}
use Rattle.lab_people_access.specs.declared.passwords.Password.TheVariants.{Unset, Chosen, OneTime}
use Rattle.lab_people_access.specs.Passwords.{are_rounds}

-- each verifier of a password has
abbrev pub is_by_rounds : Password → Bool
is_by_rounds Unset = true
is_by_rounds (Chosen verifier changed) = are_rounds verifier.rounds
is_by_rounds (OneTime first second confirmed) = are_rounds first.rounds && are_rounds second.rounds
