-- Values from outside, so that a wrong rule in the definition does not check: in a laboratory that has dan
-- and one session of his, and no record, setting another person or session makes nothing, nor does a version
-- or a signature of record 1.
use Rattle.std.proofs.Common.{◌≡◌, ℕ, true, false, List, [], ◌∷◌, replicate, refl}
use Rattle.std.specs.Prelude.{codes}
use Rattle.lab_people_access.specs.declared.persons.Person.{Person}
use Rattle.lab_people_access.specs.declared.roles.Role.TheVariants.{Analyst}
use Rattle.lab_people_access.specs.declared.sessions.Session.{Session}
use Rattle.lab_people_access.specs.Roles.{no_roles, with_role}
use Rattle.lab_people_access.specs.Persons.{newcomer}
use Rattle.lab_records_kept.specs.declared.changes.Change.TheVariants.{PersonSet, SessionSet, VersionOpened, SignatureAdded}
use Rattle.lab_records_kept.specs.declared.labs.Lab.{Lab}
use Rattle.lab_records_kept.specs.declared.records.Signature.{Signature}
use Rattle.lab_records_kept.specs.declared.records.Version.{Version}
use Rattle.lab_records_kept.proofs.KnownDefaults.{bare_lab, bare_session}
use Rattle.lab_records_changes.specs.Makes.{makes}

abbrev account : List ℕ → Person
account code = newcomer code (codes "Dan Poe") (with_role no_roles Analyst)

abbrev session : List ℕ → Session
session token = record bare_session { number = 1; person = codes "dan"; token = token; opened = 900; last = 1100 }

abbrev aqua : Lab
aqua = record bare_lab {
  code = codes "aqua";
  name = codes "Aqua Lab";
  last = 1100;
  persons = account (codes "dan") ∷ [];
  sessions = session (replicate 32 7) ∷ [];
}

pub dan_is_set : makes aqua (PersonSet (account (codes "dan"))) ≡ true
dan_is_set = refl

pub nobody_is_set : makes aqua (PersonSet (account (codes "ann"))) ≡ false
nobody_is_set = refl

pub session_is_set : makes aqua (SessionSet (session (replicate 32 7))) ≡ true
session_is_set = refl

pub no_session_is_set : makes aqua (SessionSet (session (replicate 32 8))) ≡ false
no_session_is_set = refl

pub no_version_is_opened : (version : Version) → makes aqua (VersionOpened 1 version) ≡ false
no_version_is_opened version = refl

pub no_signature_is_added : (signature : Signature) → makes aqua (SignatureAdded 1 1 signature) ≡ false
no_signature_is_added signature = refl
