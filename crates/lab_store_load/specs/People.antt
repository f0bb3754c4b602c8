-- Who of a laboratory is meant.
use Rattle.std.specs.Prelude.{option_and_then}
use Rattle.lab_records_kept.specs.declared.labs.Lab.{Lab}
use Rattle.lab_records_kept.specs.declared.needs.Need.{Need}
use Rattle.lab_records_kept.specs.Lookups.{session_at, person_at, caller_of}
use Rattle.lab_store_load.specs.declared.people.People.{People}

-- the session of a token, whose it is, and the person of a code
abbrev pub people_by : Lab → Need → People
people_by lab need = record {
  session = option_and_then (session_at lab) need.token;
  caller = caller_of lab (option_and_then (session_at lab) need.token);
  person = option_and_then (person_at lab) need.person;
}
