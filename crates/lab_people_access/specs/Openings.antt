-- Sessions as they are opened, by a code and a password together (21 CFR 11.300(a), "uniqueness of
-- each combined identification code and password").
use Rattle.std.specs.Prelude.{ℕ, ◌+◌, false, List, Option, Some, None, is_some, Result, Ok, Err, if◌then◌else◌}
use Rattle.sha2.specs.Sha256.{sha256}
use Rattle.lab_forms_texts.specs.declared.tick.Tick.{Tick}
use Rattle.lab_forms_texts.specs.Ordinals.{ordinal_of}
use Rattle.lab_seal_hashes.specs.Words.{token_of}
use Rattle.lab_people_access.specs.declared.persons.Person.{Person}
use Rattle.lab_people_access.specs.declared.sessions.Session.{Session}
use Rattle.lab_people_access.specs.declared.openings.Opened.{Opened}
use Rattle.lab_people_access.specs.declared.refusals.Failure.{Failure}
use Rattle.lab_people_access.specs.declared.refusals.PeopleFault.{PeopleFault}
use Rattle.lab_people_access.specs.declared.refusals.PeopleFault.TheVariants.{Failed, Refused}
use Rattle.lab_people_access.specs.declared.refusals.PeopleRefusal.TheVariants.{RandomRepeated, LabFull}
use Rattle.lab_people_access.specs.Attempts.{attempt_of}
use Rattle.lab_people_access.specs.Passwords.{is_due}

-- the digest of the token that the tick's words make, by which the new session is found
abbrev pub token_digest : Tick → List ℕ
token_digest tick = sha256 (token_of tick.words)

-- a session of the number and of the person of the code, as it is opened
abbrev pub new_session : ℕ → List ℕ → Tick → Session
new_session number code tick = record {
  number = number;
  person = code;
  token = token_digest tick;
  opened = tick.moment;
  last = tick.moment;
  closed = false;
  signed = false;
}

-- what an opening gives
abbrev pub new_opening : ℕ → List ℕ → Tick → Person → Opened
new_opening number code tick person = record {
  person = person;
  session = new_session number code tick;
  token = token_of tick.words;
  due = is_due person.password tick.moment;
}

-- with the next number, where there is one
abbrev pub numbered_opening : Option ℕ → List ℕ → Tick → Person → Result Opened PeopleFault
numbered_opening None code tick person = Err (Refused LabFull)
numbered_opening (Some number) code tick person = Ok (new_opening number code tick person)

-- what follows on the password that was given: `sessions` is how many sessions there have been,
-- and `repeated` is one that has the token already that the tick's words make
abbrev pub opening_by : Result Person Failure → List ℕ → Tick → ℕ → Option Session
    → Result Opened PeopleFault
opening_by (Err failure) code tick sessions repeated = Err (Failed failure)
opening_by (Ok person) code tick sessions repeated =
    if is_some repeated then Err (Refused RandomRepeated)
    else numbered_opening (ordinal_of (sessions + 1)) code tick person

-- a session is opened by a code, whose person was looked up, and a password
unfoldable pub opening : List ℕ → Option Person → List ℕ → Tick → ℕ → Option Session
    → Result Opened PeopleFault
opening code person text tick sessions repeated =
    opening_by (attempt_of person text tick.moment) code tick sessions repeated
