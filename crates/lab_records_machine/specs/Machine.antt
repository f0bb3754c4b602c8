-- The small machine: one laboratory by itself, what it replies to an instruction and what it is
-- afterwards. It knows no other laboratory, no bytes and no tables.
use Rattle.std.specs.Prelude.{ℕ, nat_lt, nat_le, List, length, Option, Some, None, if◌then◌else◌}
use Rattle.sha2.specs.Sha256.{sha256}
use Rattle.lab_forms_texts.specs.declared.tick.Tick.{Tick}
use Rattle.lab_people_access.specs.declared.persons.Person.{Person}
use Rattle.lab_people_access.specs.declared.policy.Rule.{Rule}
use Rattle.lab_people_access.specs.declared.sessions.Session.{Session}
use Rattle.lab_people_access.specs.declared.refusals.PeopleRefusal.{PeopleRefusal}
use Rattle.lab_people_access.specs.declared.refusals.PeopleRefusal.TheVariants.{NoSession, Credentials, LabFull}
use Rattle.lab_people_access.specs.Policy.{denial}
use Rattle.lab_people_access.specs.Sessions.{is_live, touched_session}
use Rattle.lab_records_kept.specs.declared.labs.Lab.{Lab}
use Rattle.lab_records_kept.specs.declared.trails.Deed.{Deed}
use Rattle.lab_records_kept.specs.Limits.{count_limit}
use Rattle.lab_records_kept.specs.Lookups.{session_at, caller_of}
use Rattle.lab_records_kept.specs.Changes.{with_session}
use Rattle.lab_records_machine.specs.declared.commands.Command.{Command}
use Rattle.lab_records_machine.specs.declared.commands.Command.TheVariants.{Card, Open, In}
use Rattle.lab_records_machine.specs.declared.commands.SessionCommand.{SessionCommand}
use Rattle.lab_records_machine.specs.declared.commands.Instruction.{Instruction}
use Rattle.lab_records_machine.specs.declared.passages.Passage.{Passage}
use Rattle.lab_records_machine.specs.declared.passages.Passage.TheVariants.{Stranger, Barred, Passes}
use Rattle.lab_records_rules.specs.declared.refusals.Refusal.TheVariants.{NoSuchLab, ClockBehind, People}
use Rattle.lab_records_machine.specs.declared.replies.Reply.{Reply}
use Rattle.lab_records_machine.specs.declared.replies.Reply.TheVariants.{Refused, Card as ShowsCard}
use Rattle.lab_records_machine.specs.Policy.{rule_of}
use Rattle.lab_records_machine.specs.Cases.{Case, Refuses, Fails, Reads, Makes, told, failed}
use Rattle.lab_records_machine.specs.Own.{own, opening_case}

-- ---- how far a command in a session gets

-- the person of a live session, by the policy
abbrev pub allowed_passage : Session → Person → Option PeopleRefusal → Passage
allowed_passage session caller None = Passes session caller
allowed_passage session caller (Some refusal) = Barred session (People refusal)

-- with a session that was found, and its person
abbrev pub passage : Option Session → Option Person → ℕ → Rule → Passage
passage (Some session) (Some caller) moment rule =
    if is_live session moment then allowed_passage session caller (denial caller rule moment)
    else Stranger
passage _ _ moment rule = Stranger

-- the session that an instruction names
abbrev pub named_session : Lab → Option (List ℕ) → Option Session
named_session lab None = None
named_session lab (Some token) = session_at lab (sha256 token)

-- ---- what comes of it

-- what is replied, and the laboratory afterwards
pub record Stepped : Type 0 where
  pub reply : Reply
  pub after : Option Lab

abbrev pub stays : Lab → Reply → Stepped
stays lab reply = record { reply = reply; after = Some lab }

-- a full trail refuses last; else the deed is told
abbrev pub made : Lab → Lab → ℕ → List ℕ → Reply → Deed → Stepped
made before after moment person reply deed =
    if nat_le count_limit (length before.trail) then stays before (Refused (People LabFull))
    else stays (told moment (Some person) deed after) reply

-- the end of a command in a session, whose moment was taken
abbrev pub ended : Lab → ℕ → List ℕ → Case → Stepped
ended lab moment person (Refuses refusal) = stays lab (Refused refusal)
ended lab moment person (Fails occasion failure) =
    stays (failed lab moment occasion failure) (Refused (People Credentials))
ended lab moment person (Reads reply) = stays lab reply
ended lab moment person (Makes reply deed after) = made lab after moment person reply deed

-- a request came by the session at the moment
abbrev pub touched : Lab → ℕ → Session → Lab
touched lab moment session = record lab {
  last = moment;
  sessions = with_session (touched_session moment session) lab.sessions;
}

-- the last moment of a laboratory
abbrev pub at_moment : ℕ → Lab → Lab
at_moment moment lab = record lab { last = moment }

-- an opening notes its moment where it is accepted, and where the password fails; else it changes
-- nothing
abbrev pub opened : Lab → ℕ → List ℕ → Case → Stepped
opened lab moment code (Refuses refusal) = stays lab (Refused refusal)
opened lab moment code (Fails occasion failure) =
    stays (failed (at_moment moment lab) moment occasion failure) (Refused (People Credentials))
opened lab moment code (Reads reply) = stays lab reply
opened lab moment code (Makes reply deed after) =
    made lab (at_moment moment after) moment code reply deed

-- a command in a session, by how far it gets
abbrev pub answered_in : Lab → Tick → SessionCommand → Passage → Stepped
answered_in lab tick command Stranger = stays lab (Refused (People NoSession))
answered_in lab tick command (Barred session refusal) =
    stays (touched lab tick.moment session) (Refused refusal)
answered_in lab tick command (Passes session caller) =
    ended (touched lab tick.moment session) tick.moment caller.code
    (own (touched lab tick.moment session) tick (touched_session tick.moment session) caller
    command)

-- the laboratory's answer, by the session that the instruction names
abbrev pub answered : Lab → Tick → Option Session → Command → Stepped
answered lab tick session Card = stays lab (ShowsCard lab.code lab.name)
answered lab tick session (Open code password) =
    opened lab tick.moment code (opening_case lab tick code password)
answered lab tick session (In command) =
    answered_in lab tick command
    (passage session (caller_of lab session) tick.moment (rule_of command))

-- one step: the clock first
abbrev pub step : Option Lab → Tick → Instruction → Stepped
step None tick instruction = record { reply = Refused NoSuchLab; after = None }
step (Some lab) tick instruction =
    if nat_lt tick.moment lab.last then stays lab (Refused ClockBehind)
    else answered lab tick (named_session lab instruction.token) instruction.command
