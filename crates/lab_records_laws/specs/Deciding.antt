-- What is decided on a part of a laboratory: the reply, and the changes that are to be made, in
-- order. That this is the step of the whole laboratory is a law (`what_is_decided`), not said here.
use Rattle.std.specs.Prelude.{◌≡◌, ℕ, ◌+◌, Bool, true, false, ◌&&◌, ◌==◌, nat_le, nat_lt, List, [], ◌∷◌, ◌++◌, length, Some, if◌then◌else◌, ⊤}
use Rattle.std.specs.List.{list_any}
use Rattle.lab_forms_texts.specs.declared.tick.Tick.{Tick}
use Rattle.lab_people_access.specs.declared.sessions.Session.{Session}
use Rattle.lab_people_access.specs.declared.sessions.Closing.TheVariants.{All}
use Rattle.lab_people_access.specs.declared.refusals.Failure.{Failure}
use Rattle.lab_people_access.specs.declared.refusals.Failure.TheVariants.{Counted, Locking, AlreadyLocked, Stray}
use Rattle.lab_people_access.specs.declared.refusals.PeopleRefusal.TheVariants.{NoSession, Credentials, LabFull}
use Rattle.lab_people_access.specs.Openings.{opening}
use Rattle.lab_people_access.specs.Sessions.{touched_session}
use Rattle.lab_records_kept.specs.declared.needs.Slice.{Slice}
use Rattle.lab_records_kept.specs.declared.changes.Change.{Change}
use Rattle.lab_records_kept.specs.declared.changes.Change.TheVariants.{Last, Strays, PersonSet, SessionSet, SessionsClosed, TrailAdded}
use Rattle.lab_records_kept.specs.declared.trails.Deed.{Deed}
use Rattle.lab_records_kept.specs.declared.trails.Deed.TheVariants.{Refuse, Lock}
use Rattle.lab_records_kept.specs.declared.trails.Occasion.{Occasion}
use Rattle.lab_records_kept.specs.Limits.{count_limit}
use Rattle.lab_records_kept.specs.Trails.{trail_row_of}
use Rattle.lab_records_rules.specs.declared.refusals.Refusal.TheVariants.{ClockBehind, People}
use Rattle.lab_records_machine.specs.declared.commands.Command.{Command}
use Rattle.lab_records_machine.specs.declared.commands.Command.TheVariants.{Card, Open, In}
use Rattle.lab_records_machine.specs.declared.commands.SessionCommand.{SessionCommand}
use Rattle.lab_records_machine.specs.declared.passages.Passage.{Passage}
use Rattle.lab_records_machine.specs.declared.passages.Passage.TheVariants.{Stranger, Barred, Passes}
use Rattle.lab_records_machine.specs.declared.replies.Reply.{Reply}
use Rattle.lab_records_machine.specs.declared.replies.Reply.TheVariants.{Refused as ToldRefused, Card as ShowsCard}
use Rattle.lab_records_machine.specs.Policy.{rule_of}
use Rattle.lab_records_machine.specs.Cases.{more_strays}
use Rattle.lab_records_machine.specs.Machine.{passage}
use Rattle.lab_records_machine.specs.declared.done.Done.{Done}
use Rattle.lab_records_machine.specs.declared.done.Done.TheVariants.{Refused, Failed, Read, Made}
use Rattle.lab_records_laws.specs.declared.outcome.Outcome.{Outcome}
use Rattle.lab_records_machine.specs.Done.{opened_done, done_of}

-- ---- the rows that the trail is given, where it has so many

-- the row of a deed, in a trail of `rows` rows
abbrev pub trail_row : ℕ → ℕ → List ℕ → Deed → Change
trail_row rows moment person deed = TrailAdded (trail_row_of (rows + 1) moment (Some person) deed)

-- one row, where there is room for it
abbrev pub trail_row_if_room : ℕ → ℕ → List ℕ → Deed → List Change
trail_row_if_room rows moment person deed =
    if nat_le count_limit rows then [] else trail_row rows moment person deed ∷ []

-- two rows, as far as there is room
abbrev pub trail_rows_if_room : ℕ → ℕ → List ℕ → Deed → Deed → List Change
trail_rows_if_room rows moment person first second =
    if nat_le count_limit rows then []
    else trail_row rows moment person first ∷ trail_row_if_room (rows + 1) moment person second

-- what a failed password changes, where the trail has so many rows and so many strays were counted
abbrev pub failure_changes : ℕ → ℕ → ℕ → Occasion → Failure → List Change
failure_changes rows strays moment occasion (Counted person) =
    PersonSet person ∷ trail_row_if_room rows moment person.code (Refuse occasion)
failure_changes rows strays moment occasion (Locking person) =
    PersonSet person ∷ SessionsClosed person.code All
    ∷ trail_rows_if_room rows moment person.code (Refuse occasion) (Lock person.code)
failure_changes rows strays moment occasion (AlreadyLocked person) =
    trail_row_if_room rows moment person.code (Refuse occasion)
failure_changes rows strays moment occasion Stray = Strays (more_strays strays) ∷ []

-- ---- the end of a command

abbrev pub outcome : Reply → List Change → Outcome
outcome reply changes = record { reply = reply; changes = changes }

-- a full trail refuses last; else the deed is told
abbrev pub made_end : ℕ → ℕ → List ℕ → Reply → Deed → List Change → Outcome
made_end rows moment person reply deed own =
    if nat_le count_limit rows then outcome (ToldRefused (People LabFull)) []
    else outcome reply (own ++ trail_row rows moment person deed ∷ [])

-- in a session, where the trail has so many rows and so many strays were counted
abbrev pub end_by : ℕ → ℕ → ℕ → List ℕ → Done → Outcome
end_by rows strays moment person (Refused refusal) = outcome (ToldRefused refusal) []
end_by rows strays moment person (Failed occasion failure) =
    outcome (ToldRefused (People Credentials))
    (failure_changes rows strays moment occasion failure)
end_by rows strays moment person (Read reply) = outcome reply []
end_by rows strays moment person (Made reply deed own) =
    made_end rows moment person reply deed own

-- a failed password changes something, so that memory may be asked for: of a locked account where
-- the trail has room for its row, and else in any case
abbrev pub IsFailureWritten : ℕ → Failure → Type 0
IsFailureWritten rows (Counted person) = ⊤
IsFailureWritten rows (Locking person) = ⊤
IsFailureWritten rows (AlreadyLocked person) = nat_le count_limit rows ≡ false
IsFailureWritten rows Stray = ⊤

-- something is made of it, so that memory may be asked for: of a failed password that changes
-- something, and of a deed where the trail has room for its row
abbrev pub IsWritten : ℕ → Done → Type 0
IsWritten rows (Refused refusal) = ⊥
IsWritten rows (Failed occasion failure) = IsFailureWritten rows failure
IsWritten rows (Read reply) = ⊥
IsWritten rows (Made reply deed own) = nat_le count_limit rows ≡ false

abbrev pub end_on : Slice → ℕ → List ℕ → Done → Outcome
end_on slice moment person done = end_by slice.counts.trail slice.strays moment person done

-- ---- the note that a request came by the session at the moment

-- a change that sets a session
abbrev pub is_session_set : Change → Bool
is_session_set (SessionSet session) = true
is_session_set _ = false

-- what notes it: the laboratory gets the moment, and so does the session, where the request's other
-- changes don't set it (the session that they set has the moment already)
abbrev pub touch_changes : ℕ → Session → List Change → List Change
touch_changes moment session own =
    Last moment ∷ (if list_any is_session_set own then []
    else SessionSet (touched_session moment session) ∷ [])

-- it is noted already: laboratory and session have the moment, and the request changes nothing else
abbrev pub is_noted : ℕ → ℕ → Session → List Change → Bool
is_noted last moment session own =
    (length own == 0) && (last == moment) && (session.last == moment)

-- the note, and then what else the request changes; no change, where it is noted already
abbrev pub noted_changes : ℕ → ℕ → Session → List Change → List Change
noted_changes last moment session own =
    if is_noted last moment session own then [] else touch_changes moment session own ++ own

abbrev pub noted_end : ℕ → ℕ → Session → Outcome → Outcome
noted_end last moment session ended =
    outcome ended.reply (noted_changes last moment session ended.changes)

-- ---- what is decided

-- at an opening, whose moment is noted where it is accepted, and where the password fails
abbrev pub opening_end : Slice → ℕ → List ℕ → Done → Outcome
opening_end slice moment code (Refused refusal) = outcome (ToldRefused refusal) []
opening_end slice moment code (Failed occasion failure) =
    outcome (ToldRefused (People Credentials))
    (Last moment ∷ failure_changes slice.counts.trail slice.strays moment occasion failure)
opening_end slice moment code (Read reply) = outcome reply []
opening_end slice moment code (Made reply deed own) =
    made_end slice.counts.trail moment code reply deed (Last moment ∷ own)

-- a command in a session, by how far it gets
abbrev pub decided_in : Slice → Tick → SessionCommand → Passage → Outcome
decided_in slice tick command Stranger = outcome (ToldRefused (People NoSession)) []
decided_in slice tick command (Barred session refusal) =
    noted_end slice.last tick.moment session (outcome (ToldRefused refusal) [])
decided_in slice tick command (Passes session caller) =
    noted_end slice.last tick.moment session
    (end_on slice tick.moment caller.code
    (done_of slice tick (touched_session tick.moment session) caller command))

-- by the command; for an opening, the part brings the session that has its token
abbrev pub decided_by : Slice → Tick → Command → Outcome
decided_by slice tick Card = outcome (ShowsCard slice.code slice.name) []
decided_by slice tick (Open code password) =
    opening_end slice tick.moment code
    (opened_done
    (opening code slice.person password tick slice.counts.sessions slice.session))
decided_by slice tick (In command) =
    decided_in slice tick command
    (passage slice.session slice.caller tick.moment (rule_of command))

-- what is decided on a part: the clock first
abbrev pub decided : Slice → Tick → Command → Outcome
decided slice tick command =
    if nat_lt tick.moment slice.last then outcome (ToldRefused ClockBehind) []
    else decided_by slice tick command
