-- Where there are changes, the first of them notes the moment, whatever the part.
use Rattle.std.proofs.Common.{ℕ, Bool, true, false, cond, List, [], ◌∷◌, ◌++◌, refl, nat_le, nat_lt}
use Rattle.lab_forms_texts.specs.declared.tick.Tick.{Tick}
use Rattle.lab_people_access.specs.declared.sessions.Session.{Session}
use Rattle.lab_people_access.specs.declared.refusals.PeopleRefusal.TheVariants.{LabFull}
use Rattle.lab_people_access.specs.Openings.{opening}
use Rattle.lab_people_access.specs.Sessions.{touched_session}
use Rattle.lab_records_kept.specs.declared.needs.Slice.{Slice}
use Rattle.lab_records_kept.specs.declared.changes.Change.{Change}
use Rattle.lab_records_kept.specs.declared.changes.Change.TheVariants.{Last}
use Rattle.lab_records_kept.specs.Limits.{count_limit}
use Rattle.lab_records_rules.specs.declared.refusals.Refusal.TheVariants.{ClockBehind, People}
use Rattle.lab_records_machine.specs.declared.commands.Command.{Command}
use Rattle.lab_records_machine.specs.declared.commands.Command.TheVariants.{Card, Open, In}
use Rattle.lab_records_machine.specs.declared.commands.SessionCommand.{SessionCommand}
use Rattle.lab_records_machine.specs.declared.passages.Passage.{Passage}
use Rattle.lab_records_machine.specs.declared.passages.Passage.TheVariants.{Stranger, Barred, Passes}
use Rattle.lab_records_machine.specs.declared.replies.Reply.{Reply}
use Rattle.lab_records_machine.specs.declared.replies.Reply.TheVariants.{Refused as ToldRefused}
use Rattle.lab_records_machine.specs.Policy.{rule_of}
use Rattle.lab_records_machine.specs.Machine.{passage}
use Rattle.lab_records_machine.specs.declared.done.Done.{Done}
use Rattle.lab_records_machine.specs.declared.done.Done.TheVariants.{Refused, Failed, Read, Made}
use Rattle.lab_records_machine.specs.Done.{opened_done, done_of}
use Rattle.lab_records_laws.specs.declared.outcome.Outcome.{Outcome}
use Rattle.lab_records_laws.specs.Deciding.{trail_row, outcome, end_on, touch_changes, is_noted, noted_end, opening_end, decided_in, decided_by, decided}
use Rattle.lab_records_laws.specs.TakenSteps.{NotesFirst}

abbrev IsNoted : ℕ → Outcome → Type 0
IsNoted moment decided = NotesFirst moment decided.changes

-- a full trail refuses last
made_notes : (full : Bool) (moment : ℕ) (reply refused : Reply) (changes : List Change)
    → NotesFirst moment changes
    → IsNoted moment (cond full (outcome refused []) (outcome reply changes))
made_notes true moment reply refused changes notes = tt
made_notes false moment reply refused changes notes = notes

-- in a session: no change, where the request is noted already
noted_first : (noted : Bool) (moment : ℕ) (session : Session) (own : List Change)
    → NotesFirst moment (cond noted [] (touch_changes moment session own ++ own))
noted_first true moment session own = tt
noted_first false moment session own = refl

session_notes : (last moment : ℕ) (session : Session) (ended : Outcome)
    → IsNoted moment (noted_end last moment session ended)
session_notes last moment session ended =
    noted_first (is_noted last moment session ended.changes) moment session ended.changes

-- at an opening
opening_notes : (slice : Slice) (moment : ℕ) (code : List ℕ) (done : Done)
    → IsNoted moment (opening_end slice moment code done)
opening_notes slice moment code (Refused refusal) = tt
opening_notes slice moment code (Failed occasion failure) = refl
opening_notes slice moment code (Read reply) = tt
opening_notes slice moment code (Made reply deed own) =
    made_notes (nat_le count_limit slice.counts.trail) moment reply (ToldRefused (People LabFull))
    ((Last moment ∷ own) ++ trail_row slice.counts.trail moment code deed ∷ []) refl

in_notes : (slice : Slice) (tick : Tick) (command : SessionCommand) (reached : Passage)
    → IsNoted tick.moment (decided_in slice tick command reached)
in_notes slice tick command Stranger = tt
in_notes slice tick command (Barred session refusal) =
    session_notes slice.last tick.moment session (outcome (ToldRefused refusal) [])
in_notes slice tick command (Passes session caller) =
    session_notes slice.last tick.moment session
    (end_on slice tick.moment caller.code
    (done_of slice tick (touched_session tick.moment session) caller command))

by_notes : (slice : Slice) (tick : Tick) (command : Command)
    → IsNoted tick.moment (decided_by slice tick command)
by_notes slice tick Card = tt
by_notes slice tick (Open code password) =
    opening_notes slice tick.moment code
    (opened_done (opening code slice.person password tick slice.counts.sessions slice.session))
by_notes slice tick (In command) =
    in_notes slice tick command
    (passage slice.session slice.caller tick.moment (rule_of command))

timely_notes : (early : Bool) (moment : ℕ) (refused other : Outcome) → IsNoted moment refused
    → IsNoted moment other → IsNoted moment (cond early refused other)
timely_notes true moment refused other first noted = first
timely_notes false moment refused other first noted = noted

pub decided_notes : (slice : Slice) (tick : Tick) (command : Command)
    → IsNoted tick.moment (decided slice tick command)
decided_notes slice tick command =
    timely_notes (nat_lt tick.moment slice.last) tick.moment (outcome (ToldRefused ClockBehind) [])
    (decided_by slice tick command) tt (by_notes slice tick command)
