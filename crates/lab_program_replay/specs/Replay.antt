-- What a replay does with its input: it runs the events that the input begins with, each by itself
-- and in order, and stops at the end of the input, at what is no event, or at a fault.
use Rattle.std.specs.Prelude.{◌≡◌, ◌<◌, ℕ, List, [], ◌∷◌, ◌++◌, length, take, map, Option, Ok, Err, Result, IfSome, IfOk}
use Rattle.std.specs.Io.KnownBytes.{Keeps, Appends}
use Rattle.lab_forms_streams.specs.declared.sending.WriteFault.{WriteFault as Untold}
use Rattle.lab_records_keeper.specs.Worlds.{World}
use Rattle.lab_desk_events.specs.declared.events.Event.{Event as EventRead}
use Rattle.lab_desk_events.specs.Alone.{happening}
use Rattle.lab_desk_events.specs.Runs.{Handled, IsRun, answers_of}
use Rattle.lab_program_replay.specs.declared.fault.ReplayFault.{ReplayFault}
use Rattle.lab_program_replay.specs.declared.fault.ReplayFault.TheVariants.{BadEvent, ReadFault, WriteFault, Storage, Memory}
use Rattle.lab_program_replay.specs.Event.{Next, End, Bad, Taken, next_event}
use Rattle.lab_program_replay.specs.Fault.{fault_line}
use Rattle.lab_program_replay.specs.Reading.{event_said}

-- the input begins with these events, and the rest follows them
abbrev pub BeginsWith : List EventRead → List ℕ → List ℕ → Type 0
BeginsWith [] input rest = input ≡ rest
BeginsWith (event ∷ events) input rest =
    (after : List ℕ) × (next_event input ≡ Taken (event_said event) after)
    × BeginsWith events after rest

-- what may follow the events where the replay stopped: nothing after a whole replay, no event after
-- a bad one, and anything after another fault
abbrev pub Stops : Result (Unit {0}) ReplayFault → Next → Type 0
Stops (Ok _) next = next ≡ End
Stops (Err BadEvent) next = next ≡ Bad
Stops (Err ReadFault) next = Unit {0}
Stops (Err WriteFault) next = Unit {0}
Stops (Err Storage) next = Unit {0}
Stops (Err Memory) next = Unit {0}

-- the answers were written in order and whole, and nothing else; after a write fault the last of
-- them is cut to its first bytes
abbrev pub IsWritten : Result (Unit {0}) ReplayFault → List Handled → List ℕ → Type 0
IsWritten (Ok _) handled written = written ≡ answers_of handled
IsWritten (Err WriteFault) handled written =
    (before : List Handled) × (last : Handled) × (sent : ℕ) × (handled ≡ before ++ last ∷ [])
    × (sent < length last.answer) × (written ≡ answers_of before ++ take sent last.answer)
IsWritten (Err BadEvent) handled written = written ≡ answers_of handled
IsWritten (Err ReadFault) handled written = written ≡ answers_of handled
IsWritten (Err Storage) handled written = written ≡ answers_of handled
IsWritten (Err Memory) handled written = written ≡ answers_of handled

-- these are the events that were handled
abbrev pub AreEvents : List EventRead → List Handled → Type 0
AreEvents events handled = map (λ (one : Handled). one.event) handled ≡ map happening events

-- a replay over a keeper of which this is known before and after: the events that the input begins
-- with were run, and their answers were written
pub record Replays (old new : World) (input before after : Option (List ℕ))
    (ending : Result (Unit {0}) ReplayFault) : Type 0 where
  pub events : List EventRead
  pub handled : List Handled
  pub are : AreEvents events handled
  pub written : List ℕ
  pub rest : List ℕ
  pub begins : IfSome input (λ bytes. BeginsWith events bytes rest × Stops ending
      (next_event rest))
  pub run : IsRun old new handled
  pub answered : IsWritten ending handled written
  pub wrote : Appends before after written

-- a fault's line was told whole; where standard error failed, its first bytes were, and not all
abbrev pub IsFaultPrinted : {X : Type 0} → ReplayFault → Result X Untold → Option (List ℕ) → Option
    (List ℕ) → Type 0
IsFaultPrinted fault (Ok _) before after = Appends before after (fault_line fault)
IsFaultPrinted fault (Err untold) before after =
    Appends before after (take untold.sent (fault_line fault)) ×
    (untold.sent < length (fault_line fault))

-- the status, and what standard error was told: nothing after a whole replay, and else the fault
abbrev pub PrintsReplayFault : Result (Unit {0}) ReplayFault → Result ℕ Untold → Option (List ℕ) → Option
    (List ℕ) → Type 0
PrintsReplayFault (Ok _) status before after = (status ≡ Ok 0) × Keeps before after
PrintsReplayFault (Err fault) status before after = IfOk status (λ number. number ≡ 1)
    × IsFaultPrinted fault status before after
