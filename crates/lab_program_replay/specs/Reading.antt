-- What the readers of events answer, in terms of what the text says: a reader gives what is there,
-- and a bad event where nothing is, unless memory runs out or the input fails.
use Rattle.std.specs.Prelude.{◌≡◌, ℕ, List, Option, Some, None, Ok, Err, Result}
use Rattle.lab_program_replay.specs.declared.fault.ReplayFault.{ReplayFault}
use Rattle.lab_program_replay.specs.declared.fault.ReplayFault.TheVariants.{BadEvent, WriteFault}
use Rattle.lab_desk_events.specs.declared.events.Event.{Event as EventRead}
use Rattle.lab_desk_events.specs.declared.events.Event.TheVariants.{Found, Call}
use Rattle.lab_program_replay.specs.Event.{Event, Next, End, Bad, Taken}

-- an event that was read, in plain values
abbrev pub event_said : EventRead → Event
event_said (Found lab tick body) = record {
  founded = Some lab;
  moment = tick.moment;
  words = tick.words;
  bytes = body;
}
event_said (Call tick bytes) = record {
  founded = None;
  moment = tick.moment;
  words = tick.words;
  bytes = bytes;
}

-- the next event was taken, and what follows it is left; or there was none
abbrev pub TakesNext : Next → Option (List ℕ) → Result (Option EventRead) ReplayFault → Type 0
TakesNext next left (Ok None) = next ≡ End
TakesNext next left (Ok (Some event)) =
    (rest : List ℕ) × (next ≡ Taken (event_said event) rest) × (left ≡ Some rest)
TakesNext next left (Err BadEvent) = next ≡ Bad
TakesNext next left (Err WriteFault) = ⊥
TakesNext next left (Err _) = Unit {0}
