-- A replay: the events that the input begins with are run over no laboratories, and their answers
-- are written (docs/FORMATS.md has the input). Nothing but the input decides what is answered, so
-- that a copy of the input is a true copy of the run (21 CFR 11.10(b)).
use Rattle.std.specs.Prelude.{ℕ, List, All, Option, None, Result, IfSome}
use Rattle.std.specs.Io.KnownBytes.{Appends}
use Rattle.lab_forms_streams.specs.declared.sending.WriteFault.{WriteFault as Untold}
use Rattle.lab_records_keeper.specs.Worlds.{Meaning}
use Rattle.lab_records_laws.specs.Runs.{IsReleasing}
use Rattle.lab_desk_events.specs.declared.events.Event.{Event}
use Rattle.lab_desk_events.specs.Keeping.{OfAll}
use Rattle.lab_desk_events.specs.Runs.{Handled, AreAlone, IsAnswer, KeepsAlong, after_run}
use Rattle.lab_program_replay.specs.declared.fault.ReplayFault.{ReplayFault}
use Rattle.lab_program_replay.specs.Event.{next_event}
use Rattle.lab_program_replay.specs.Replay.{AreEvents, BeginsWith, IsWritten, Stops, PrintsReplayFault}

-- there is no laboratory
abbrev pub nobody : Meaning
nobody code = None

-- the events that the input begins with were handled and their answers written; each is answered as
-- it may be, each laboratory's answers are those of its own machine, run from nothing over its own
-- events alone, at each event every laboratory keeps what was, and in the end each is bound and
-- under dual control
pub record ReplaysFromNothing (input before after : Option (List ℕ))
    (ending : Result (Unit {0}) ReplayFault) : Type 0 where
  pub events : List Event
  pub handled : List Handled
  pub are : AreEvents events handled
  pub written : List ℕ
  pub rest : List ℕ
  pub begins : IfSome input (λ bytes. BeginsWith events bytes rest × Stops ending
      (next_event rest))
  pub each : All (IsAnswer (Unit {0})) handled
  pub alone : AreAlone nobody handled
  pub keeps : KeepsAlong nobody handled
  pub releasing : OfAll IsReleasing (after_run nobody handled)
  pub answered : IsWritten ending handled written
  pub wrote : Appends before after written

-- a replay, by its status and what standard error was told
pub record IsReplay (input before after told_before told_after : Option (List ℕ))
    (status : Result ℕ Untold) : Type 0 where
  pub ending : Result (Unit {0}) ReplayFault
  pub replays : ReplaysFromNothing input before after ending
  pub tells : PrintsReplayFault ending status told_before told_after
