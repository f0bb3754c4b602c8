-- A replay over no laboratories: what is said of a store that has none, and of its run.
use Rattle.std.proofs.Common.{◌≡◌, ◌∙◌, ◌==◌, if◌then◌else◌, ℕ, List, [], Option, None, Some, refl, ap, subst}
use Rattle.std.specs.Prelude.{Err, IfSome, Result, unwrap_or}
use Rattle.std.specs.Io.Buffered.{reader_remaining, reader_inner, reader_buffer, reader_capacity}
use Rattle.std.specs.Io.KnownBytes.{prepend_known}
use Rattle.std.specs.declared.io.BufReader.{BufReader}
use Rattle.std.proofs.KnownBytes.{Appends-nil}
use Rattle.std.proofs.lemmas.List.Elements.{All-nil}
use Rattle.sqlite.specs.State.{State}
use Rattle.lab_records_kept.specs.declared.labs.Lab.{Lab}
use Rattle.lab_records_kept.specs.Limits.{IsWithin}
use Rattle.lab_records_keeper.specs.Worlds.{Meaning, World}
use Rattle.lab_records_laws.specs.Runs.{IsReleasing}
use Rattle.lab_records_laws.specs.Stepping.{WhereThere}
use Rattle.lab_store.specs.StoreWorlds.{world_of}
use Rattle.lab_desk_events.specs.Alone.{alone_after}
use Rattle.lab_desk_events.specs.Keeping.{AreWithin, OfAll}
use Rattle.lab_desk_events.specs.Runs.{Handled, IsRun, after_run, own_events}
use Rattle.lab_desk_events.proofs.Running.{run_releasing}
use Rattle.lab_program_replay.specs.declared.fault.ReplayFault.{ReplayFault}
use Rattle.lab_program_replay.specs.declared.fault.ReplayFault.TheVariants.{BadEvent, ReadFault, WriteFault, Storage, Memory}
use Rattle.lab_program_replay.specs.Event.{next_event}
use Rattle.lab_program_replay.specs.Fault.{IsReaderFault}
use Rattle.lab_program_replay.specs.Replay.{BeginsWith, IsWritten, Replays, Stops}
use Rattle.lab_program_replay.specs.Private.Replays.{IsBeginFault}
use Rattle.lab_program_replay.specs.Replays.{ReplaysFromNothing, nobody}

-- ---- nothing was begun

stops_none : (fault : ReplayFault) (input : Option (List ℕ)) → IsBeginFault fault
    → IfSome input (λ bytes. BeginsWith [] bytes (unwrap_or input [])
    × Stops (Err fault) (next_event (unwrap_or input [])))
stops_none fault None h = tt
stops_none BadEvent (Some bytes) h = absurd h
stops_none ReadFault (Some bytes) h = (refl, tt)
stops_none WriteFault (Some bytes) h = absurd h
stops_none Storage (Some bytes) h = (refl, tt)
stops_none Memory (Some bytes) h = (refl, tt)

nothing_written : (fault : ReplayFault) → IsBeginFault fault → IsWritten (Err fault) [] []
nothing_written BadEvent h = absurd h
nothing_written ReadFault h = refl
nothing_written WriteFault h = absurd h
nothing_written Storage h = refl
nothing_written Memory h = refl

pub never_begun : (fault : ReplayFault) (input before : Option (List ℕ)) → IsBeginFault fault →
    ReplaysFromNothing input before before (Err fault)
never_begun fault input before h = record {
  events = [];
  handled = [];
  are = refl;
  written = [];
  rest = unwrap_or input [];
  begins = stops_none fault input h;
  each = All-nil _;
  alone = λ code. refl;
  keeps = tt;
  releasing = λ code. tt;
  answered = nothing_written fault h;
  wrote = Appends-nil before;
}

-- a reader's fault is one
pub begin_of_reader : (fault : ReplayFault) → IsReaderFault fault → IsBeginFault fault
begin_of_reader BadEvent h = h
begin_of_reader ReadFault h = tt
begin_of_reader WriteFault h = h
begin_of_reader Storage h = tt
begin_of_reader Memory h = tt

-- ---- a run over a store without laboratories

-- each laboratory is within its limits where there is none
none_within : (lab : Option Lab) → lab ≡ None → WhereThere IsWithin lab
none_within None none = tt
none_within (Some lab) none = absurd (cc)

-- each laboratory is within its limits where there is none
pub none_beyond : (world : World) → ((code : List ℕ) → world.meaning code ≡ None) → AreWithin world
none_beyond world none = λ live code. none_within (world.meaning code) (none code)

-- a keeper that tells these laboratories
abbrev telling : Meaning → World
telling meaning = record {
  meaning = meaning;
  is_honest = Unit {0};
  is_live = Unit {0};
  is_reached = Unit {0};
  faults = 0;
  may_refuse = Unit {0};
  may_leave = λ held. Unit {0};
  is_safe = Unit {0};
}

module _ (s : State) (new : World) (none : (code : List ℕ) → (world_of s).meaning code ≡ None)
    (handled : List Handled) (run : IsRun (world_of s) new handled) where
  -- the same run, from nothing
  run_from_nobody : IsRun (telling nobody) (telling (after_run nobody handled)) handled
  run_from_nobody = record {
    each = run.each;
    alone = λ start tells. run.alone start (λ live code. none code ∙ tells tt code);
    keeps = λ start tells. run.keeps start (λ live code. none code ∙ tells tt code);
    after = λ start tells live code.
        ap (λ lab. alone_after code lab (own_events code handled)) (tells tt code);
  }

  pub releases_from_nobody : OfAll IsReleasing (after_run nobody handled)
  releases_from_nobody =
      run_releasing (telling nobody) (telling (after_run nobody handled)) handled (λ live. tt)
      run_from_nobody (λ live code. tt) tt

-- a replay over a store without laboratories is one from nothing
pub from_nobody : (s : State) (new : World) (input now before after : Option (List ℕ))
    (ending : Result (Unit {0}) ReplayFault) →
    ((code : List ℕ) → (world_of s).meaning code ≡ None) → now ≡ input
    → Replays (world_of s) new now before after ending
    → ReplaysFromNothing input before after ending
from_nobody s new input now before after ending none same replays =
    subst (λ known. ReplaysFromNothing known before after ending) same (record {
      events = replays.events;
      handled = replays.handled;
      are = replays.are;
      written = replays.written;
      rest = replays.rest;
      begins = replays.begins;
      each = replays.run.each;
      alone = replays.run.alone nobody (λ live. none);
      keeps = replays.run.keeps nobody (λ live. none);
      releasing = releases_from_nobody s new none replays.handled replays.run;
      answered = replays.answered;
      wrote = replays.wrote;
    })

-- ---- a fresh reader

prepend_nothing : (known : Option (List ℕ)) → prepend_known [] known ≡ known
prepend_nothing None = refl
prepend_nothing (Some bytes) = refl

known_fresh : (capacity : ℕ) (buffer : List ℕ) (known : Option (List ℕ)) → capacity ≡ 8192 →
    buffer ≡ []
    → (if capacity == 0 then None else prepend_known buffer known) ≡ known
known_fresh capacity buffer known large none = rw (large, none) (prepend_nothing known)

pub fresh_reader : {T A : Type 0} (remaining : T → Option (List ℕ)) (reader : BufReader T A)
    (inner : T) → reader_inner reader ≡ inner → reader_buffer reader ≡ []
    → reader_capacity reader ≡ 8192 → reader_remaining remaining reader ≡ remaining inner
fresh_reader remaining reader inner same none large =
    known_fresh (reader_capacity reader) (reader_buffer reader)
    (remaining (reader_inner reader)) large none ∙ ap remaining same
