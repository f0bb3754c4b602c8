-- Founding a laboratory over a keeper, and in a file: how it ended, what it made, and what was
-- printed (ISO/IEC 17025:2017, 7.11.2; docs/FORMATS.md has the body and the line).
use Rattle.std.specs.Prelude.{◌≡◌, ◌<◌, ℕ, List, Option, Result, Ok, Err, IfErr, IfOk, IfSome, IsSome, length, take}
use Rattle.std.specs.Io.KnownBytes.{Appends, Keeps}
use Rattle.lab_forms_texts.specs.declared.tick.Tick.{Tick}
use Rattle.lab_records_keeper.specs.declared.keeper.Keeper.{Ghosts}
use Rattle.lab_records_keeper.specs.Worlds.{CommitsAs, Given, IsDurable, Leaves, Lives, Passes, Quiet}
use Rattle.lab_desk_foundings.specs.declared.faults.FoundFault.{FoundFault}
use Rattle.lab_desk_foundings.specs.Faults.{FoundFaultFits, OnBody, OnKept, OnUncommitted}
use Rattle.lab_desk_foundings.specs.Foundings.{Births, Body, Founds, founded_line, founding_in}
use Rattle.lab_desk_events.specs.Causes.{RefusesBirth}
use Rattle.lab_desk_events.specs.Keeping.{Stays}
use Rattle.lab_program_host.specs.Sources.{Drawing, IsDrawn}
use Rattle.lab_program_host.specs.TaskEnds.{TaskEnd}
use Rattle.lab_program_host.specs.Faults.{rehearsal_fault_word}
use Rattle.lab_program_host.specs.declared.faults.ServerFault.TheVariants.{Read, Write, Memory}
use Rattle.lab_program_host.specs.declared.faults.RehearsalFault.{RehearsalFault as FoundingFault}
use Rattle.lab_program_host.specs.declared.faults.RehearsalFault.TheVariants.{Founding, Server}
use Rattle.lab_program_opening.specs.declared.faults.OpenFault.{OpenFault}
use Rattle.lab_program_opening.specs.Faults.{TellsTask}

-- ---- what was printed

-- the line, where all was done; its first bytes, and not all, where the output failed; and else
-- nothing
abbrev pub Prints : List ℕ → Result (Unit {0}) FoundingFault → Option (List ℕ) →
    Option (List ℕ) → Type 0
Prints line (Ok _) before after = Appends before after line
Prints line (Err (Founding fault)) before after = Keeps before after
Prints line (Err (Server Read)) before after = Keeps before after
Prints line (Err (Server Write)) before after =
    (sent : ℕ) × (sent < length line) × Appends before after (take sent line)
Prints line (Err (Server Memory)) before after = Keeps before after

-- ---- what was made

-- what the task `found` is given
pub record FoundTask : Type 0 where
  -- what the clock and the source of random words give, of which its tick is
  pub drawing : Drawing
  -- the laboratory
  pub code : List ℕ
  -- the body, where it is known
  pub body : Option (List ℕ)

-- at a tick a laboratory was founded from a body, and its rows last; the keeper was live, and all that
-- stays true over an event stays so
pub record IsFoundedAt {S : Type 0} (keeper : Ghosts S) (old new : S) (code : List ℕ) (tick : Tick)
    (bytes : List ℕ) : Type 0 where
  pub founds : Founds (keeper.world old) (keeper.world new) (keeper.places old new) code tick
      (founding_in bytes)
  pub durable : IsDurable (keeper.world new)
  pub lives : Lives (keeper.world old) (keeper.world new)
  pub stays : Stays (keeper.world old) (keeper.world new)

-- at a tick the founding of a laboratory from a body was refused, for this fault: every laboratory
-- means what it meant. A crash may leave what it could before, or, where its commit was begun, what
-- that makes; and all that stays true over an event stays so
pub record IsRefusedAt {S : Type 0} (keeper : Ghosts S) (old new : S) (code : List ℕ) (tick : Tick)
    (body : Body) (fault : FoundFault) : Type 0 where
  pub fits : FoundFaultFits (keeper.world old).may_refuse
      (Given (keeper.world old) (keeper.world new) (IsSome ((keeper.world old).meaning code))) code
      tick body fault
  pub same : Leaves (keeper.world old) (keeper.world new)
  pub untouched : OnBody (Err fault) (new ≡ old)
  pub lives : OnKept (Err fault) (Lives (keeper.world old) (keeper.world new))
  pub crash : CommitsAs (Births code tick body) (keeper.world old) (keeper.world new)
  pub quiet : OnUncommitted (Err fault) (Quiet (keeper.world old) (keeper.world new))
  pub stays : Stays (keeper.world old) (keeper.world new)

module _ {S : Type 0} (keeper : Ghosts S) (task : FoundTask) where
  module _ (bytes : List ℕ) (old new : S) where
    -- so it was at the tick that was drawn
    abbrev pub IsFounded : Type 0
    IsFounded = (tick : Tick) × IsDrawn task.drawing tick
        × IsFoundedAt keeper old new task.code tick bytes

    -- by how it ended: where the output failed the laboratory is founded all the same; a refusal is
    -- the founding's, at the tick, and has its cause; where body, clock or chance failed, or memory
    -- ran out before, nothing was done
    abbrev pub EndsFounding : Result (Unit {0}) FoundingFault → Type 0
    EndsFounding (Ok _) = IsFounded
    EndsFounding (Err (Founding fault)) = (tick : Tick) × IsDrawn task.drawing tick
        × IsRefusedAt keeper old new task.code tick (founding_in bytes) fault
        × FoundFaultFits (RefusesBirth keeper old new tick task.code (founding_in bytes)) (Unit {0})
        task.code tick (founding_in bytes) fault
    EndsFounding (Err (Server Read)) = new ≡ old
    EndsFounding (Err (Server Write)) = IsFounded
    EndsFounding (Err (Server Memory)) = new ≡ old

  -- how a founding ends, for some bytes as its body: all of the input, where that is known; else
  -- nothing says that they were read
  abbrev pub Ends : S → S → Result (Unit {0}) FoundingFault → Type 0
  Ends old new ending = (bytes : List ℕ) × IfSome task.body (λ all. bytes ≡ all)
      × Given (keeper.world old) (keeper.world new) (EndsFounding bytes old new ending)

  module _ (opened : S → Type 0) where
    -- the founding ended so over a keeper that was opened
    abbrev pub EndsOver : Result (Unit {0}) FoundingFault → Type 0
    EndsOver ending = (old : S) × (new : S) × opened old × Ends old new ending
        × Passes (keeper.world old) (keeper.world new)

    -- so it ended, and the keeper was closed as the founding left it
    abbrev pub EndsClosed : (S → Type 0) → Result (Unit {0}) FoundingFault → Type 0
    EndsClosed closed ending = (ends : EndsOver ending) × closed ends.1

    -- the task `found`, by its status, what was printed and what was told: where the file wasn't
    -- made or opened, that has its cause, and nothing was printed
    pub record IsFounding (closed : S → Type 0) (unmade : OpenFault → Type 0) (end : TaskEnd) :
        Type 0 where
      pub ending : Result (Result (Unit {0}) FoundingFault) OpenFault
      pub ends : IfOk ending (EndsClosed closed)
      pub prints : IfOk ending (λ founding.
          Prints (founded_line task.code) founding end.before end.after)
      pub unbegun : IfErr ending (λ _. Keeps end.before end.after)
      pub cause : IfErr ending unmade
      pub told : TellsTask rehearsal_fault_word ending end.status end.told_before end.told_after
