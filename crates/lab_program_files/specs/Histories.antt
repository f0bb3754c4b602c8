-- An installation's history: tasks over one file, one after the other, each of which finds what a
-- crash at the stop before it may have left, or its close; and what is true over all of it (21 CFR
-- 11.10(a) and (c); ISO/IEC 17025:2017, 7.11.3(c), "be protected from unauthorized access", and
-- (e), "system failures").
use Rattle.std.specs.Prelude.{◌≡◌, ◌⊎◌, ℕ, List, [], ◌∷◌, All}
use Rattle.sqlite_disk.specs.declared.Disk.{Ghosts as DiskOf}
use Rattle.sqlite_wal.specs.Recovery.{Image}
use Rattle.sqlite_store.specs.declared.store.FileStore.{FileStore}
use Rattle.sqlite_store.specs.FileStore.{recovers, view}
use Rattle.sqlite.specs.Files.{file_state, over_files}
use Rattle.sqlite.specs.Held.{Held, IsConnected}
use Rattle.sqlite.specs.State.{HasCleanDisk}
use Rattle.lab_forms_texts.specs.declared.tick.Tick.{Tick}
use Rattle.lab_records_kept.specs.Limits.{IsWithin}
use Rattle.lab_records_keeper.specs.Worlds.{Meaning, Passes, SameMeaning, World}
use Rattle.lab_records_laws.specs.Runs.{IsReleasing}
use Rattle.lab_records_copy_out.specs.Resting.{IsOnlyRead}
use Rattle.lab_store_tables.specs.Schema.{lab_schema}
use Rattle.lab_desk_foundings.specs.declared.faults.FoundFault.{FoundFault}
use Rattle.lab_desk_foundings.specs.Faults.{found_fault_entry, is_taken}
use Rattle.lab_desk_foundings.specs.Foundings.{founding_in, refused_line}
use Rattle.lab_desk_events.specs.Alone.{Founding}
use Rattle.lab_desk_events.specs.Keeping.{GivenWithin, OfAll}
use Rattle.lab_desk_events.specs.Runs.{Handled, IsAnswer, IsAccountOf}
use Rattle.lab_desk_events.specs.Starts.{AreMadeAt, Start, answers_at, machine_after, machine_at}
use Rattle.lab_program_opening.specs.Files.{AreHeldIn, Finds, IsNewFrom, IsOursFrom, LeavesShown}
use Rattle.lab_program_serve.specs.Runs.{AreBrought}
use Rattle.lab_program_serve.specs.Visits.{AreVisits, GoesOn, Visit}
use Rattle.lab_program_files.specs.FileWorlds.{file_keeper, file_rests, file_world}
use Rattle.lab_program_files.specs.Foundings.{IsFoundedAt, IsRefusedAt}
use Rattle.lab_program_files.specs.Starts.{IsRunOver, founding_answered}
use Rattle.lab_program_files.specs.Stops.{Lies}

-- ---- a task

pub data Task : Type 0 where
  -- a laboratory of this code was founded, at this tick from these bytes
  Founded : List ℕ → Tick → List ℕ → Task
  -- so it was to be, and was refused for this fault
  Refused : List ℕ → Tick → List ℕ → FoundFault → Task
  -- these connections were served, over a desk that held this reply first
  Served : List ℕ → List Visit → Task
  -- what was there was read alone, as for a copy
  Copied : Task
  -- the laboratories of an old file were put into it, before the history begins
  Moved : Task

-- a founding that was refused, and the line that `Desk::run` answers to it
abbrev pub founding_refused : List ℕ → Tick → List ℕ → FoundFault → Handled
founding_refused code tick bytes fault = record {
  event = Founding code tick bytes;
  taken = is_taken fault;
  answer = refused_line (found_fault_entry fault);
}

-- these are the events of a task, with what was answered to each
abbrev pub AreEventsOf : Task → List Handled → Type 0
AreEventsOf (Founded code tick bytes) handled = handled ≡ founding_answered code tick bytes ∷ []
AreEventsOf (Refused code tick bytes fault) handled =
    handled ≡ founding_refused code tick bytes fault ∷ []
AreEventsOf (Served reply visits) handled = AreBrought visits handled
AreEventsOf Copied handled = handled ≡ []
AreEventsOf Moved handled = handled ≡ []

-- a task over the file, from its opening to its stop
pub record Work (D : Type 0) (g : DiskOf D) : Type 0 where
  pub task : Task
  -- what the file and its log held when it was opened
  pub held : Image
  -- the connection as it was opened, and as the task left it
  pub opened : Held (FileStore D g)
  pub last : Held (FileStore D g)

module _ {D : Type 0} {g : DiskOf D} where
  -- what is known of the file at the opening, and at the stop
  abbrev pub world_opened : Work D g → World
  world_opened work = file_world over_files work.opened

  abbrev pub world_left : Work D g → World
  world_left work = file_world over_files work.last

  -- what a task says that it did of the connection: `IsFounding`, `IsTime`, `IsCopying` and `Moves`
  -- have it
  abbrev pub Does : Task → Held (FileStore D g) → Held (FileStore D g) → Type 0
  Does (Founded code tick bytes) opened last =
      IsFoundedAt (file_keeper over_files) opened last code tick bytes
  Does (Refused code tick bytes fault) opened last =
      IsRefusedAt (file_keeper over_files) opened last code tick (founding_in bytes) fault
  Does (Served reply visits) opened last = AreVisits (file_keeper over_files)
      (GoesOn (file_keeper over_files)) reply opened visits last
  Does Copied opened last = IsOnlyRead (file_world over_files) (file_rests over_files) opened last
  Does Moved opened last = (last ≡ opened) × LeavesShown (file_state opened)

  -- where every laboratory was within its limits, the file is honest, and its tables were well kept
  pub record IsDone (work : Work D g) : Type 0 where
    pub does : GivenWithin (world_opened work) (world_left work)
        (Does work.task work.opened work.last)
    pub passes : Passes (world_opened work) (world_left work)

  -- and so it is a run over the file, as one of `Desk::run`
  pub record IsTaskRun (work : Work D g) : Type 0 where
    pub handled : List Handled
    pub are : AreEventsOf work.task handled
    pub run : IsRunOver over_files work.opened work.last handled

  -- ---- from one opening to the next

  -- a history begins with an opening that found these laboratories, each within its limits, bound
  -- and under dual control, in well-kept tables, so that a crash at once leaves them alone
  pub record Begins (first : Meaning) (work : Work D g) : Type 0 where
    pub found : SameMeaning first (world_opened work).meaning
    pub live : (world_opened work).is_live
    pub reached : (world_opened work).is_reached
    pub safe : (world_opened work).is_safe
    pub alone : (held : Meaning) → (world_opened work).may_leave held →
        SameMeaning (world_opened work).meaning held
    pub within : OfAll IsWithin first
    pub releasing : OfAll IsReleasing first

  -- `may` is the premise on the path and on the bytes that are supposed to lie there: the file and
  -- its log hold some that the stop may have left, which fails where another program wrote them, or
  -- the disk lost what it had synchronized. `connected` is true of each connection
  pub record Leaves (work : Work D g) (held : Image) : Type 0 where
    pub honest : HasCleanDisk (file_state work.last)
    pub connected : IsConnected (view work.last.store) (recovers work.last.store) work.last.schema
        work.last.saved work.last.in_transaction
    pub may : Lies work.last held

  -- the next task opened it, by `open_file` or `make_file`; and the text of the schema that it
  -- found is the schema's text, which fails where another program changed a table
  pub record Reopens (work next : Work D g) : Type 0 where
    pub leaves : Leaves work next.held
    pub found : Held (FileStore D g)
    pub finds : Finds over_files (AreHeldIn next.held) found
    pub schema : (file_state found).now.schema ≡ lab_schema
    pub opened : IsOursFrom over_files found next.opened ⊎ IsNewFrom over_files found next.opened

  -- ---- a history

  -- this task was done, and then the others, each of which opened what the one before it left
  abbrev pub AreDone : Work D g → List (Work D g) → Type 0
  AreDone work [] = IsDone work
  AreDone work (next ∷ others) = IsDone work × Reopens work next × AreDone next others

  abbrev pub last_of : Work D g → List (Work D g) → Work D g
  last_of work [] = work
  last_of work (next ∷ others) = last_of next others

  -- a task and those after it, over a file that had these laboratories at first; and these are such
  -- as a crash at the last stop may leave
  pub record IsHistory (first : Meaning) (work : Work D g) (others : List (Work D g))
      (left : Meaning) : Type 0 where
    pub begins : Begins first work
    pub done : AreDone work others
    pub honest : HasCleanDisk (file_state (last_of work others).last)
    pub may : (world_left (last_of work others)).may_leave left

  -- ---- what is true of it

  -- the start of a task: what it found, and its events, with what was answered to each. An event
  -- counts as refused only if its answer is one of a refusal
  pub record IsStartOf (work : Work D g) (one : Start) : Type 0 where
    pub found : one.found ≡ (world_opened work).meaning
    pub events : AreEventsOf work.task one.handled
    pub told : IsAccountOf one.events one.taken one.handled
    pub each : All (IsAnswer (world_opened work).may_refuse) one.handled

  -- the starts of these tasks, in order
  abbrev pub AreStartsOf : List (Work D g) → List Start → Type 0
  AreStartsOf [] starts = starts ≡ []
  AreStartsOf (work ∷ works) starts = (one : Start) × (others : List Start)
      × IsStartOf work one × AreStartsOf works others × (starts ≡ one ∷ others)

  -- each laboratory goes on alone: its replies over the whole history, byte for byte, and its rows
  -- at the end are those of its own small machine, which ran over its own events alone: those that
  -- were taken, and for the rows, at a stop, at most one that the store refused and whose commit
  -- was done all the same (`IsMadeIn`). It is within its limits; and each version that it released
  -- is signed by two persons, or three, over the digest of exactly its text (`IsReleasing`)
  pub record GoesOnAlone (first : Meaning) (works : List (Work D g)) (left : Meaning) : Type 0 where
    pub starts : List Start
    pub are : AreStartsOf works starts
    pub made : List (List Handled)
    pub made_at : AreMadeAt starts made
    pub replies : (code : List ℕ) →
        answers_at code starts ≡ machine_at code (first code) starts made
    pub rows : (code : List ℕ) → left code ≡ machine_after code (first code) made
    pub within : OfAll IsWithin left
    pub releasing : OfAll IsReleasing left
