-- A start over a file and its stop, and the starts so far, of which the next one finds what they
-- left (21 CFR 11.10(c), "protection of records to enable their accurate and ready retrieval
-- throughout the records retention period"; ISO/IEC 17025:2017, 7.11.3(e), "system failures").
use Rattle.std.specs.Prelude.{ℕ, List, map, true}
use Rattle.sqlite_trees.specs.declared.store.Store.{Ghosts}
use Rattle.sqlite.specs.Held.{Held}
use Rattle.lab_forms_texts.specs.declared.tick.Tick.{Tick}
use Rattle.lab_records_keeper.specs.Worlds.{Meaning, Passes, SameMeaning}
use Rattle.lab_desk_foundings.specs.Foundings.{founded_line}
use Rattle.lab_desk_events.specs.Alone.{Founding}
use Rattle.lab_desk_events.specs.Leaving.{LeavesRun}
use Rattle.lab_desk_events.specs.Runs.{Handled, IsRun}
use Rattle.lab_desk_events.specs.Starts.{AreStarts, Start, left_by}
use Rattle.lab_program_serve.specs.Runs.{AreBrought}
use Rattle.lab_program_serve.specs.Visits.{Visit}
use Rattle.lab_program_files.specs.FileWorlds.{file_world}

-- over a file, from its opening to its stop, events were handled: what `Desk::run` says (`alone`,
-- `leaves`, `passes`, and after a write fault `cut`, `leaves_cut`). No fault had shut the file
-- before the last of them
pub record IsRunOver {S : Type 0} (disk : Ghosts S) (opened last : Held S)
    (handled : List Handled) : Type 0 where
  pub run : IsRun (file_world disk opened) (file_world disk last) handled
  pub leaves : LeavesRun (Unit {0}) (file_world disk opened) (file_world disk last)
      (map (λ (one : Handled). one.event) handled) (map (λ (one : Handled). one.taken) handled)
  pub passes : Passes (file_world disk opened) (file_world disk last)

-- what was served over a file, from its opening until it was given up, is such a run: its events are
-- the requests that were handled
pub record IsServedOver {S : Type 0} (disk : Ghosts S) (opened last : Held S)
    (visits : List Visit) : Type 0 where
  pub handled : List Handled
  pub are : AreBrought visits handled
  pub run : IsRunOver disk opened last handled

-- the founding of a laboratory at a tick, from these bytes, and the line that told of it
abbrev pub founding_answered : List ℕ → Tick → List ℕ → Handled
founding_answered code tick bytes = record {
  event = Founding code tick bytes;
  taken = true;
  answer = founded_line code;
}

-- the start whose events these are: it found these laboratories, and left those
abbrev pub start_of : List Handled → Meaning → Meaning → Start
start_of handled found left = record {
  found = found;
  events = map (λ (one : Handled). one.event) handled;
  taken = map (λ (one : Handled). one.taken) handled;
  handled = handled;
  left = left;
}

-- these were the starts so far, and these are the laboratories that the last one left
abbrev pub AreSoFar : Meaning → List Start → Meaning → Type 0
AreSoFar first starts found = AreStarts first starts × SameMeaning (left_by first starts) found
