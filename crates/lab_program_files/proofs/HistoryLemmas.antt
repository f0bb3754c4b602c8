-- A history goes on by each task: its events are a run, and the next task finds what its stop left.
use Rattle.std.proofs.Common.{◌≡◌, ◌∙◌, List, [], ◌∷◌, None, ap, ap₂, true, inl, inr, refl, subst, sym}
use Rattle.std.specs.Prelude.{IsTrue}
use Rattle.std.proofs.Math.Logic.{∥∥₁_elim, ∥∥₁_map}
use Rattle.std.proofs.lemmas.Bool.{false≢true}
use Rattle.sqlite_disk.specs.declared.Disk.{Ghosts as DiskOf}
use Rattle.sqlite_trees.specs.Tree.{Trees}
use Rattle.sqlite_schema.specs.Names.{same_name}
use Rattle.sqlite_schema.specs.declared.schema.Schema.{Schema}
use Rattle.sqlite_store.specs.declared.store.FileStore.{FileStore}
use Rattle.sqlite_wal.proofs.LogLemmas.{SeenMayStay}
use Rattle.sqlite.specs.Effect.{Database}
use Rattle.sqlite.specs.Files.{file_state, over_files}
use Rattle.sqlite.specs.Held.{Held}
use Rattle.sqlite.specs.Start.{FindsIn}
use Rattle.sqlite.specs.State.{HasCleanDisk, State}
use Rattle.lab_records_kept.specs.declared.labs.Lab.{Lab}
use Rattle.lab_records_kept.specs.Limits.{IsWithin}
use Rattle.lab_records_keeper.specs.Worlds.{Meaning, Passes, SameMeaning}
use Rattle.lab_records_laws.specs.Runs.{IsReleasing}
use Rattle.lab_records_laws.specs.Stepping.{WhereThere}
use Rattle.lab_store_tables.specs.Meaning.{meaning}
use Rattle.lab_store_tables.specs.Ready.{IsAtRest, IsKept, IsReady}
use Rattle.lab_store_tables.specs.Rows.{tables_in}
use Rattle.lab_store_tables.specs.Schema.{lab_schema}
use Rattle.lab_store_tables.specs.WellKept.{IsWellKept}
use Rattle.lab_store_tables.proofs.Tests.{kept_by_tests}
use Rattle.lab_store_files.specs.NewFiles.{IsNewFile, new_tables}
use Rattle.lab_store_files.specs.Schemas.{is_taken as is_named}
use Rattle.lab_desk_events.specs.Keeping.{GivenWithin, LeavesOnly, OfAll}
use Rattle.lab_desk_events.specs.Runs.{Handled}
use Rattle.lab_desk_events.specs.Starts.{AreStarts, Start, left_by}
use Rattle.lab_desk_events.proofs.Leaving.{same_then}
use Rattle.lab_desk_events.proofs.Starting.{starts_alone}
use Rattle.lab_program_opening.specs.Files.{AreHeldIn, IsFound, IsOpened, IsOursFrom, LeavesShown}
use Rattle.lab_program_files.specs.FileWorlds.{file_world}
use Rattle.lab_program_files.specs.Histories.{AreDone, AreEventsOf, AreStartsOf, Begins, Copied, Does, Founded, GoesOnAlone, IsDone, IsHistory, IsStartOf, IsTaskRun, Moved, Refused, Reopens, Served, Task, Work, founding_refused, last_of, world_left, world_opened}
use Rattle.lab_program_files.specs.Starts.{IsRunOver, founding_answered, start_of}
use Rattle.lab_program_files.proofs.StopLemmas.{stop_left}
use Rattle.lab_program_files.proofs.StartLemmas.{answered_so, blank_refused, copied_over, found_blank, founded_over, moved_over, refused_over, served_over, stopped_so}

-- ---- a task is a run
task_run : {D : Type 0} {g : DiskOf D} (task : Task) (opened last : Held (FileStore D g)) →
    Does task opened last → Passes (file_world over_files opened) (file_world over_files last) →
    (file_world over_files opened).is_live →
    GivenWithin (file_world over_files opened) (file_world over_files last)
    ((handled : List Handled) × AreEventsOf task handled
    × IsRunOver over_files opened last handled)
task_run (Founded code tick bytes) opened last does passes live within honest reached = (
  founding_answered code tick bytes ∷ [],
  refl,
  founded_over over_files opened last code tick bytes does passes within,
)
task_run (Refused code tick bytes fault) opened last does passes live within honest reached = (
  founding_refused code tick bytes fault ∷ [],
  refl,
  refused_over over_files opened last code tick bytes fault does passes within live honest reached,
)
task_run (Served reply visits) opened last does passes live within honest reached =
    let served = served_over over_files reply opened last visits (λ _ _ _. does) passes live within
    honest reached in
    (served.handled, served.are, served.run)
task_run Copied opened last does passes live within honest reached =
    ([], refl, copied_over over_files opened last does live honest reached)
task_run Moved opened last does passes live within honest reached =
    ([], refl, moved_over over_files opened last does.0 does.1 passes live (passes.honest honest))

pub work_run : {D : Type 0} {g : DiskOf D} (work : Work D g) → IsDone work →
    (world_opened work).is_live →
    GivenWithin (world_opened work) (world_left work) (IsTaskRun work)
work_run work done live within honest reached =
    let run = task_run work.task work.opened work.last (done.does within honest reached) done.passes
    live within honest reached in
    record { handled = run.0; are = run.1; run = run.2 }

-- ---- what an opening finds

-- what a task is begun with: a crash at once leaves what was found alone, in well-kept tables
record StandsReady {D : Type 0} {g : DiskOf D} (work : Work D g) : Type 0 where
  live : (world_opened work).is_live
  reached : (world_opened work).is_reached
  safe : (world_opened work).is_safe
  alone : (held : Meaning) → (world_opened work).may_leave held →
      SameMeaning (world_opened work).meaning held
  within : OfAll IsWithin (world_opened work).meaning
  releasing : OfAll IsReleasing (world_opened work).meaning

-- what holds of all laboratories that mean the same
same_all : (Holds : Lab → Type 0) (one other : Meaning) → SameMeaning one other →
    OfAll Holds one → OfAll Holds other
same_all Holds one other same holds code = subst (WhereThere Holds) (sym (same code)) (holds code)

begins_ready : {D : Type 0} {g : DiskOf D} (first : Meaning) (work : Work D g) →
    Begins first work → StandsReady work
begins_ready first work begins = record {
  live = begins.live;
  reached = begins.reached;
  safe = begins.safe;
  alone = begins.alone;
  within = same_all IsWithin first (world_opened work).meaning begins.found begins.within;
  releasing = same_all IsReleasing first (world_opened work).meaning begins.found begins.releasing;
}

-- of tables that are shown, and are ours
module _ (s : State) (clean : HasCleanDisk s) (is_open : IsTrue s.is_open)
    (shown : LeavesShown s) (rest : IsAtRest s) (kept : IsKept s.now) where
  shown_ready : IsReady s
  shown_ready = record { at_rest = rest; kept = λ honest opened. kept }

  shown_safe : (trees : Trees) → s.may_leave trees →
      (db : Database) × IsKept db × (trees ≡ db.trees)
  shown_safe trees may = (s.now, kept, shown clean is_open trees may)

  shown_alone : (held : Meaning) → ((trees : Trees) × s.may_leave trees
      × SameMeaning (meaning (tables_in trees)) held) →
      SameMeaning (meaning (tables_in s.now.trees)) held
  shown_alone held left code = left.2 code
      ∙ ap (λ (trees : Trees). meaning (tables_in trees) code)
      (shown clean is_open left.0 left.1)

-- ---- a file without a byte

new_is_kept : (db : Database) → IsNewFile db → IsKept db
new_is_kept db new = record {
  typed = new.typed;
  rows = subst IsWellKept (sym new.tables) (kept_by_tests new_tables refl refl refl refl refl refl
      refl refl refl refl refl refl refl refl);
}

pub begins_new : {D : Type 0} {g : DiskOf D} (work : Work D g) → work.held.db ≡ [] →
    IsOpened over_files (AreHeldIn work.held) work.opened →
    HasCleanDisk (file_state work.opened) → Begins (λ _. None) work
begins_new work none (inl ours) clean =
    absurd (blank_refused over_files work.held none work.opened clean ours)
begins_new work none (inr new) clean =
    let made = new.2.2 clean
    (found_blank work.held none (file_state new.0) (new.1 (new.2.3.clean clean))) in
    let s = file_state work.opened in
    let kept = new_is_kept s.now made.1 in
    record {
      found = λ code. ap (λ t. meaning t code) made.1.tables;
      live = made.0;
      reached = shown_ready s clean made.0 new.2.0 new.2.3.at_rest kept;
      safe = shown_safe s clean made.0 new.2.0 new.2.3.at_rest kept;
      alone = shown_alone s clean made.0 new.2.0 new.2.3.at_rest kept;
      within = λ code. tt;
      releasing = λ code. tt;
    }

-- ---- the next opening

-- tables of these names are there
named_ours : is_named lab_schema ≡ true
unfolding same_name
named_ours = refl

record IsNextFound {D : Type 0} {g : DiskOf D} (work next : Work D g) : Type 0 where
  may : (world_left work).may_leave (world_opened next).meaning
  ready : StandsReady next

module _ {D : Type 0} {g : DiskOf D} (stays : SeenMayStay g) (work next : Work D g)
    (ready : StandsReady work) (run : IsTaskRun work) (reopens : Reopens work next)
    (clean : HasCleanDisk (file_state next.opened)) where
  -- a crash at the stop leaves laboratories of which this holds, where it held of those that were
  -- found
  only_within : LeavesOnly IsWithin (world_opened work)
  only_within held may =
      same_all IsWithin (world_opened work).meaning held (ready.alone held may) ready.within

  only_releasing : LeavesOnly IsReleasing (world_opened work)
  only_releasing held may =
      same_all IsReleasing (world_opened work).meaning held (ready.alone held may) ready.releasing

  module _ (ours : IsOursFrom over_files reopens.found next.opened)
      (found : IsFound (AreHeldIn next.held) (file_state reopens.found))
      (left : (file_state work.last).may_leave (file_state reopens.found).committed.trees) where
    abbrev was : State
    was = file_state reopens.found

    abbrev now : State
    now = file_state next.opened

    same_db : now.now ≡ was.committed
    same_db = (ours.1 clean).1.0.now_is ∙ found.opens.clean

    rest : IsAtRest now
    rest = record {
      alone = (ours.1 clean).1.0.mode ∙ found.opens.autocommit;
      settled = λ honest opened. same_db ∙ sym (ours.1 clean).1.0.committed_is;
    }

    kept_left : (db : Database) × IsKept db × (was.committed.trees ≡ db.trees)
    kept_left = run.run.leaves.safe tt ready.safe was.committed.trees left

    -- what was found has the schema of what was kept, and its trees
    found_is : was.committed ≡ kept_left.0
    found_is = ap₂ (λ (schema : Schema) (trees : Trees). record { schema = schema; trees = trees })
        (ap (λ (db : Database). db.schema) (sym found.opens.clean) ∙ reopens.schema
        ∙ sym kept_left.1.typed.schema) kept_left.2

    kept : IsKept now.now
    kept = subst IsKept (sym (same_db ∙ found_is)) kept_left.1

    may_next : (world_left work).may_leave (world_opened next).meaning
    may_next = (
      was.committed.trees,
      left,
      λ code. ap (λ (db : Database). meaning (tables_in db.trees) code) same_db,
    )

    is_found : IsNextFound work next
    is_found =
        let is_open = (ours.1 clean).1.0.is_open in
        record {
          may = may_next;
          ready = record {
            live = is_open;
            reached = shown_ready now clean is_open ours.0 rest kept;
            safe = shown_safe now clean is_open ours.0 rest kept;
            alone = shown_alone now clean is_open ours.0 rest kept;
            within = run.run.leaves.left_within tt only_within (world_opened next).meaning may_next;
            releasing = run.run.leaves.left_releasing tt (λ live. ready.releasing) only_releasing
                (world_opened next).meaning may_next;
          };
        }

  -- what was found is what a crash at the stop could leave, also where the connection was closed
  left_to : (was : State) → FindsIn next.held was →
      ∥ (file_state work.last).may_leave was.committed.trees ∥₁
  left_to was found =
      let leaves = reopens.leaves in
      stop_left stays work.last leaves.connected leaves.honest next.held leaves.may was found

  ours_found : IsOursFrom over_files reopens.found next.opened → ∥ IsNextFound work next ∥₁
  ours_found ours =
      let found = reopens.finds (ours.1 clean).0 in
      ∥∥₁_map (left_to (file_state reopens.found)
      (record { holds = found.held.holds; reads = found.held.reads }))
      (λ left. is_found ours found left)

  next_found : ∥ IsNextFound work next ∥₁
  next_found = elim reopens.opened [
    | inl ours ↦ ours_found ours
    | inr new ↦ absurd (false≢true (sym new.1 ∙ ap is_named reopens.schema ∙ named_ours))
  ]

-- ---- from one task on

record FromHere {D : Type 0} {g : DiskOf D} (work : Work D g) (others : List (Work D g))
    (left : Meaning) : Type 0 where
  starts : List Start
  are : AreStartsOf (work ∷ others) starts
  go : AreStarts (world_opened work).meaning starts
  ends : SameMeaning (left_by (world_opened work).meaning starts) left
  within : OfAll IsWithin left
  releasing : OfAll IsReleasing left

start_is : {D : Type 0} {g : DiskOf D} (work : Work D g) (left : Meaning)
    (run : IsTaskRun work) →
    IsStartOf work (start_of run.handled (world_opened work).meaning left)
start_is work left run = record {
  found = refl;
  events = run.are;
  told = record { events_are = refl; taken_are = refl };
  each = run.run.run.each;
}

-- the last one
end_here : {D : Type 0} {g : DiskOf D} (work : Work D g) (left : Meaning) → StandsReady work →
    IsTaskRun work → (world_left work).may_leave left → FromHere work [] left
end_here work left ready run may =
    let one = start_of run.handled (world_opened work).meaning left in
    record {
      starts = one ∷ [];
      are = (one, [], start_is work left run, refl, refl);
      go = (
        λ code. refl,
        answered_so over_files work.opened work.last run.handled run.run left,
        stopped_so over_files work.opened work.last run.handled run.run left ready.alone may,
        tt,
      );
      ends = λ code. refl;
      within = run.run.leaves.left_within tt
          (λ held was. same_all IsWithin (world_opened work).meaning held
          (ready.alone held was) ready.within) left may;
      releasing = run.run.leaves.left_releasing tt (λ live. ready.releasing)
          (λ held was. same_all IsReleasing (world_opened work).meaning held (ready.alone held was)
          ready.releasing) left may;
    }

-- one before others
go_here : {D : Type 0} {g : DiskOf D} (work next : Work D g) (others : List (Work D g))
    (left : Meaning) → StandsReady work → IsTaskRun work → IsNextFound work next →
    FromHere next others left → FromHere work (next ∷ others) left
go_here work next others left ready run found rest =
    let one = start_of run.handled (world_opened work).meaning (world_opened next).meaning in
    record {
      starts = one ∷ rest.starts;
      are = (one, rest.starts, start_is work (world_opened next).meaning run, rest.are, refl);
      go = (
        λ code. refl,
        answered_so over_files work.opened work.last run.handled run.run
            (world_opened next).meaning,
        stopped_so over_files work.opened work.last run.handled run.run (world_opened next).meaning
            ready.alone found.may,
        rest.go,
      );
      ends = rest.ends;
      within = rest.within;
      releasing = rest.releasing;
    }

-- a connection that is honest at the end was so at its opening
opened_clean : {D : Type 0} {g : DiskOf D} (work : Work D g) (others : List (Work D g)) →
    AreDone work others → HasCleanDisk (file_state (last_of work others).last) →
    HasCleanDisk (file_state work.opened)
opened_clean work [] done honest = done.passes.honest honest
opened_clean work (next ∷ others) done honest = done.0.passes.honest done.1.leaves.honest

from_here : {D : Type 0} {g : DiskOf D} (stays : SeenMayStay g) (work : Work D g) (others : List (Work D g))
    (left : Meaning) → StandsReady work → AreDone work others →
    HasCleanDisk (file_state (last_of work others).last) →
    (world_left (last_of work others)).may_leave left → ∥ FromHere work others left ∥₁
from_here stays work [] left ready done honest may =
    let run = work_run work done ready.live (λ live. ready.within) honest ready.reached in
    ∣ end_here work left ready run may ∣₁
from_here stays work (next ∷ others) left ready done honest may =
    let run = work_run work done.0 ready.live (λ live. ready.within) done.1.leaves.honest
    ready.reached in
    ∥∥₁_elim (next_found stays work next ready run done.1 (opened_clean next others done.2 honest))
    squash₁
    (λ found. ∥∥₁_map (from_here stays next others left found.ready done.2 honest may)
    (λ rest. go_here work next others left ready run found rest))

-- ---- a whole history

starts_from : (first found : Meaning) (starts : List Start) → SameMeaning first found →
    AreStarts found starts → AreStarts first starts
starts_from first found [] same are = tt
starts_from first found (one ∷ others) same are =
    (same_then first found one.found same are.0, are.1, are.2, are.3)

left_same : (first found : Meaning) (starts : List Start) → SameMeaning first found →
    SameMeaning (left_by first starts) (left_by found starts)
left_same first found [] same = same
left_same first found (one ∷ others) same = λ code. refl

alone_from : {D : Type 0} {g : DiskOf D} (first : Meaning) (work : Work D g)
    (others : List (Work D g)) (left : Meaning) →
    SameMeaning first (world_opened work).meaning → FromHere work others left →
    GoesOnAlone first (work ∷ others) left
alone_from first work others left found from =
    let alone = starts_alone first from.starts
    (starts_from first (world_opened work).meaning from.starts found from.go) in
    record {
      starts = from.starts;
      are = from.are;
      made = alone.0;
      made_at = alone.1;
      replies = λ code. (alone.2 code).answers;
      rows = λ code. from.ends code
          ∙ left_same first (world_opened work).meaning from.starts found code
          ∙ (alone.2 code).rows;
      within = from.within;
      releasing = from.releasing;
    }

pub goes_on_alone : {D : Type 0} {g : DiskOf D} (stays : SeenMayStay g) (first : Meaning)
    (work : Work D g) (others : List (Work D g)) (left : Meaning) →
    IsHistory first work others left → ∥ GoesOnAlone first (work ∷ others) left ∥₁
goes_on_alone stays first work others left history =
    ∥∥₁_map (from_here stays work others left (begins_ready first work history.begins) history.done
    history.honest history.may)
    (λ from. alone_from first work others left history.begins.found from)
