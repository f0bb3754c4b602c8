-- What a move leaves to a history.
use Rattle.std.proofs.Common.{◌∙◌, ℕ, List, Ok, Err, refl, ap, subst}
use Rattle.std.specs.Prelude.{OnOk, Result}
use Rattle.sqlite_disk.specs.declared.Disk.{Ghosts as DiskOf}
use Rattle.sqlite_trees.specs.Tree.{Trees}
use Rattle.sqlite_store.specs.declared.store.FileStore.{FileStore}
use Rattle.sqlite_wal.specs.Recovery.{Image}
use Rattle.sqlite.specs.Files.{file_state, over_files}
use Rattle.sqlite.specs.Held.{Held}
use Rattle.sqlite.specs.State.{HasCleanDisk, State}
use Rattle.lab_records_kept.specs.declared.labs.Lab.{Lab}
use Rattle.lab_records_keeper.specs.Worlds.{SameMeaning}
use Rattle.lab_records_kept.specs.Limits.{IsWithin}
use Rattle.lab_records_laws.specs.Runs.{IsReleasing}
use Rattle.lab_records_laws.specs.Stepping.{WhereThere}
use Rattle.lab_store_tables.specs.Meaning.{meaning}
use Rattle.lab_store_tables.specs.Ready.{IsAtRest, tables_of}
use Rattle.lab_store_tables.specs.Rows.{Tables, tables_in}
use Rattle.lab_move.specs.Moving.{IsMoved, IsStart}
use Rattle.lab_program_opening.specs.Files.{LeavesShown}
use Rattle.lab_program_files.specs.Histories.{Begins, IsDone}
use Rattle.lab_program_moves.specs.Histories.{moved_in}
use Rattle.lab_program_moves.specs.Moves.{Moves}

-- a new file that is all that a start asks is at rest
pub shown_where : {A E : Type 0} (result : Result A E) (s : State) → (IsAtRest s → LeavesShown s) →
    OnOk result (IsStart s) → OnOk result (LeavesShown s)
shown_where (Ok value) s shown start = shown start.ready.at_rest
shown_where (Err fault) s shown start = tt

-- each laboratory of the old file is one of the new one
moved_all : (Holds : Lab → Type 0) (old new : Tables) → SameMeaning (meaning old) (meaning new) →
    ((code : List ℕ) → WhereThere Holds (meaning new code)) → (code : List ℕ) →
    WhereThere Holds (meaning old code)
moved_all Holds old new same holds code = subst (WhereThere Holds) (same code) (holds code)

begins_as : {D : Type 0} {g : DiskOf D} (old new : Held (FileStore D g)) (count : ℕ)
    (moves : Moves over_files old new (Ok count)) (t : Tables) (held : Image) →
    HasCleanDisk (file_state moves.made) →
    SameMeaning (meaning t) (meaning (tables_of (file_state moves.made))) →
    Begins (meaning t) (moved_in held moves.made) × IsDone (moved_in held moves.made)
begins_as old new count moves t held clean same =
    let start = moves.ready clean in
    let shown = moves.shown clean in
    let s = file_state moves.made in (
      record {
        found = same;
        live = start.live;
        reached = start.ready;
        safe = λ trees may. (
          s.now,
          start.ready.kept clean start.live,
          shown clean start.live trees may,
        );
        alone = λ held left code. left.2 code
            ∙ ap (λ (trees : Trees). meaning (tables_in trees) code)
            (shown clean start.live left.0 left.1);
        within = moved_all IsWithin t (tables_of s) same start.within;
        releasing = moved_all IsReleasing t (tables_of s) same start.releasing;
      },
      record {
        does = λ within honest reached. (refl, shown);
        passes = record { honest = λ h. h; live = λ h l. l; refusing = λ m. m };
      },
    )

pub move_begins_own : {D : Type 0} {g : DiskOf D} (old new : Held (FileStore D g)) (count : ℕ)
    (moves : Moves over_files old new (Ok count)) (held : Image) →
    HasCleanDisk (file_state moves.made) →
    Begins (meaning (tables_of (file_state moves.made))) (moved_in held moves.made)
    × IsDone (moved_in held moves.made)
move_begins_own old new count moves held clean =
    begins_as old new count moves (tables_of (file_state moves.made)) held clean (λ code. refl)

pub move_begins : {D : Type 0} {g : DiskOf D} (old new : Held (FileStore D g)) (count : ℕ)
    (moves : Moves over_files old new (Ok count)) (t : Tables) (held : Image) →
    HasCleanDisk (file_state moves.made) → IsMoved t (tables_of (file_state moves.made)) count →
    Begins (meaning t) (moved_in held moves.made) × IsDone (moved_in held moves.made)
move_begins old new count moves t held clean moved =
    begins_as old new count moves t held clean moved.same
