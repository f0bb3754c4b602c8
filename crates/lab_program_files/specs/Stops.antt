-- What a stop leaves of a file to the next opening: what a crash may leave of the connection, or its
-- close (ISO/IEC 17025:2017, 7.11.3(e), "system failures"; SQLite, 'Write-Ahead Logging', 2.1).
use Rattle.std.specs.Prelude.{◌≡◌, ◌⊎◌, ℕ, List, [], Result, Ok, Err, IsTrue}
use Rattle.sqlite_disk.specs.declared.Disk.{Ghosts as DiskOf}
use Rattle.sqlite_disk.specs.declared.Files.{Files}
use Rattle.sqlite_wal.specs.Files.{outcomes}
use Rattle.sqlite_wal.specs.Reads.{AreClean}
use Rattle.sqlite_wal.specs.Recovery.{Image}
use Rattle.sqlite_trees.specs.View.{IsClean}
use Rattle.sqlite_store.specs.declared.store.FileStore.{FileStore}
use Rattle.sqlite_store.specs.FileStore.{state as pages_of, view}
use Rattle.sqlite.specs.declared.error.Error.{Error}
use Rattle.sqlite.specs.Held.{Held}
use Rattle.lab_program_opening.specs.Ends.{Closes, WasClosed}

-- two files that a close left whole lie there, as a crash may leave them; or the database file
-- alone, without its log
abbrev pub LieWhole : {D : Type 0} → DiskOf D → Files D → Image → Type 0
LieWhole g files held = (log : List ℕ) × outcomes g files.log files.db (record held { log = log })
    × ((held.log ≡ log) ⊎ (held.log ≡ []))

module _ {D : Type 0} {g : DiskOf D} where
  -- what lies there once the connection was closed, by what its close came to (`close_whole` of a
  -- connection over files, which the tasks name by `WasClosed`), where the disk returned what was
  -- written. After a fault it is what a crash may leave of the store that was to be closed
  abbrev pub LiesClosed : (last : Held (FileStore D g)) (closing : Result (Unit {0}) Error) →
      Closes last closing → Image → Type 0
  LiesClosed last (Ok _) whole held =
      AreClean g whole.files.log whole.files.db × LieWhole g whole.files held
  LiesClosed last (Err fault) both held = IsClean (view both.left)
      × IsTrue (view both.left).is_numbered × (pages_of both.left).may_leave held

  -- what a stop leaves to the next opening: what a crash may leave of the connection as the task
  -- left it, or what its close left
  abbrev pub Lies : Held (FileStore D g) → Image → Type 0
  Lies last held = (pages_of last.store).may_leave held
      ⊎ ((shut : WasClosed Closes last) × LiesClosed last shut.0 shut.1 held)
