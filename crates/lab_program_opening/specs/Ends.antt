-- What the close of a connection over files leaves of them (SQLite, 'Write-Ahead Logging', 2.1,
-- 'Checkpointing').
use Rattle.std.specs.Prelude.{◌⊎◌, ℕ, List, Result, Ok, Err}
use Rattle.sqlite_disk.specs.declared.Disk.{Ghosts as DiskOf}
use Rattle.sqlite_disk.specs.declared.Files.{Files}
use Rattle.sqlite_wal.specs.Reads.{AreClean}
use Rattle.sqlite_trees.specs.View.{IsClean}
use Rattle.sqlite_store.specs.declared.store.FileStore.{FileStore}
use Rattle.sqlite_store.specs.FileStore.{view}
use Rattle.sqlite.specs.declared.error.Error.{Error}
use Rattle.sqlite.specs.Closing.{IsCopied}
use Rattle.sqlite.specs.Files.{FailsToClose, IsClosed}
use Rattle.sqlite.specs.Held.{Held}
use Rattle.lab_program_opening.specs.Volumes.{FileAt}

module _ {D : Type 0} {g : DiskOf D} where
  -- the log and the database file, closed: where the disk returned what was written, the last
  -- commit is in the database file, as it reads now and after a crash
  pub record IsLeftWhole (conn : Held (FileStore D g)) : Type 0 where
    pub files : Files D
    pub copied : AreClean g files.log files.db → IsCopied conn files

  -- the store that a fault kept from being closed: a crash leaves of it what it could leave before
  -- and nothing else; and the fault has its cause
  pub record IsLeftInBoth (conn : Held (FileStore D g)) (fault : Error) : Type 0 where
    pub left : FileStore D g
    pub closed : IsClosed conn left
    pub cause : IsClean (view left) → FailsToClose conn left fault

  -- by how the close ended
  abbrev pub Closes : Held (FileStore D g) → Result (Unit {0}) Error → Type 0
  Closes conn (Ok _) = IsLeftWhole conn
  Closes conn (Err fault) = IsLeftInBoth conn fault

-- ---- of any connection

module _ {S : Type 0} (closes : S → Result (Unit {0}) Error → Type 0) where
  -- it was closed, and this is what its close came to
  abbrev pub WasClosed : S → Type 0
  WasClosed conn = (closing : Result (Unit {0}) Error) × closes conn closing

  -- or it was let go, since others had cut its file at the path
  abbrev pub WasGivenUp : {Volume : Type 0} → (Volume → List ℕ → FileAt) → List ℕ → S → Type 0
  WasGivenUp {Volume} file path conn = WasClosed conn
      ⊎ ((volume : Volume) × (file volume path).is_cut)
