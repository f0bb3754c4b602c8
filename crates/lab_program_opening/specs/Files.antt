-- A file of laboratories that was opened, or made, and what it held; and why none was.
use Rattle.std.specs.Prelude.{◌≡◌, ◌⊎◌, false, ℕ, List, Ok, Err, IsTrue}
use Rattle.sqlite_trees.specs.Tree.{Trees}
use Rattle.sqlite_trees.specs.declared.store.Store.{Ghosts}
use Rattle.sqlite_wal.specs.Recovery.{Image}
use Rattle.sqlite.specs.Files.{AreFoundIn, HoldsDatabase}
use Rattle.sqlite.specs.Held.{Held, state}
use Rattle.sqlite.specs.State.{HasCleanDisk, IsLive, IsUnchanged, Opens, State}
use Rattle.lab_store_tables.specs.Schema.{schema_number}
use Rattle.lab_store_files.specs.declared.faults.FileFault.{FileFault}
use Rattle.lab_store_files.specs.declared.faults.FileFault.TheVariants.{NotEmpty}
use Rattle.lab_store_files.specs.Faults.{FailedInStore}
use Rattle.lab_store_files.specs.NewFiles.{EndsNewFile, IsBlank, IsNewFile}
use Rattle.lab_store_files.specs.Owed.{AnswersOwed}
use Rattle.lab_store_files.specs.Schemas.{is_taken, is_whole}
use Rattle.lab_store_files.specs.Verdicts.{AnswersVerdict}
use Rattle.lab_program_opening.specs.declared.faults.OpenFault.{OpenFault}
use Rattle.lab_program_opening.specs.declared.faults.OpenFault.TheVariants.{File}
use Rattle.lab_program_opening.specs.Volumes.{FileAt, IsOfFile, IsRefusedBy}

-- ---- what a file held

-- the trees are those that a file and its log of these bytes hold, or there was no database in them
-- (SQLite, 'Database File Format', 1 and 4)
pub record AreHeldIn (image : Image) (trees : Trees) : Type 0 where
  pub holds : (db : Trees) → HoldsDatabase image db → trees ≡ db
  pub reads : AreFoundIn image trees

-- a connection that was opened just now shows as committed what was held, as a database
pub record IsFound (IsHeld : Trees → Type 0) (s : State) : Type 0 where
  pub held : IsHeld s.committed.trees
  pub opens : Opens s
  pub live : IsLive s

-- while it is open, a crash leaves what it shows and nothing else
abbrev pub LeavesShown : State → Type 0
LeavesShown s = HasCleanDisk s → IsTrue s.is_open → (trees : Trees) → s.may_leave trees →
    trees ≡ s.now.trees

-- ---- what became of a file that was found

module _ {S : Type 0} (disk : Ghosts S) where
  -- the file of this connection was asked which schema it has, and it owes that it is one of this
  -- schema
  abbrev pub IsOursFrom : Held S → Held S → Type 0
  IsOursFrom old conn = LeavesShown (state disk conn)
      × (HasCleanDisk (state disk conn) → HasCleanDisk (state disk old)
      × IsUnchanged (state disk old) (state disk conn)
      × AnswersVerdict (state disk old) (state disk conn) (Ok tt)
      × AnswersOwed schema_number is_whole (state disk old).now (Ok tt))

  -- the tables were made in it by one commit: none of their names was there, and where nothing was,
  -- it is a new file
  abbrev pub IsNewFrom : Held S → Held S → Type 0
  IsNewFrom old conn = LeavesShown (state disk conn)
      × (is_taken (state disk old).now.schema ≡ false)
      × (HasCleanDisk (state disk conn) → IsBlank (state disk old).now →
      IsTrue (state disk conn).is_open × IsNewFile (state disk conn).now)
      × EndsNewFile (state disk old) (state disk conn)

  module _ (IsHeld : Trees → Type 0) where
    -- a file that held this is found
    abbrev pub Finds : Held S → Type 0
    Finds old = HasCleanDisk (state disk old) → IsFound IsHeld (state disk old)

    -- and nothing was in it
    abbrev pub IsBlankFile : Held S → Type 0
    IsBlankFile old = Finds old × IsBlank (state disk old).now

    -- or it is one of this schema, whose rows are as they were
    abbrev pub IsOurs : Held S → Type 0
    IsOurs conn = (old : Held S) × Finds old × IsOursFrom old conn

    -- or the tables were made in it
    abbrev pub IsNew : Held S → Type 0
    IsNew conn = (old : Held S) × Finds old × IsNewFrom old conn

    -- one of this schema, or a new one
    abbrev pub IsOpened : Held S → Type 0
    IsOpened conn = IsOurs conn ⊎ IsNew conn

  -- one of this schema at the path, whenever it was opened
  abbrev pub IsOursAt : {Volume : Type 0} → (Volume → List ℕ → FileAt) → List ℕ → Held S → Type 0
  IsOursAt {Volume} file path conn =
      (volume : Volume) × IsOurs (file volume path).holds conn

  -- nothing was in the file at the path, whenever it was opened
  abbrev pub IsBlankAt : {Volume : Type 0} → (Volume → List ℕ → FileAt) → List ℕ → Held S → Type 0
  IsBlankAt {Volume} file path conn =
      (volume : Volume) × IsBlankFile (file volume path).holds conn

-- ---- why a file wasn't opened

module _ {S : Type 0} (disk : Ghosts S) (closed : Held S → Type 0) where
  -- the file of this connection was asked which schema it has, owes this refusal, and was closed
  pub record RefusesFrom (old : Held S) (fault : FileFault) : Type 0 where
    pub conn : Held S
    pub owed : HasCleanDisk (state disk conn) → HasCleanDisk (state disk old)
        × AnswersOwed schema_number is_whole (state disk old).now (Err fault)
    pub closed_so : closed conn

  -- the tables couldn't be made in it: a table of one of their names was there, or the store failed.
  -- It was closed
  pub record FailsToMake (old : Held S) (fault : FileFault) : Type 0 where
    pub conn : Held S
    pub cause : ((fault ≡ NotEmpty) × IsTrue (is_taken (state disk old).now.schema))
        ⊎ FailedInStore {A = Unit {0}} (Err fault)
    pub taken : IsTrue (is_taken (state disk old).now.schema) → fault ≡ NotEmpty
    pub ends : EndsNewFile (state disk old) (state disk conn)
    pub closed_so : closed conn

  module _ (file : FileAt) where
    -- it is refused, or it was found, and owes the refusal
    abbrev pub IsUnopened : OpenFault → Type 0
    IsUnopened fault = IsRefusedBy file fault
        ⊎ ((old : Held S) × Finds disk file.holds old × IsOfFile (RefusesFrom old) fault)

    -- or the tables couldn't be made in it
    abbrev pub IsUnmade : OpenFault → Type 0
    IsUnmade fault = IsUnopened fault
        ⊎ ((old : Held S) × Finds disk file.holds old × IsOfFile (FailsToMake old) fault)

  -- no file was opened at the path, whenever that was tried
  abbrev pub IsUnopenedAt : {Volume : Type 0} → (Volume → List ℕ → FileAt) → List ℕ → OpenFault →
      Type 0
  IsUnopenedAt {Volume} file path fault = (volume : Volume) × IsUnopened (file volume path) fault

module _ {S : Type 0} (disk : Ghosts S) (file : FileAt) where
  -- an empty file was wanted: it is refused, or it was found, and something is in it
  abbrev pub IsFilled : OpenFault → Type 0
  IsFilled fault = IsRefusedBy file fault
      ⊎ ((old : Held S) × Finds disk file.holds old × (¬ IsBlank (state disk old).now)
      × (fault ≡ File NotEmpty))
