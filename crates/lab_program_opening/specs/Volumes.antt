-- What is known of the file at a path of a volume, and why it isn't opened.
use Rattle.sqlite_trees.specs.Tree.{Trees}
use Rattle.lab_store_files.specs.declared.faults.FileFault.{FileFault}
use Rattle.lab_store_files.specs.declared.faults.FileFault.TheVariants.{NotADeskFile, SchemaOld, SchemaNew, Storage, NotEmpty, Memory}
use Rattle.lab_program_opening.specs.declared.faults.OpenFault.{OpenFault}
use Rattle.lab_program_opening.specs.declared.faults.OpenFault.TheVariants.{File, Drawing}

pub record FileAt : Type 1 where
  -- what it and its log hold
  pub holds : Trees → Type 0
  -- the file of the last connection lies there, or its log, and is shorter
  pub is_cut : Type 0
  -- why it isn't opened, whatever its schema: there is none, or it isn't a database
  -- (`NotADeskFile`); it is the old file of a move (`NotEmpty`); another process holds it, the
  -- system refused a call, or the store failed (`Storage`); no random word was drawn (`Drawing`)
  pub refuses : OpenFault → Type 0

-- a file wasn't opened for this fault, and nobody asked which schema it has. Memory may run out at
-- any file
abbrev pub IsRefusedBy : FileAt → OpenFault → Type 0
IsRefusedBy file (File NotADeskFile) = file.refuses (File NotADeskFile)
IsRefusedBy file (File (SchemaOld _)) = ⊥
IsRefusedBy file (File (SchemaNew _)) = ⊥
IsRefusedBy file (File Storage) = file.refuses (File Storage)
IsRefusedBy file (File NotEmpty) = file.refuses (File NotEmpty)
IsRefusedBy file (File Memory) = Unit {0}
IsRefusedBy file Drawing = file.refuses Drawing

-- the fault is one of the file, of which this holds
abbrev pub IsOfFile : (FileFault → Type 0) → OpenFault → Type 0
IsOfFile Holds (File fault) = Holds fault
IsOfFile Holds Drawing = ⊥
