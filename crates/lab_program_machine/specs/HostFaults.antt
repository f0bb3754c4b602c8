-- The faults for which a file of this machine isn't opened.
use Rattle.lab_store_files.specs.declared.faults.FileFault.TheVariants.{NotADeskFile, SchemaOld, SchemaNew, Storage, NotEmpty, Memory}
use Rattle.lab_program_opening.specs.declared.faults.OpenFault.{OpenFault}
use Rattle.lab_program_opening.specs.declared.faults.OpenFault.TheVariants.{File, Drawing}

-- and where there is an old file of a move, that file is refused as the new one
abbrev pub HostRefuses : Type 0 → OpenFault → Type 0
HostRefuses IsMove (File NotADeskFile) = Unit {0}
HostRefuses IsMove (File (SchemaOld _)) = ⊥
HostRefuses IsMove (File (SchemaNew _)) = ⊥
HostRefuses IsMove (File Storage) = Unit {0}
HostRefuses IsMove (File NotEmpty) = IsMove
HostRefuses IsMove (File Memory) = Unit {0}
HostRefuses IsMove Drawing = Unit {0}
