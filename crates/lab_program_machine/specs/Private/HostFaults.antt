-- What clauses of private functions say beside HostFaults.antt.
use Rattle.lab_store_files.specs.declared.faults.FileFault.{FileFault}
use Rattle.lab_store_files.specs.declared.faults.FileFault.TheVariants.{NotADeskFile, SchemaOld, SchemaNew, Storage, NotEmpty, Memory}

-- none of them is about a schema, or about what is in the file
abbrev pub IsOfHost : FileFault → Type 0
IsOfHost NotADeskFile = Unit {0}
IsOfHost (SchemaOld _) = ⊥
IsOfHost (SchemaNew _) = ⊥
IsOfHost Storage = Unit {0}
IsOfHost NotEmpty = ⊥
IsOfHost Memory = Unit {0}
