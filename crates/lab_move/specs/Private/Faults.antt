-- What clauses of private functions say beside Faults.antt.
use Rattle.std.specs.Prelude.{◌≡◌, ◌⊎◌}
use Rattle.lab_store_files.specs.declared.faults.FileFault.{FileFault}
use Rattle.lab_store_files.specs.declared.faults.FileFault.TheVariants.{Storage, Memory}

-- the store refused or memory ran out, which says nothing of the files
abbrev pub IsOfStore : FileFault → Type 0
IsOfStore fault = (fault ≡ Storage) ⊎ (fault ≡ Memory)
