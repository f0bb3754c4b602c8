-- What clauses of private functions say beside Faults.antt.
use Rattle.lab_copy.specs.declared.faults.CopyFault.{CopyFault}
use Rattle.lab_copy.specs.declared.faults.CopyFault.TheVariants.{Flawed, Read, Memory}

-- a fault that says nothing of the copy
abbrev pub IsNoFlaw : CopyFault → Type 0
IsNoFlaw (Flawed _) = ⊥
IsNoFlaw Read = Unit {0}
IsNoFlaw (Memory _) = Unit {0}
