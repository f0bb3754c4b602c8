-- What clauses of private functions say beside Causes.antt.
use Rattle.std.specs.Prelude.{◌≡◌, ◌⊎◌, List, IsTrue, IsFalse}
use Rattle.sqlite_value.specs.Order.{Row}
use Rattle.sqlite.specs.declared.error.Error.{Error}
use Rattle.sqlite.specs.declared.error.Error.TheVariants.{QueryReturnedNoRows}
use Rattle.lab_store_read.specs.Faults.{is_out_of_memory}
use Rattle.lab_store_write.specs.Causes.{names_one}

-- none is named by these rows, or memory ran out for it
abbrev pub IsVain : List Row → Error → Type 0
IsVain rows e =
    IsTrue (is_out_of_memory e) ⊎ ((e ≡ QueryReturnedNoRows) × IsFalse (names_one rows))
