-- What clauses of private functions say beside Givers.antt.
use Rattle.std.specs.Prelude.{ℤ, Option}
use Rattle.lab_store_tables.specs.Rows.{Tables}
use Rattle.lab_store_write.specs.declared.named.Giver.{Giver}
use Rattle.lab_store_write.specs.Calls.{MadeFrom}
use Rattle.lab_store_write.specs.Givers.{Knows}

-- the step of each item, made from tables in which whoever is known is so
abbrev pub EachKnowing : {A : Type 0} → ℤ → Option Giver → (A → Tables → Tables → Type 0) → A
    → Tables → Tables → Type 0
EachKnowing lab giver step one = MadeFrom (Knows lab giver) (step one)
