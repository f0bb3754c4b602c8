-- What clauses of private functions say beside Framed.antt.
use Rattle.std.specs.Prelude.{ℤ, Bool, true, List, Option, Some, None}
use Rattle.std.specs.List.{list_all}
use Rattle.lab_records_kept.specs.declared.changes.Change.{Change}
use Rattle.lab_store_tables.specs.Rows.{Tables}
use Rattle.lab_store_tables.specs.Changes.{InTurn}
use Rattle.lab_store_tables.specs.Steps.{StepsBy}
use Rattle.lab_store_write.specs.declared.named.Giver.{Giver}
use Rattle.lab_store_write.specs.Calls.{MadeFrom}
use Rattle.lab_store_write.specs.Givers.{Knows}
use Rattle.lab_store_write_changes.specs.Framed.{spares_last}

-- whether who gives the command stays known over the changes, where somebody is
abbrev pub keeps_giver : Option Giver → List Change → Bool
keeps_giver None changes = true
keeps_giver (Some giver) changes = list_all spares_last changes

-- the changes are made, and who is known is so after them
abbrev pub StepsKnowing : ℤ → Option Giver → List Change → Tables → Tables → Type 0
StepsKnowing lab giver changes =
    MadeFrom (Knows lab giver)
    (λ old new. InTurn (StepsBy lab) changes old new × Knows lab giver new)
