-- What no store holds of changes: a number that no column does.
use Rattle.std.specs.Prelude.{List}
use Rattle.std.specs.List.{Contains}
use Rattle.lab_records_kept.specs.declared.changes.Change.{Change}
use Rattle.lab_records_kept.specs.declared.changes.Change.TheVariants.{Strays}
use Rattle.lab_store_write.specs.Causes.{IsTooGreat}

abbrev pub IsTooMuch : Change → Type 0
IsTooMuch (Strays count) = IsTooGreat count
IsTooMuch _ = ⊥

-- one of the changes is so
pub record OneIsTooMuch (changes : List Change) : Type 0 where
  pub one : Change
  pub among : Contains changes one
  pub much : IsTooMuch one
