-- What each look-up shows: the rows of one parent, in the order of their ids.
use Rattle.std.specs.Prelude.{ℤ, Bool}
use Rattle.std.specs.Ordering.{int_eq}
use Rattle.lab_store_tables.specs.Rows.{FieldRow, ChoiceRow}

abbrev pub is_field_of : ℤ → FieldRow → Bool
is_field_of form one = int_eq one.form form

abbrev pub is_choice_of : ℤ → ChoiceRow → Bool
is_choice_of field one = int_eq one.field field
