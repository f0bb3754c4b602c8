-- Definitions for proofs only, which belong to specs/FieldsShown.antt: no clause names them.
use Rattle.std.specs.Prelude.{ℤ, List, [], ◌∷◌, map, filter}
use Rattle.sqlite_value.specs.declared.value.Value.TheVariants.{Int}
use Rattle.sqlite_value.specs.Order.{Row}
use Rattle.lab_store_tables.specs.Rows.{FieldRow, ChoiceRow, Tables}
use Rattle.lab_store_write_changes.specs.Private.FieldsShown.{is_field_of, is_choice_of}

abbrev pub fields_shown : ℤ → Tables → List Row
fields_shown form t =
    map (λ (one : FieldRow). Int one.id ∷ []) (filter (is_field_of form) t.fields)

abbrev pub choices_shown : ℤ → Tables → List Row
choices_shown field t =
    map (λ (one : ChoiceRow). Int one.id ∷ []) (filter (is_choice_of field) t.choices)
