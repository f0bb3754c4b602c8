-- The code of a person: the rows that its query shows, and what such a row is read as.
use Rattle.std.specs.Prelude.{ℤ, Bool, false, List, [], ◌∷◌, map, filter, slice_get}
use Rattle.std.specs.Option.{option_map_or}
use Rattle.std.specs.Ordering.{int_eq}
use Rattle.sqlite_value.specs.declared.value.Value.TheVariants.{Text}
use Rattle.sqlite_value.specs.Order.{Row}
use Rattle.lab_forms_texts.specs.Names.{is_person_code}
use Rattle.lab_store_tables.specs.Rows.{PersonRow, Tables}
use Rattle.lab_store_read.specs.Cells.{is_text_cell, stands}

abbrev pub code_shown : PersonRow → Row
code_shown one = Text one.code ∷ []

abbrev pub codes_shown : Tables → ℤ → List Row
codes_shown t id = map code_shown (filter (λ (one : PersonRow). int_eq one.id id) t.persons)

-- there is a first row, and a person's code stands in it
abbrev pub shows_code : List Row → Bool
shows_code rows =
    option_map_or (λ (row : Row). stands (is_text_cell is_person_code) row 0) (slice_get rows 0) false
