-- What the look-up of a form shows: the rows that have the key, in the order of their ids.
use Rattle.std.specs.Prelude.{ℕ, ℤ, List, [], ◌∷◌, map, filter}
use Rattle.sqlite_value.specs.declared.value.Value.TheVariants.{Int}
use Rattle.sqlite_value.specs.Order.{Row}
use Rattle.lab_store_tables.specs.Rows.{FormRow, Tables}
use Rattle.lab_store_tables.specs.Changes.{is_form_row}

abbrev pub forms_shown : ℤ → List ℕ → ℕ → Tables → List Row
forms_shown lab code version t =
    map (λ (one : FormRow). Int one.id ∷ []) (filter (is_form_row lab code version) t.forms)
