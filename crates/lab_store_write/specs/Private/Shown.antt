-- What a look-up of a person's id shows: the ids of the rows that have the key, in their order.
use Rattle.std.specs.Prelude.{ℤ, ℕ, List, [], ◌∷◌, map, filter}
use Rattle.sqlite_value.specs.declared.value.Value.TheVariants.{Int}
use Rattle.sqlite_value.specs.Order.{Row}
use Rattle.lab_store_tables.specs.Rows.{PersonRow, Tables}
use Rattle.lab_store_tables.specs.Changes.{is_person}

abbrev pub persons_shown : ℤ → List ℕ → Tables → List Row
persons_shown lab code t =
    map (λ (one : PersonRow). Int one.id ∷ []) (filter (is_person lab code) t.persons)
