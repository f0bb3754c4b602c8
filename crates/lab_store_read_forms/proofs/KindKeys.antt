-- What well-kept tables say of the keys of choices, as the relations of the kit.
use Rattle.sqlite_keyed.specs.Rules.{AreApart}
use Rattle.lab_store_tables.specs.Rows.{Tables}
use Rattle.lab_store_tables.specs.WellKept.{IsWellKept, same_choice}
use Rattle.lab_store_read.proofs.Keys.{apart, left, right, four}

module _ (t : Tables) (kept : IsWellKept t) where
  pub choices_apart : AreApart same_choice t.choices
  choices_apart = apart same_choice t.choices (right _ _ (four _ _ _ _ _ (left _ _ (left _ _ (left _ _ kept.rows.keys)))))
