-- What well-kept tables say of persons, as the relations of the kit.
use Rattle.sqlite_keyed.specs.Rules.{AreApart}
use Rattle.lab_store_tables.specs.Rows.{Tables}
use Rattle.lab_store_tables.specs.WellKept.{IsWellKept, same_person}
use Rattle.lab_store_read.proofs.Keys.{apart, left, right, four}

module _ (t : Tables) (kept : IsWellKept t) where
  pub persons_apart : AreApart same_person t.persons
  persons_apart = apart same_person t.persons (right _ _ (left _ _ (four _ _ _ _ _ (four _ _ _ _ _ (four _ _ _ _ _ kept.rows.keys)))))
