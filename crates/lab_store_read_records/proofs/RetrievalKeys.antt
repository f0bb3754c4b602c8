-- What well-kept tables say of keys, as the relations of the kit.
use Rattle.sqlite_keyed.specs.Rules.{AreApart}
use Rattle.lab_store_tables.specs.Rows.{Tables}
use Rattle.lab_store_tables.specs.WellKept.{IsWellKept, same_sample}
use Rattle.lab_store_read.proofs.Keys.{apart, left, right, four}

module _ (t : Tables) (kept : IsWellKept t) where
  pub samples_apart : AreApart same_sample t.records
  samples_apart = apart same_sample t.records (right _ _ (left _ _ (four _ _ _ _ _ kept.rows.keys)))
