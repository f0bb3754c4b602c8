-- What well-kept tables say of the keys of fields, as the relations of the kit.
use Rattle.sqlite_keyed.specs.Rules.{AreApart}
use Rattle.lab_store_tables.specs.Rows.{Tables}
use Rattle.lab_store_tables.specs.WellKept.{IsWellKept, same_field}
use Rattle.lab_store_read.proofs.Keys.{apart, left, right, four}

module _ (t : Tables) (kept : IsWellKept t) where
  pub fields_apart : AreApart same_field t.fields
  fields_apart = apart same_field t.fields (right _ _ (left _ _ (four _ _ _ _ _ (four _ _ _ _ _ kept.rows.keys))))
