-- What well-kept tables say of forms, as the relations of the kit.
use Rattle.sqlite_keyed.specs.Rules.{AreApart}
use Rattle.lab_store_tables.specs.Rows.{Tables}
use Rattle.lab_store_tables.specs.WellKept.{IsWellKept, same_form}
use Rattle.lab_store_read.proofs.Keys.{apart, left, right, four}

module _ (t : Tables) (kept : IsWellKept t) where
  pub forms_apart : AreApart same_form t.forms
  forms_apart = apart same_form t.forms (right _ _ (left _ _ (left _ _ (four _ _ _ _ _ (four _ _ _ _ _ kept.rows.keys)))))
