-- What well-kept tables say of the trail, as the relations of the kit.
use Rattle.sqlite_keyed.specs.Rules.{AreApart}
use Rattle.lab_store_tables.specs.Rows.{Tables}
use Rattle.lab_store_tables.specs.WellKept.{IsWellKept, same_told}
use Rattle.lab_store_read.proofs.Keys.{apart, right}

module _ (t : Tables) (kept : IsWellKept t) where
  pub told_apart : AreApart same_told t.trail
  told_apart = apart same_told t.trail (right _ _ kept.rows.keys)
