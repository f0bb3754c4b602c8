-- What a founding makes of the tables: a newborn laboratory is placed by the database's own rules.
use Rattle.std.specs.Prelude.{◌≡◌, None}
use Rattle.lab_records_kept.specs.declared.births.Newborn.{Newborn}
use Rattle.lab_records_kept.specs.Births.{newborn_lab}
use Rattle.lab_store_tables.specs.Rows.{Tables}
use Rattle.lab_store_tables.specs.Placing.{PlacesLab}
use Rattle.lab_store_tables.specs.ByRules.{IsByRules}

-- nothing was asked for any of the three founders; the laboratory's rows are added; and the new
-- tables keep the database's own rules
pub record PlacesNewborn (newborn : Newborn) (old new : Tables) : Type 0 where
  pub first : newborn.first.ask ≡ None
  pub second : newborn.second.ask ≡ None
  pub third : newborn.third.ask ≡ None
  pub placed : PlacesLab (newborn_lab newborn) old new
  pub rules : IsByRules new
