-- The last moment of a laboratory, and its stray passwords: the tables stay well kept.
use Rattle.std.proofs.Common.{◌≡◌, ℕ, ℤ, List, refl, sym, subst}
use Rattle.lab_records_kept.specs.declared.changes.Change.TheVariants.{Last, Strays}
use Rattle.lab_store_tables.specs.Rows.{LabRow, Tables}
use Rattle.lab_store_tables.specs.WellKept.{has_counted, AreWellKept}
use Rattle.lab_store_tables.specs.Changes.{in_lab, Applies}
use Rattle.lab_store_tables.specs.ByRules.{IsByRules}
use Rattle.lab_store_tables.proofs.Kept.{AreAllKept, all_kept, well_kept}
use Rattle.lab_store_tables.proofs.Sets.{lab_set}
use Rattle.lab_store_tables.proofs.Counters.{uncounted}

own_row_kept : (t : Tables) (id : ℤ) (next : LabRow → LabRow) → ((one : LabRow) → has_counted t (next one) ≡ has_counted t one) → AreAllKept t
    → AreAllKept (in_lab id next t)
own_row_kept t id next same kept = record {
  rows = lab_set t id next kept.rows;
  counters = uncounted t id next same kept.counters;
  currents = kept.currents;
}

pub last_keeps : {old new : Tables} {code : List ℕ} {moment : ℕ} → AreWellKept old → IsByRules new → Applies code (Last moment) old new → AreWellKept new
last_keeps {old} {new} {code} {moment} well rules it =
    well_kept new rules (subst AreAllKept (sym it.made) (own_row_kept old it.lab.id (λ (one : LabRow). record one { last = moment }) (λ one. refl)
    (all_kept old well)))

pub strays_keep : {old new : Tables} {code : List ℕ} {count : ℕ} → AreWellKept old → IsByRules new → Applies code (Strays count) old new → AreWellKept new
strays_keep {old} {new} {code} {count} well rules it =
    well_kept new rules (subst AreAllKept (sym it.made) (own_row_kept old it.lab.id (λ (one : LabRow). record one { stray = count }) (λ one. refl)
    (all_kept old well)))
