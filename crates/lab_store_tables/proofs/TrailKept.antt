-- A row more in the trail: the tables stay well kept.
use Rattle.std.proofs.Common.{◌≡◌, ℕ, ◌+◌, ℤ, true, List, [], ◌∷◌, filter, length, sym, ap, subst, ◌∙◌, int_eq}
use Rattle.lab_records_kept.specs.declared.trails.TrailRow.{TrailRow as Told}
use Rattle.lab_records_kept.specs.declared.changes.Change.TheVariants.{TrailAdded}
use Rattle.lab_records_kept.specs.Trails.{action_word}
use Rattle.lab_records_kept.specs.Changes.{ChangesFit}
use Rattle.lab_store_tables.specs.Rows.{LabRow, TrailRow, Tables, person_id}
use Rattle.lab_store_tables.specs.Meaning.{meaning, told_in, by_trail}
use Rattle.lab_store_tables.specs.WellKept.{have_own_ids, AreWellKept}
use Rattle.lab_store_tables.specs.Family.{Trail}
use Rattle.lab_store_tables.specs.Changes.{told_row_of, put_told, AddsTold, Applies}
use Rattle.lab_store_tables.proofs.ColumnsBack.{action_back}
use Rattle.lab_store_tables.specs.ByRules.{IsByRules}
use Rattle.lab_store_tables.proofs.Kept.{AreAllKept, all_kept, well_kept}
use Rattle.lab_store_tables.proofs.Ids.{own_ids}
use Rattle.lab_store_tables.proofs.Named.{named_if_any}
use Rattle.lab_store_tables.proofs.Puts.{put_kept}
use Rattle.lab_store_tables.proofs.Sets.{lab_set}
use Rattle.lab_store_tables.proofs.Counters.{trail_counted}
use Rattle.lab_store_tables.proofs.Shown.{as_many, fits_here}

module _ (t : Tables) (own : have_own_ids person_id t.persons ≡ true) (lab : ℤ) (told : Told)
    (next : told.number ≡ length (filter (λ (one : TrailRow). int_eq one.lab lab) t.trail) + 1) where
  pub told_more : (new : Tables) → AddsTold lab told t new → AreAllKept t → AreAllKept new
  told_more new it kept =
      let row = told_row_of lab it.id it.person told in
      subst AreAllKept (sym it.made) (record {
        rows =
            lab_set (put_told row t) lab (λ (one : LabRow). record one { trail = told.number })
            (put_kept Trail t row it.free (named_if_any t own lab told.person it.person it.named, ap action_word (action_back told.action)) next kept.rows);
        counters = trail_counted t row it.free next kept.counters;
        currents = kept.currents;
      })

pub told_added_keeps : {old new : Tables} {code : List ℕ} {told : Told} → AreWellKept old → IsByRules new → ChangesFit (meaning old code) (TrailAdded told ∷ [])
    → Applies code (TrailAdded told) old new → AreWellKept new
told_added_keeps {old} {new} {code} {told} well rules fit it =
    let next =
    (fits_here old code it.lab (TrailAdded told) it.found fit).0
    ∙ ap (λ n. n + 1) (as_many by_trail (told_in old) (filter (λ (one : TrailRow). int_eq one.lab it.lab.id) old.trail)) in
    well_kept new rules (told_more old (own_ids old well.ids).persons it.lab.id told next new it.made (all_kept old well))
