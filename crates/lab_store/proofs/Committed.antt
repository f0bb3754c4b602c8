-- What the keeper promises of a call that commits, of how the call on its connection ends.
use Rattle.std.proofs.Common.{◌≡◌, ◌⊎◌, inl, inr, Result, Ok, Err, OnOk, OnErr, IsTrue, sym, ap, subst, ◌∙◌}
use Rattle.sqlite_trees.specs.Tree.{Trees}
use Rattle.sqlite.specs.Effect.{Database}
use Rattle.sqlite.specs.State.{State, HasCleanDisk}
use Rattle.lab_records_keeper.specs.Worlds.{Meaning, SameMeaning, Leaves, Lives, CommitsAs, StaysSafe}
use Rattle.lab_store_tables.specs.Rows.{Tables, tables_in}
use Rattle.lab_store_tables.specs.Meaning.{meaning}
use Rattle.lab_store_tables.specs.WellKept.{IsWellKept}
use Rattle.lab_store_tables.specs.Held.{AreRising}
use Rattle.lab_store_tables.specs.Ready.{IsKept, IsReady, IsMadeBy, tables_of}
use Rattle.lab_store.specs.Commits.{EndsStep}
use Rattle.lab_store.specs.StoreWorlds.{world_of}
use Rattle.lab_store.proofs.StoreWorldWords.{SameRows}

-- by a step of well-kept tables that means this of the laboratories and leaves them well kept
module _ (step : Tables → Tables → Type 0) (Means : Meaning → Meaning → Type 0) (old new : State) (ready : IsReady old) where
  module _ (law : (u : Tables) → AreRising (tables_of old) → IsWellKept (tables_of old) → step (tables_of old) u → Means (meaning (tables_of old)) (meaning u) × IsWellKept u) where
    -- a database that was made
    made_db : (db : Database) → HasCleanDisk old → IsTrue old.is_open → IsMadeBy step old db → Means (meaning (tables_of old)) (meaning (tables_in db.trees)) × IsKept db
    made_db db clean opened made =
        let kept = ready.kept clean opened in
        let it = made kept.typed in
        let rows = law (tables_in db.trees) kept.typed.rising kept.rows it.1 in
        (rows.0, record { typed = it.0; rows = rows.1 })

    module _ {A E : Type 0} (r : Result A E) (ends : EndsStep step r old new) where
      left : HasCleanDisk new → IsTrue old.is_open → (trees : Trees) → new.may_leave trees
          → old.may_leave trees ⊎ ((db : Database) × Means (meaning (tables_of old)) (meaning (tables_in db.trees)) × IsKept db × (trees ≡ db.trees))
      left clean opened trees may = elim (ends.crash clean opened trees may) [
        | inl before ↦ inl before
        | inr made ↦ let it = made_db made.0 (ends.clean clean) opened made.1 in inr (made.0, it.0, it.1, made.2)
      ]

      pub crashes : ((m n held : Meaning) → Means m n → SameMeaning n held → Means m held) → HasCleanDisk new → CommitsAs Means (world_of old) (world_of new)
      crashes carry clean opened held may = elim (left clean opened may.0 may.1) [
        | inl before ↦ inl (may.0, before, may.2)
        | inr made ↦ inr (carry (meaning (tables_of old)) (meaning (tables_in made.0.trees)) held made.1 (λ other. may.2 other ∙ ap (λ trees. meaning (tables_in trees) other) made.3))
      ]

      pub stays_safe : HasCleanDisk new → StaysSafe (world_of old) (world_of new)
      stays_safe clean opened safe trees may = elim (left clean opened trees may) [
        | inl before ↦ safe trees before
        | inr made ↦ (made.0, made.2, made.3)
      ]

    pub made_means : {A E : Type 0} (r : Result A E) → EndsStep step r old new → HasCleanDisk new → OnOk r (Means (meaning (tables_of old)) (meaning (tables_of new)))
    made_means (Ok a) ends clean = let did = ends.made clean in (made_db new.now (ends.clean clean) did.0 did.2).0
    made_means (Err e) ends clean = tt

    pub reached : {A E : Type 0} (r : Result A E) → EndsStep step r old new → IsReady new
    reached (Ok a) ends = record { at_rest = ends.at_rest; kept = λ clean opened. let did = ends.made clean in (made_db new.now (ends.clean clean) did.0 did.2).1 }
    reached (Err e) ends = record {
      at_rest = ends.at_rest;
      kept = λ clean opened. subst IsKept (sym (ends.rows clean opened)) (ready.kept (ends.clean clean) (ends.live clean opened));
    }

  pub moved : {A E : Type 0} (r : Result A E) → EndsStep step r old new → HasCleanDisk new → OnOk r (step (tables_of old) (tables_of new))
  moved (Ok a) ends clean = let did = ends.made clean in (did.2 (ready.kept (ends.clean clean) did.0).typed).1
  moved (Err e) ends clean = tt

  pub left_rows : {A E : Type 0} (r : Result A E) → EndsStep step r old new → HasCleanDisk new → OnErr r (IsTrue new.is_open → SameRows old new)
  left_rows (Ok a) ends clean = tt
  left_rows (Err e) ends clean = λ opened. ap (λ (db : Database). tables_in db.trees) (ends.rows clean opened)

  pub left_meaning : {A E : Type 0} (r : Result A E) → EndsStep step r old new → HasCleanDisk new → OnErr r (Leaves (world_of old) (world_of new))
  left_meaning (Ok a) ends clean = tt
  left_meaning (Err e) ends clean = λ opened other. ap (λ (db : Database). meaning (tables_in db.trees) other) (ends.rows clean opened)

  pub lives : {A E : Type 0} (r : Result A E) → EndsStep step r old new → HasCleanDisk new → OnOk r (Lives (world_of old) (world_of new))
  lives (Ok a) ends clean = let did = ends.made clean in (did.0, did.1)
  lives (Err e) ends clean = tt

  pub reached_err : {A E : Type 0} (r : Result A E) → EndsStep step r old new → OnErr r (IsReady new)
  reached_err (Ok a) ends = tt
  reached_err (Err e) ends = record {
    at_rest = ends.at_rest;
    kept = λ clean opened. subst IsKept (sym (ends.rows clean opened)) (ready.kept (ends.clean clean) (ends.live clean opened));
  }

-- what is so while the connection is open is so where the call ended well
pub on_lives : (step : Tables → Tables → Type 0) (old new : State) {A E P : Type 0} (r : Result A E) → EndsStep step r old new → HasCleanDisk new → (IsTrue new.is_open → P) → OnOk r P
on_lives step old new (Ok a) ends clean p = p (ends.made clean).1
on_lives step old new (Err e) ends clean p = tt
