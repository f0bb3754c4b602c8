-- Calls before and after the transaction: a look-up that passes by, and what is said of the whole.
use Rattle.std.proofs.Common.{◌≡◌, inl, inr, ℕ, false, List, [], ◌∷◌, map, filter, find, slice_get, is_some, Option, Some, None, Ok, Err, Result, OnOk, OnErr, IsTrue, refl, sym, ap, subst, ◌∙◌}
use Rattle.sqlite_keyed.proofs.ListLemmas.{slice_get-filter}
use Rattle.sqlite.specs.Effect.{Database}
use Rattle.sqlite.specs.State.{State, HasCleanDisk, IsUnchanged, KeepsCommit}
use Rattle.lab_store_tables.specs.Rows.{LabRow, Tables, tables_in}
use Rattle.lab_store_tables.specs.Held.{IsTyped}
use Rattle.lab_store_tables.specs.Meaning.{has_code}
use Rattle.lab_store_tables.specs.Ready.{IsReady, PassesBy, IsMadeBy, tables_of}
use Rattle.lab_store_tables.proofs.Shutting.{shuts_on}
use Rattle.lab_store_read_records.specs.Shown.{lab_shown, labs_shown}
use Rattle.lab_store.specs.Commits.{EndsStep}

-- a laboratory is there where a row is shown
pub shown_some : (t : Tables) (code : List ℕ) → is_some (slice_get (labs_shown t code) 0) ≡ is_some (find (has_code code) t.labs)
shown_some t code = go (filter (has_code code) t.labs) ∙ ap is_some (slice_get-filter (has_code code) t.labs)
  where
    go : (found : List LabRow) → is_some (slice_get (map lab_shown found) 0) ≡ is_some (slice_get found 0)
    go [] = refl
    go (one ∷ more) = refl

-- a call that was given up after it had passed by
pub refused : {A E : Type 0} (step : Tables → Tables → Type 0) (fault : E) (old new : State) → IsReady old → PassesBy old new
    → (HasCleanDisk new → KeepsCommit old new)
    → EndsStep step {A = A} {E = E} (Err fault) old new
refused step fault old new ready passed kept = record {
  at_rest = passed.at_rest ready.at_rest;
  clean = passed.clean;
  live = passed.live;
  made = λ clean. tt;
  rows = λ clean opened.
      (passed.at_rest ready.at_rest).settled clean opened ∙ (kept clean).committed opened
      ∙ sym (ready.at_rest.settled (passed.clean clean) ((kept clean).was_open opened));
  crash = λ clean opened trees left. inl (passed.crash ready clean opened trees left);
  shuts = passed.shuts;
}

-- what was made of the rows that stayed as they were
moved : (first second : Tables → Tables → Type 0) (old mid : State) (db : Database) → mid.now ≡ old.now
    → ((t : Tables) → first (tables_of old) t → second (tables_of old) t) → IsMadeBy first mid db → IsMadeBy second old db
moved first second old mid db same weaker made typed =
    let it = made (subst IsTyped (sym same) typed) in
    (it.0, weaker (tables_in db.trees) (subst (λ (d : Database). first (tables_in d.trees) (tables_in db.trees)) same it.1))

made_after : {A E : Type 0} (first second : Tables → Tables → Type 0) (r : Result A E) (old mid new : State) → mid.now ≡ old.now → IsTrue old.is_open
    → ((t : Tables) → first (tables_of old) t → second (tables_of old) t)
    → OnOk r (IsTrue mid.is_open × IsTrue new.is_open × IsMadeBy first mid new.now)
    → OnOk r (IsTrue old.is_open × IsTrue new.is_open × IsMadeBy second old new.now)
made_after first second (Ok value) old mid new same opened weaker it = (opened, it.1, moved first second old mid new.now same weaker it.2)
made_after first second (Err fault) old mid new same opened weaker it = tt

rows_after : {A E : Type 0} (r : Result A E) (old mid new : State) → mid.now ≡ old.now → OnErr r (new.now ≡ mid.now) → OnErr r (new.now ≡ old.now)
rows_after (Ok value) old mid new same it = tt
rows_after (Err fault) old mid new same it = it ∙ same

-- a call that commits, after one that passed by
pub ends_after : {A E : Type 0} (first second : Tables → Tables → Type 0) (r : Result A E) (old mid new : State) → IsReady old → PassesBy old mid
    → (HasCleanDisk mid → IsUnchanged old mid)
    → (HasCleanDisk mid → (t : Tables) → first (tables_of old) t → second (tables_of old) t) → EndsStep first r mid new → EndsStep second r old new
ends_after first second r old mid new ready passed same weaker ends = record {
  at_rest = ends.at_rest;
  clean = λ clean. passed.clean (ends.clean clean);
  live = λ clean opened. passed.live (ends.clean clean) (ends.live clean opened);
  made = λ clean.
      let early = ends.clean clean in
      made_after first second r old mid new (same early).0.now_is (same early).0.was_open (weaker early) (ends.made clean);
  rows = λ clean opened. rows_after r old mid new (same (ends.clean clean)).0.now_is (ends.rows clean opened);
  crash = λ clean opened trees left.
      let early = ends.clean clean in
      elim (ends.crash clean (same early).0.is_open trees left) [
        | inl before ↦ inl (passed.crash ready early opened trees before)
        | inr made ↦ inr (made.0, moved first second old mid made.0 (same early).0.now_is (weaker early) made.1, made.2)
      ];
  shuts = shuts_on old mid new ends.clean passed.shuts ends.shuts;
}

pub none_found : {A : Type 0} (o : Option A) → is_some o ≡ false → o ≡ None
none_found None is = refl
none_found (Some one) is = absurd cc
