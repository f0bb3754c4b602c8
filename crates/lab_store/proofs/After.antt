-- Changes that are made after the laboratory's row was found.
use Rattle.std.proofs.Common.{◌≡◌, ◌⊎◌, inl, inr, ℕ, ℤ, List, find, Option, Some, None, option_map, Result, Ok, Err, IfSome, IsTrue, refl, sym, subst, ◌∙◌}
use Rattle.sqlite_trees.specs.Tree.{Trees}
use Rattle.sqlite.specs.Effect.{Database}
use Rattle.sqlite.specs.State.{State, HasCleanDisk, IsUnchanged}
use Rattle.lab_records_kept.specs.declared.changes.Change.{Change}
use Rattle.lab_store_tables.specs.Rows.{LabRow, lab_id, tables_in}
use Rattle.lab_store_tables.specs.Meaning.{has_code}
use Rattle.lab_store_tables.specs.Changes.{InTurn}
use Rattle.lab_store_tables.specs.Held.{IsTyped}
use Rattle.lab_store_tables.specs.Ready.{IsAtRest, IsReady, PassesBy, IsMadeBy, tables_of}
use Rattle.lab_store_tables.proofs.Shutting.{shuts_on}
use Rattle.lab_store_load.specs.declared.counts.Counted.{Counted}
use Rattle.lab_store_load.specs.Counts.{IsCounted}
use Rattle.lab_store.specs.Counting.{IsKeeping}
use Rattle.lab_store_tables.specs.Steps.{StepsBy, AreMade, AreMadeIfAny}
use Rattle.lab_store.specs.Commits.{EndsStep}

module _ (code : List ℕ) (changes : List Change) (old middle new : State) (ready : IsReady old) (passes : PassesBy old middle) (same : HasCleanDisk middle → IsUnchanged old middle)
    (id : ℤ) (found : HasCleanDisk middle → (lab : LabRow) × (find (has_code code) (tables_of old).labs ≡ Some lab) × (lab.id ≡ id)) where
  made_after : (db : Database) → HasCleanDisk middle → IsMadeBy (InTurn (StepsBy id) changes) middle db → IsMadeBy (AreMadeIfAny code changes) old db
  made_after db clean made typed =
      let is = (same clean).0.now_is in
      let it = made (subst IsTyped (sym is) typed) in
      let lab = found clean in
      let steps : InTurn (StepsBy id) changes (tables_of old) (tables_in db.trees) = subst (λ (one : Database). InTurn (StepsBy id) changes (tables_in one.trees) (tables_in db.trees)) is it.1 in
      let made : AreMade code changes (tables_of old) (tables_in db.trees) = record {
        lab = lab.0;
        found = lab.1;
        steps = subst (λ i. InTurn (StepsBy i) changes (tables_of old) (tables_in db.trees)) (sym lab.2) steps;
      } in
      (it.0, inr made)

  module _ {A E : Type 0} (r : Result A E) (ends : EndsStep (InTurn (StepsBy id) changes) r middle new) where
    crash_after : HasCleanDisk new → IsTrue old.is_open → (trees : Trees) → new.may_leave trees
        → old.may_leave trees ⊎ ((db : Database) × IsMadeBy (AreMadeIfAny code changes) old db × (trees ≡ db.trees))
    crash_after clean opened trees left =
        let early = ends.clean clean in
        elim (ends.crash clean (same early).0.is_open trees left) [
          | inl before ↦ inl (passes.crash ready early opened trees before)
          | inr made ↦ inr (made.0, made_after made.0 early made.1, made.2)
        ]

    live_after : HasCleanDisk new → IsTrue new.is_open → IsTrue old.is_open
    live_after clean opened = passes.live (ends.clean clean) (ends.live clean opened)

  pub ends_ok : {A B E : Type 0} (F : Type 0) (a : A) (b : B) → EndsStep (InTurn (StepsBy id) changes) {A = A} {E = E} (Ok a) middle new → EndsStep (AreMadeIfAny code changes) {A = B} {E = F} (Ok b) old new
  ends_ok {A} {B} {E} F a b ends = record {
    at_rest = ends.at_rest;
    clean = λ clean. passes.clean (ends.clean clean);
    live = live_after {A = A} {E = E} (Ok a) ends;
    made = λ clean. let did = ends.made clean in (passes.live (ends.clean clean) did.0, did.1, made_after new.now (ends.clean clean) did.2);
    rows = λ clean opened. tt;
    crash = crash_after {A = A} {E = E} (Ok a) ends;
    shuts = shuts_on old middle new ends.clean passes.shuts ends.shuts;
  }

  pub ends_err : {A E F : Type 0} (B : Type 0) (e : E) (f : F) → EndsStep (InTurn (StepsBy id) changes) {A = A} {E = E} (Err e) middle new → EndsStep (AreMadeIfAny code changes) {A = B} {E = F} (Err f) old new
  ends_err {A} {E} B e f ends = record {
    at_rest = ends.at_rest;
    clean = λ clean. passes.clean (ends.clean clean);
    live = live_after {A = A} {E = E} (Err e) ends;
    made = λ clean. tt;
    rows = λ clean opened. ends.rows clean opened ∙ (same (ends.clean clean)).0.now_is;
    crash = crash_after {A = A} {E = E} (Err e) ends;
    shuts = shuts_on old middle new ends.clean passes.shuts ends.shuts;
  }

-- the row of the laboratory whose id a look-up answered
pub found_row : (o : Option LabRow) (id : ℤ) → Some id ≡ option_map lab_id o → (lab : LabRow) × (o ≡ Some lab) × (lab.id ≡ id)
found_row None id is = absurd (let e = is in cc)
found_row (Some lab) id is =
    let same : id ≡ lab.id = (let e = is in cc) in
    (lab, refl, sym same)

-- what was counted is right for tables of ours
pub counted_now : (s : State) (counted : Option Counted) → IsKeeping s counted → IsReady s → HasCleanDisk s → IsTrue s.is_open → IfSome counted (IsCounted (tables_of s))
counted_now s counted keeping ready clean opened = keeping.right clean opened (ready.kept clean opened)

-- what was taken of the keeper is what it kept
pub keeping_as : (s : State) (one other : Option Counted) → one ≡ other → IsKeeping s other → IsKeeping s one
keeping_as s one other same keeping = subst (IsKeeping s) (sym same) keeping

-- where nothing is kept, it is enough that the connection is at rest
pub keeps_none : (s : State) (counted : Option Counted) → counted ≡ None → IsAtRest s → IsKeeping s counted
keeps_none s counted none rest = subst (IsKeeping s) (sym none) (record { at_rest = rest; right = λ _ _ _. tt; opened = λ _. tt })
