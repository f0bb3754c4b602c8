-- Changes of a laboratory, and a founding, as steps of the tables: what each means, and that tables stay well kept.
use Rattle.std.proofs.Common.{◌≡◌, ℕ, List, Result, IsTrue, sym, subst, ◌∙◌}
use Rattle.sqlite_trees.specs.declared.store.Store.{Ghosts}
use Rattle.sqlite.specs.Held.{Held, state}
use Rattle.sqlite.specs.State.{State}
use Rattle.lab_records_kept.specs.declared.births.Newborn.{Newborn}
use Rattle.lab_records_kept.specs.declared.changes.Change.{Change}
use Rattle.lab_records_kept.specs.declared.labs.Lab.{Lab}
use Rattle.lab_records_kept.specs.Births.{newborn_lab}
use Rattle.lab_records_kept.specs.Changes.{ChangesFit}
use Rattle.lab_records_keeper.specs.Worlds.{Meaning, SameMeaning, Changes, Places}
use Rattle.lab_store_tables.specs.Rows.{Tables}
use Rattle.lab_store_tables.specs.Meaning.{meaning}
use Rattle.lab_store_tables.specs.WellKept.{IsWellKept, is_desk}
use Rattle.lab_store_tables.specs.Held.{AreRising}
use Rattle.lab_store_tables.specs.Ready.{IsReady}
use Rattle.lab_store_tables.proofs.DeskStays.{desk_stays_at_placing}
use Rattle.lab_store_tables.proofs.Founded.{founded_is_placed}
use Rattle.lab_store_tables.specs.Steps.{AreMadeIfAny}
use Rattle.lab_store_tables.proofs.AllChanges.{rows_changed}
use Rattle.lab_store.specs.Commits.{EndsStep}
use Rattle.lab_store.specs.Commits as founding
use Rattle.lab_store.specs.Founding.{IsPlacedBy}

pub changes_as : (code : List ℕ) (changes : List Change) (old made held : Meaning) → Changes code changes old made → SameMeaning made held → Changes code changes old held
changes_as code changes old made held it same = record {
  here = same code ∙ it.here;
  others = λ other differs. same other ∙ it.others other differs;
}

pub places_as : (lab : Lab) (old made held : Meaning) → Places lab old made → SameMeaning made held → Places lab old held
places_as lab old made held it same = record {
  was_none = it.was_none;
  placed = record { here = same lab.code ∙ it.placed.here; others = λ other differs. same other ∙ it.placed.others other differs };
}

pub changes_law : (code : List ℕ) (changes : List Change) (t : Tables) → ChangesFit (meaning t code) changes → (u : Tables) → AreRising t → IsWellKept t → AreMadeIfAny code changes t u
    → Changes code changes (meaning t) (meaning u) × IsWellKept u
changes_law code changes t fit u rising well made = rows_changed code changes t u rising well fit made

pub founding_law : (newborn : Newborn) (t u : Tables) → AreRising t → IsWellKept t → IsPlacedBy newborn t u → Places (newborn_lab newborn) (meaning t) (meaning u) × IsWellKept u
founding_law newborn t u rising well it =
    let placed = founded_is_placed t u newborn rising well.rows it.placed in
    (placed.0, record { desk = subst (λ rows. IsTrue (is_desk rows)) (sym (desk_stays_at_placing t u (newborn_lab newborn) it.placed.placed)) well.desk; rows = placed.1 })

-- how the call ended, said of the keeper and of the changes that it was given
pub ends_given : {S A E : Type 0} (g : Ghosts S) (code : List ℕ) (list changes : List Change) (inside self : Held S) (new : State) (r : Result A E) → list ≡ changes → inside ≡ self
    → (IsReady (state g inside) → EndsStep (AreMadeIfAny code list) r (state g inside) new) → IsReady (state g self) → EndsStep (AreMadeIfAny code changes) r (state g self) new
ends_given g code list changes inside self new r same is ends ready =
    subst (λ (made : List Change). EndsStep (AreMadeIfAny code made) r (state g self) new) same
    (subst (λ h. IsReady (state g h) → EndsStep (AreMadeIfAny code list) r (state g h) new) is ends ready)

-- a founding ends as changes do
pub as_committed : {A E : Type 0} (step : Tables → Tables → Type 0) (r : Result A E) (old new : State) → founding.EndsStep step r old new → EndsStep step r old new
as_committed step r old new it = record { at_rest = it.at_rest; clean = it.clean; live = it.live; made = it.made; rows = it.rows; crash = it.crash; shuts = it.shuts }

-- and said of the keeper
pub founding_given : {S A E : Type 0} (g : Ghosts S) (newborn : Newborn) (inside self : Held S) (new : State) (r : Result A E) → inside ≡ self
    → (IsReady (state g inside) → founding.EndsStep (IsPlacedBy newborn) r (state g inside) new) → IsReady (state g self) → EndsStep (IsPlacedBy newborn) r (state g self) new
founding_given g newborn inside self new r is ends ready =
    as_committed (IsPlacedBy newborn) r (state g self) new (subst (λ h. IsReady (state g h) → founding.EndsStep (IsPlacedBy newborn) r (state g h) new) is ends ready)
