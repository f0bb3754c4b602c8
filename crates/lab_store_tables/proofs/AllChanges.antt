-- Changes one after the other: what they make of the tables means what they make of the laboratory, every other laboratory
-- means what it meant, and the tables stay well kept.
use Rattle.std.proofs.Common.{◌≡◌, inl, inr, ℕ, ℤ, List, [], ◌∷◌, find, Option, Some, None, IsTrue, refl, sym, ap, subst, ◌∙◌}
use Rattle.lab_records_kept.specs.declared.labs.Lab.{Lab}
use Rattle.lab_records_kept.specs.declared.changes.Change.{Change}
use Rattle.lab_records_kept.specs.declared.changes.Change.TheVariants.{Last, Strays, PersonAdded, PersonSet, SessionAdded, SessionSet, SessionsClosed, FormAdded, RecordAdded, RowAdded, VersionOpened, SignatureAdded, TrailAdded}
use Rattle.lab_records_kept.specs.Changes.{changed_in, ChangesFit}
use Rattle.lab_records_keeper.specs.Worlds.{Meaning, Changes}
use Rattle.lab_store_tables.specs.Rows.{LabRow, Tables}
use Rattle.lab_store_tables.specs.Meaning.{has_code, meaning}
use Rattle.lab_store_tables.specs.WellKept.{is_desk, IsWellKept}
use Rattle.lab_store_tables.specs.Held.{AreRising}
use Rattle.lab_store_tables.specs.Changes.{InTurn, AppliesIn, Applies}
use Rattle.lab_store_tables.specs.Steps.{AppliesWhereKept, StepsBy, AreMadeIfAny}
use Rattle.lab_store_tables.proofs.EachChangeKeeps.{change_keeps}
use Rattle.lab_store_tables.proofs.EachChangeMeans.{change_means}
use Rattle.lab_store_tables.proofs.Spared.{change_spares}

changed_first : (one : Change) (others : List Change) (lab : Option Lab) → changed_in (changed_in lab (one ∷ [])) others ≡ changed_in lab (one ∷ others)
changed_first one others None = refl
changed_first one others (Some lab) = refl

pub changes_then : (code : List ℕ) (one : Change) (others : List Change) (first next last : Meaning) → Changes code (one ∷ []) first next → Changes code others next last
    → Changes code (one ∷ others) first last
changes_then code one others first next last p q = record {
  here = q.here ∙ ap (λ lab. changed_in lab others) p.here ∙ changed_first one others (first code);
  others = λ other differs. q.others other differs ∙ p.others other differs;
}

pub no_changes : (code : List ℕ) (first : Meaning) → Changes code [] first first
no_changes code first = record { here = unchanged (first code); others = λ other differs. refl }
  where
    unchanged : (lab : Option Lab) → lab ≡ changed_in lab []
    unchanged None = refl
    unchanged (Some lab) = refl

-- of changes that fit, the first fits, and the others fit what it makes
first_fits : (one : Change) (others : List Change) (lab : Option Lab) → ChangesFit lab (one ∷ others) → ChangesFit lab (one ∷ [])
first_fits one others None fit = absurd fit
first_fits one others (Some lab) fit = (fit.0, tt)

others_fit : (one : Change) (others : List Change) (lab : Option Lab) → ChangesFit lab (one ∷ others) → ChangesFit (changed_in lab (one ∷ [])) others
others_fit one others None fit = absurd fit
others_fit one others (Some lab) fit = fit.1

-- a change of well-kept tables
applies_kept : (lab : ℤ) (one : Change) (old new : Tables) → AreRising old → IsWellKept old → AppliesWhereKept lab one old new → AppliesIn lab one old new
applies_kept lab (Last moment) old new rising well it = it
applies_kept lab (Strays count) old new rising well it = it
applies_kept lab (PersonAdded person) old new rising well it = it
applies_kept lab (PersonSet person) old new rising well it = it
applies_kept lab (SessionAdded session) old new rising well it = it
applies_kept lab (SessionSet session) old new rising well it = it
applies_kept lab (SessionsClosed person closing) old new rising well it = it rising well
applies_kept lab (FormAdded form) old new rising well it = it
applies_kept lab (RecordAdded kept) old new rising well it = it
applies_kept lab (RowAdded number row) old new rising well it = it
applies_kept lab (VersionOpened number version) old new rising well it = it
applies_kept lab (SignatureAdded number version signature) old new rising well it = it
applies_kept lab (TrailAdded told) old new rising well it = it

module _ (code : List ℕ) where
  pub all_steps : (changes : List Change) (old new : Tables) (id : ℤ) (lab : LabRow) → find (has_code code) old.labs ≡ Some lab → lab.id ≡ id
      → AreRising old → IsWellKept old → ChangesFit (meaning old code) changes → InTurn (StepsBy id) changes old new
      → Changes code changes (meaning old) (meaning new) × IsWellKept new
  all_steps [] old new id lab found is rising well fit same =
      subst (λ t. Changes code [] (meaning old) (meaning t) × IsWellKept t) (sym same) (no_changes code (meaning old), well)
  all_steps (one ∷ others) old new id lab found is rising well fit steps =
      let next = steps.0 in
      let step = steps.1 in
      let applies = applies_kept id one old next rising well step.applies in
      let made : Applies code one old next = record { lab = lab; found = found; made = subst (λ i. AppliesIn i one old next) (sym is) applies } in
      let fits = first_fits one others (meaning old code) fit in
      let means = change_means old next code one rising well.rows fits made in
      let spared = change_spares id one old next applies in
      let keeps : IsWellKept next = record {
        desk = subst (λ rows. IsTrue (is_desk rows)) (sym spared.desk) well.desk;
        rows = change_keeps old next code one well.rows step.rules fits made;
      } in
      let still = spared.labs code lab found in
      let rest = all_steps others next new id still.0 still.1 (still.2 ∙ is) step.rising keeps
      (subst (λ o. ChangesFit o others) (sym means.here) (others_fit one others (meaning old code) fit)) steps.2 in
      (changes_then code one others (meaning old) (meaning next) (meaning new) means rest.0, rest.1)

  -- whether there were any or none
  pub rows_changed : (changes : List Change) (old new : Tables) → AreRising old → IsWellKept old → ChangesFit (meaning old code) changes → AreMadeIfAny code changes old new
      → Changes code changes (meaning old) (meaning new) × IsWellKept new
  rows_changed changes old new rising well fit (inl none) =
      subst (λ list. Changes code list (meaning old) (meaning new) × IsWellKept new) (sym none.0)
      (subst (λ rows. Changes code [] (meaning old) (meaning rows) × IsWellKept rows) (sym none.1) (no_changes code (meaning old), well))
  rows_changed changes old new rising well fit (inr it) = all_steps changes old new it.lab.id it.lab it.found refl rising well fit it.steps
