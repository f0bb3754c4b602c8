-- Who gives a command: nobody need be known, and whoever is known stays so while the persons stay.
use Rattle.std.proofs.Common.{◌≡◌, ℕ, ℤ, List, [], ◌∷◌, find, Result, Option, Some, None, option_map, sym, ap, subst, ◌∙◌}
use Rattle.sqlite.specs.declared.error.Error.{Error}
use Rattle.sqlite.specs.State.{State}
use Rattle.lab_store_tables.specs.Rows.{PersonRow, Tables, person_id}
use Rattle.lab_store_tables.specs.Changes.{InTurn, is_person}
use Rattle.lab_store_write.specs.declared.named.Giver.{Giver}
use Rattle.lab_store_write.specs.Calls.{AnswersUnlessTrying, AnswersUnless, MadeFrom}
use Rattle.lab_store_write.specs.Causes.{Tries}
use Rattle.lab_store_write.specs.Givers.{Knows}
use Rattle.lab_store_write.specs.Private.Givers.{EachKnowing}
use Rattle.lab_store_write.specs.Tried.{TriedFrom}
use Rattle.lab_store_write.proofs.Inside.{steps_weaker}
use Rattle.lab_store_write.proofs.Writers.{answers_as, tries_as, untold}

-- a step that is made whoever is known, or where nobody need be
module _ {T A : Type 0} {lender : T → ℕ × ℕ} {state : T → State} {Beside : Error → Type 0} {step : Tables → Tables → Type 0} {a b : T} {r : Result A Error} where
  pub by_whomever : {tries : Tries} {K : Tables → Type 0} → AnswersUnlessTrying Beside tries lender state (λ _. step) a b r
      → AnswersUnlessTrying Beside (TriedFrom K tries) lender state (λ _. MadeFrom K step) a b r
  by_whomever {tries} {K} it = tries_as {more = TriedFrom K tries} (λ before tried at own known. own) (answers_as it (λ _. steps_weaker _ _ _ _ (λ before after did known. did)))

  -- it isn't said what is tried
  pub by_nobody : {tries : Tries} (lab : ℤ) → AnswersUnlessTrying Beside tries lender state (λ _. MadeFrom (Knows lab None) step) a b r → AnswersUnless Beside lender state (λ _. step) a b r
  by_nobody lab it = untold (answers_as it (λ _. steps_weaker _ _ _ _ (λ before after did. did tt)))

module _ (lab : ℤ) where
  pub known_still : (giver : Option Giver) (old new : Tables) → new.persons ≡ old.persons → Knows lab giver old → Knows lab giver new
  known_still None old new same known = known
  known_still (Some giver) old new same known =
      ap (λ (persons : List PersonRow). option_map person_id (find (is_person lab giver.code.now) persons)) same ∙ known

  -- steps in turn, each of which leaves the persons
  pub known_turns : {A : Type 0} (giver : Option Giver) (step : A → Tables → Tables → Type 0) → ((one : A) (old new : Tables) → step one old new → new.persons ≡ old.persons)
      → (items : List A) (old new : Tables) → InTurn (EachKnowing lab giver step) items old new → Knows lab giver old
      → InTurn step items old new × Knows lab giver new
  known_turns giver step leaves [] old new turns known = (turns, subst (Knows lab giver) (sym turns) known)
  known_turns giver step leaves (one ∷ others) old new turns known =
      let did = turns.1 known in
      let more = known_turns giver step leaves others turns.0 new turns.2 (known_still giver old turns.0 (leaves one old turns.0 did) known) in
      ((turns.0, did, more.0), more.1)
