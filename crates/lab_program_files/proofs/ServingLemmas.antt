-- A server over a file.
use Rattle.std.proofs.Common.{◌≡◌, ℕ, Option, Some, None, subst, sym}
use Rattle.std.specs.Prelude.{IfSome, IsSomeAnd, option_map}
use Rattle.lab_forms_texts.specs.declared.refusals.Fault.{Fault}
use Rattle.lab_records_keeper.specs.declared.faults.BadStore.{BadStore}
use Rattle.lab_records_keeper.specs.declared.keeper.Keeper.{Ghosts}
use Rattle.lab_desk.specs.Desk.{Served}
use Rattle.lab_program_host.specs.Sources.{Drawing}
use Rattle.lab_program_host.specs.TaskEnds.{TaskEnd}
use Rattle.lab_program_serve.specs.ServeTask.{IsServing}
use Rattle.lab_program_opening.specs.declared.faults.OpenFault.{OpenFault}
use Rattle.lab_program_files.specs.Serving.{ServesTo}

module _ {S : Type 0} (keeper : Ghosts S) (found opened closed : S → Type 0)
    (unmended : Fault BadStore → Type 0) (unopened : OpenFault → Type 0) (drawing : Drawing) (count : ℕ) (end : TaskEnd) where
  -- served from the keeper that was found, which is one that was opened
  pub serves_to : (first left : Option (Served S)) (finished : Option S) →
      IsSomeAnd first (λ desk. found desk.keeper) →
      IsServing keeper opened closed unmended first left drawing count end →
      finished ≡ option_map (λ desk. desk.keeper) left →
      ServesTo keeper found opened closed unmended unopened drawing count end finished
  serves_to None left finished there serving is = absurd there
  serves_to (Some desk) left finished there serving is = (desk, left, there, serving, is)

-- a desk over the keeper that was found
pub found_over : {S : Type 0} (found : S → Type 0) (live : Option (Served S)) (kept : S) →
    IsSomeAnd live (λ desk. desk.keeper ≡ kept) → found kept → IsSomeAnd live (λ desk. found desk.keeper)
found_over found None kept is there = absurd is
found_over found (Some desk) kept is there = subst found (sym is) there

-- what is left of a desk over the keeper that was found
pub found_left : {S : Type 0} (found : S → Type 0) (left : Option (Served S))
    (finished : Option S) → finished ≡ option_map (λ desk. desk.keeper) left →
    IsSomeAnd left (λ desk. found desk.keeper) → IfSome finished found
found_left found None finished is there = absurd there
found_left found (Some desk) finished is there =
    subst (λ one. IfSome one found) (sym is) there

-- what was left to be closed was closed, or nothing was left
pub shut_some : {S : Type 0} (closed : S → Type 0) (finished : Option S) (kept : S) →
    finished ≡ Some kept → closed kept → IfSome finished closed
shut_some {S} closed finished kept is shut =
    subst (λ (one : Option S). IfSome one closed) (sym is) shut

pub shut_none : {S : Type 0} (closed : S → Type 0) (finished : Option S) → finished ≡ None →
    IfSome finished closed
shut_none {S} closed finished is = subst (λ (one : Option S). IfSome one closed) (sym is) tt
