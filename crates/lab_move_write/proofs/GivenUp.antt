-- The transaction that places a laboratory, where it was given up.
use Rattle.std.proofs.Common.{◌≡◌, false, true, Err}
use Rattle.sqlite_trees.specs.declared.store.Store.{Ghosts}
use Rattle.sqlite.specs.Effect.{Database}
use Rattle.sqlite.specs.Held.{Held, state}
use Rattle.sqlite.specs.State.{State, IsRolledBack, KeepsCommit, Survives, HasCleanDisk}
use Rattle.lab_records_kept.specs.declared.labs.Lab.{Lab}
use Rattle.lab_store_tables.specs.Rows.{tables_in}
use Rattle.lab_store_tables.specs.Held.{IsTyped}
use Rattle.lab_store_tables.specs.Ready.{IsAtRest, IsMadeBy}
use Rattle.lab_move_write.specs.Placings.{PlacesByRules}
use Rattle.lab_move_write.specs.Commits.{MakesAtOnce}
use Rattle.lab_move_write.proofs.Commits.{given_up}

abbrev pub PlacesIn : Lab → Database → Database → Type 0
PlacesIn lab was db = IsTyped was → IsTyped db × PlacesByRules lab (tables_in was.trees) (tables_in db.trees)

module _ {S : Type 0} (g : Ghosts S) (old begun last : Held S) (end : State) (lab : Lab)
    (rest : IsAtRest (state g old)) (is : begun ≡ record old { in_transaction = true }) (alone : end.in_transaction ≡ false)
    (one : Survives (state g begun) (state g last) (λ _. ⊥)) (keeps : HasCleanDisk (state g last) → KeepsCommit (state g begun) (state g last))
    (three : Survives (state g last) end (λ _. ⊥)) (undone : HasCleanDisk end → IsRolledBack (state g last) end) where
  pub placing_given_up : {A E : Type 0} (fault : E) → MakesAtOnce (IsMadeBy (PlacesByRules lab) (state g old)) {A = A} {E = E} (Err fault) (state g old) end
  placing_given_up fault = given_up g old begun last end (PlacesIn lab) rest is alone one keeps three undone fault
