-- What a call blames its store for is why the keeper may refuse it.
use Rattle.std.proofs.Common.{◌≡◌, List, ℕ, Ok, Err, Result, IfErr, refl, subst}
use Rattle.sqlite_trees.specs.declared.store.Store.{Ghosts}
use Rattle.sqlite.specs.Held.{Held, state}
use Rattle.lab_forms_texts.specs.declared.refusals.Fault.{Fault}
use Rattle.lab_forms_texts.specs.declared.refusals.Fault.TheVariants.{Refused, Memory}
use Rattle.lab_records_kept.specs.declared.births.Newborn.{Newborn}
use Rattle.lab_records_kept.specs.declared.changes.Change.{Change}
use Rattle.lab_records_kept.specs.declared.needs.Need.{Need}
use Rattle.lab_records_keeper.specs.declared.faults.BadStore.{BadStore}
use Rattle.lab_records_keeper.specs.declared.faults.PlacingFault.{PlacingFault}
use Rattle.lab_records_keeper.specs.declared.faults.PlacingFault.TheVariants.{LabExists, Storage as NotStored, Memory as NoMemory}
use Rattle.lab_records_keeper.specs.Worlds.{KeeperFaultFits, PlacingFaultFits}
use Rattle.lab_records_copy_out.specs.declared.faults.CopyOutFault.{CopyOutFault}
use Rattle.lab_records_copy_out.specs.declared.faults.CopyOutFault.TheVariants.{NoSuchLab, Storage, Memory as CopyMemory, Write}
use Rattle.lab_records_copy_out.specs.Faults.{CopyFaultFits}
use Rattle.lab_store_load.specs.Readable.{HasPart}
use Rattle.lab_store_read.specs.Causes.{HasItsCause}
use Rattle.lab_store_read_copies.specs.Causes.{CopyHasItsCause, HasRange}
use Rattle.lab_store.specs.Causes.{ChangesHaveTheirCause, FoundingHasItsCause, RefusesCommit, RefusesLoad, RefusesNewborn, RefusesRange}

module _ {S T : Type 0} (g : Ghosts S) (new : Held S) where
  load_of : (old : Held S) (code : List ℕ) (need : Need) (result : Result T (Fault BadStore))
      → HasItsCause (λ t. HasPart t code need) (state g old) (state g new) result
      → IfErr result (KeeperFaultFits (RefusesLoad g old new code need))
  load_of old code need (Ok found) why = tt
  load_of old code need (Err (Refused _)) why =
      λ ready clean readable. why.cause ready clean readable refl
  load_of old code need (Err Memory) why = tt

  pub load_blamed : (inside self : Held S) (code : List ℕ) (need : Need)
      (result : Result T (Fault BadStore)) → inside ≡ self
      → HasItsCause (λ t. HasPart t code need) (state g inside) (state g new) result
      → IfErr result (KeeperFaultFits (RefusesLoad g self new code need))
  load_blamed inside self code need result is why = load_of self code need result
      (subst (λ h. HasItsCause (λ t. HasPart t code need) (state g h) (state g new) result) is why)

  commit_of : (old : Held S) (code : List ℕ) (changes : List Change)
      (result : Result T (Fault BadStore))
      → ChangesHaveTheirCause g code changes old new result
      → IfErr result (KeeperFaultFits (RefusesCommit g old new code changes))
  commit_of old code changes (Ok made) why = tt
  commit_of old code changes (Err (Refused _)) why =
      λ ready clean readable. why.cause ready clean readable refl
  commit_of old code changes (Err Memory) why = tt

  pub commit_blamed : (inside self : Held S) (code : List ℕ) (list changes : List Change)
      (result : Result T (Fault BadStore)) → list ≡ changes → inside ≡ self
      → ChangesHaveTheirCause g code list inside new result
      → IfErr result (KeeperFaultFits (RefusesCommit g self new code changes))
  commit_blamed inside self code list changes result same is why =
      commit_of self code changes result
      (subst (λ h. ChangesHaveTheirCause g code changes h new result) is
      (subst (λ (made : List Change). ChangesHaveTheirCause g code made inside new result) same why))

  newborn_of : (old : Held S) (newborn : Newborn) (result : Result T PlacingFault)
      → FoundingHasItsCause g newborn old new result
      → IfErr result (PlacingFaultFits (RefusesNewborn g old new newborn) (Unit {0}))
  newborn_of old newborn (Ok placed) why = tt
  newborn_of old newborn (Err LabExists) why = tt
  newborn_of old newborn (Err NotStored) why = λ ready clean. why.cause ready clean tt refl
  newborn_of old newborn (Err NoMemory) why = tt

  pub newborn_blamed : (inside self : Held S) (newborn : Newborn) (result : Result T PlacingFault)
      → inside ≡ self → FoundingHasItsCause g newborn inside new result
      → IfErr result (PlacingFaultFits (RefusesNewborn g self new newborn) (Unit {0}))
  newborn_blamed inside self newborn result is why = newborn_of self newborn result
      (subst (λ h. FoundingHasItsCause g newborn h new result) is why)

  pub range_blamed : (may : Type 0) (old : Held S) (code : List ℕ) (from last : ℕ)
      (result : Result T CopyOutFault)
      → IfErr result (CopyFaultFits ⊥ may (Unit {0}))
      → CopyHasItsCause (λ t. HasRange t code from last) (state g old) (state g new) result
      → IfErr result (CopyFaultFits ⊥ (RefusesRange g old new code from last) (Unit {0}))
  range_blamed may old code from last (Ok sent) fits why = tt
  range_blamed may old code from last (Err NoSuchLab) fits why = fits
  range_blamed may old code from last (Err Storage) fits why =
      λ ready clean readable. why.cause ready clean readable refl
  range_blamed may old code from last (Err CopyMemory) fits why = tt
  range_blamed may old code from last (Err Write) fits why = tt
