-- One laboratory, read of the old file and placed in the new one.
use Rattle.std.proofs.Common.{◌≡◌, inl, inr, ℕ, List, Option, Some, Ok, Err, Result, IfOk, IfErr, OnOk, subst}
use Rattle.sqlite.specs.Effect.{Database}
use Rattle.sqlite.specs.State.{State, HasCleanDisk}
use Rattle.lab_records_kept.specs.declared.labs.Lab.{Lab}
use Rattle.lab_records_kept.specs.Bound.{IsBound}
use Rattle.lab_records_kept.specs.Dual.{IsDual}
use Rattle.lab_store_tables.specs.Rows.{Tables}
use Rattle.lab_move_tables.specs.Reading.{ReadsAs}
use Rattle.lab_move_tables.proofs.OldReaders.{may_and}
use Rattle.lab_move_write.specs.Commits.{MakesAtOnce}
use Rattle.lab_move_write.proofs.Commits.{makes_weaker}
use Rattle.lab_move_write.specs.Carrying.{Carries}
use Rattle.lab_move_read_people.specs.declared.faults.KeptFault.{KeptFault}
use Rattle.lab_move_read_people.specs.declared.faults.KeptFault.TheVariants.{NotKept}
use Rattle.lab_move_read.specs.Laboratories.{IsLabOf, IsUnkept}
use Rattle.lab_move.specs.declared.faults.MoveFault.{MoveFault}
use Rattle.lab_move.specs.declared.faults.MoveFault.TheVariants.{File, NotSound}
use Rattle.lab_move.specs.Private.Moving.{Blames, CarriesFrom}
use Rattle.lab_move.specs.Moving.{ReadsOldAs, IsSoundIn, IsSoundLab, IsUnsoundIn}

-- ---- faults

pub blames_as : {P Q : List ℕ → Type 0} (fault : MoveFault) → ((one : List ℕ) → P one → Q one) → Blames P fault → Blames Q fault
blames_as (File fault) f h = h
blames_as (NotSound lab) f h = f lab h

pub errs_as : {A : Type 0} {P Q : List ℕ → Type 0} (r : Result A MoveFault) → ((one : List ℕ) → P one → Q one) → IfErr r (Blames P) → IfErr r (Blames Q)
errs_as (Ok a) f h = tt
errs_as (Err fault) f h = blames_as fault f h

-- ---- the laboratory that was found

abbrev pub FoundSound : Option Lab → Type 0
FoundSound found = (lab : Lab) × (found ≡ Some lab) × IsSoundLab lab

abbrev pub PlacesFound : Option Lab → Database → Database → Type 0
PlacesFound found was db = (lab : Lab) × (found ≡ Some lab) × IsSoundLab lab × Carries lab was db

module _ {Stands : Database → Tables → Type 0} {E : Type 0} (code : List ℕ) (found : Option Lab) {before after : State} (read : ReadsAs Stands {E = E} (λ t it. IsLabOf t code it) before after (Ok found)) where
  here : (t : Tables) → ReadsOldAs Stands before after t → IsLabOf t code found
  here t so = read.answer t so.0 so.1

  pub lab_reads : {A F : Type 0} (r : Result A F) → OnOk r (FoundSound found) → ReadsAs Stands (λ t _. IsSoundIn t code) before after r
  lab_reads r sound = may_and read (λ t file is. go t r sound is)
    where
      go : (t : Tables) {A F : Type 0} (end : Result A F) → OnOk end (FoundSound found) → IsLabOf t code found → IfOk end (λ _. IsSoundIn t code)
      go t (Ok a) it is = (it.0, subst (IsLabOf t code) it.1 is, it.2)
      go t (Err e) it is = tt

  pub lab_carries : {A F : Type 0} (r : Result A F) {was now : State} → MakesAtOnce (PlacesFound found was.now) r was now
      → MakesAtOnce (CarriesFrom Stands before after code was.now) r was now
  lab_carries r {was} {now} it =
      makes_weaker (PlacesFound found was.now) (CarriesFrom Stands before after code was.now) r
      (λ db one. (one.0, one.2, one.3, λ t so. subst (IsLabOf t code) one.1 (here t so))) it

  pub lab_blamed : (one : List ℕ) → (one ≡ code) × (lab : Lab) × (found ≡ Some lab) × ¬ (IsBound lab × IsDual lab)
      → (one ≡ code) × ((t : Tables) → ReadsOldAs Stands before after t → IsUnsoundIn t code)
  lab_blamed one it = (it.0, λ t so. inr (it.1, subst (IsLabOf t code) it.2 (here t so), it.3))

-- where none was read
pub unread_blamed : (Stands : Database → Tables → Type 0) (code : List ℕ) (fault : KeptFault) (before after : State)
    → ((t : Tables) → Stands before.now t → HasCleanDisk after → fault ≡ NotKept → IsUnkept t code)
    → (one : List ℕ) → (one ≡ code) × (fault ≡ NotKept) → (one ≡ code) × ((t : Tables) → ReadsOldAs Stands before after t → IsUnsoundIn t code)
unread_blamed Stands code fault before after unkept one it = (it.0, λ t so. inl (unkept t so.0 so.1 it.1))

pub on_ok_so : {A E P : Type 0} (r : Result A E) → P → OnOk r P
on_ok_so (Ok a) p = p
on_ok_so (Err e) p = tt

pub on_ok_as : {A E P Q : Type 0} (r : Result A E) → (P → Q) → OnOk r P → OnOk r Q
on_ok_as (Ok a) f p = f p
on_ok_as (Err e) f p = tt
