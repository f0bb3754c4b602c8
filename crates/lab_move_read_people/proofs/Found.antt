-- What calls found that try rows, of what they are made.
use Rattle.std.proofs.Common.{◌≡◌, Bool, true, false, ◌&&◌, Option, Some, None, Result, Ok, Err, IfErr, refl, sym, ap, ◌∙◌, subst}
use Rattle.std.specs.Prelude.{IsErrAnd}
use Rattle.sqlite.specs.Effect.{Database}
use Rattle.sqlite.specs.State.{State}
use Rattle.lab_forms_texts.specs.declared.refusals.Fault.{Fault}
use Rattle.lab_forms_texts.specs.declared.refusals.Fault.TheVariants as read
use Rattle.lab_records_keeper.specs.declared.faults.BadStore.{BadStore}
use Rattle.lab_store_tables.specs.Rows.{Tables}
use Rattle.lab_store_read.proofs.Queries.{if_then}
use Rattle.lab_store_read.specs.Cells.{storage}
use Rattle.lab_move_tables.specs.Reading.{ReadsWhere}
use Rattle.lab_move_tables.proofs.Wheres.{where_and, where_both, where_end, where_fail, where_then}
use Rattle.lab_move_read_people.specs.declared.faults.KeptFault.{KeptFault}
use Rattle.lab_move_read_people.specs.declared.faults.KeptFault.TheVariants.{NotKept, Storage, Memory}
use Rattle.lab_move_read_people.specs.Faults.{kept_fault}
use Rattle.lab_move_read_people.specs.Kept.{found_of, IsFound, TriesWhere}
use Rattle.lab_move_read_people.specs.Private.Kept.{IsTried}

pub both_pass : (a b : Bool) → a ≡ true → b ≡ true → (a && b) ≡ true
both_pass a b h k = ap (λ c. c && b) h ∙ k

pub first_fails : (a b : Bool) → a ≡ false → (a && b) ≡ false
first_fails a b h = ap (λ c. c && b) h

pub last_fails : (a b : Bool) → b ≡ false → (a && b) ≡ false
last_fails true b h = h
last_fails false b h = refl

-- the same found, in other words
pub found_as : {A : Type 0} {P Q : A → Type 0} {a b : Bool} (found : Option A) → IsFound a P found → a ≡ b → ((one : A) → P one → Q one) → IsFound b Q found
found_as None h same f = sym same ∙ h
found_as (Some one) h same f = (sym same ∙ h.0, f one h.1)

-- what tells of the store only of rows that aren't readable, tells of it for none of those that are
pub found_err : {B Q : Type 0} → Q → (r : Result B KeptFault) → IfErr r (λ fault. fault ≡ Storage → ¬ Q) → IfErr (found_of r) (λ fault. ¬ (fault ≡ Storage))
found_err q (Ok one) h = tt
found_err q (Err NotKept) h = tt
found_err q (Err Storage) h = λ told. h refl q
found_err q (Err Memory) h = λ told. absurd cc

-- ---- a call after one that gave an answer

module _ {Stands Readable Wanted : Database → Tables → Type 0} {A B E : Type 0} {IsTold : E → Type 0} {Was : Tables → A → Type 0} {is : Tables → Bool} {Is : Tables → B → Type 0} {old mid : State} {a : A} (it : ReadsWhere Stands Readable IsTold Was old mid (Ok a)) where
  -- one that tries rows which were read
  pub rows_tried : {b : Bool} {Q : Type 0} (P : B → Type 0) (r : Result B KeptFault) → IsTried b P r → IfErr r (λ fault. fault ≡ Storage → ¬ Q)
      → ((t : Tables) → Stands old.now t → Was t a → (b ≡ is t) × ((one : B) → P one → Is t one))
      → ((t : Tables) → Wanted old.now t → Was t a → Q) → TriesWhere Stands Wanted is Is old mid r
  rows_tried P r tried fault f g = where_and it (λ t file was. let so = f t file was in if_then (found_of r) (λ found is. found_as found is so.0 so.1) tried)
      (λ t file wanted was. found_err (g t wanted was) r fault)

  -- one that reads others
  pub rows_then : {was : Tables → Bool} {P : Tables → B → Type 0} {Needed : Database → Tables → Type 0} {new : State} (r : Result B KeptFault) → TriesWhere Stands Needed was P mid new r
      → ((t : Tables) → Stands old.now t → Was t a → (was t ≡ is t) × ((one : B) → P t one → Is t one))
      → ((t : Tables) → Stands old.now t → Wanted old.now t → Was t a → Needed old.now t) → TriesWhere Stands Wanted is Is old new r
  rows_then r next f g = where_then it next (λ t file was found is. let so = f t file was in found_as found is so.0 so.1) g

-- ---- a call that failed

-- what is told of the store is told as that
pub told_back : (fault : Fault BadStore) → kept_fault fault ≡ Storage → fault ≡ storage
told_back (read.Refused refusal) h = refl
told_back read.Memory h = absurd cc

store_told : {A : Type 0} (fault : Fault BadStore) (end : Result A KeptFault) → IsErrAnd end (λ e. e ≡ kept_fault fault) → IsErrAnd (found_of end) (λ e. e ≡ kept_fault fault)
store_told fault (Ok a) failed = absurd failed
store_told {A} fault (Err e) failed = subst (λ (it : KeptFault). IsErrAnd (found_of {T = A} (Err it)) (λ e. e ≡ kept_fault fault)) (sym failed) (go fault)
  where
    go : (that : Fault BadStore) → IsErrAnd (found_of {T = A} (Err (kept_fault that))) (λ e. e ≡ kept_fault that)
    go (read.Refused refusal) = refl
    go read.Memory = refl

-- the store failed, or memory ran out
pub store_ends : {Stands Readable Wanted : Database → Tables → Type 0} {A B : Type 0} {Was : Tables → B → Type 0} {Then : Tables → Option A → Type 0} {old new : State} {fault : Fault BadStore}
    → ReadsWhere Stands Readable (λ told. told ≡ storage) Was old new (Err fault) → (end : Result A KeptFault) → IsErrAnd end (λ e. e ≡ kept_fault fault)
    → ((t : Tables) → Wanted old.now t → Readable old.now t) → ReadsWhere Stands Wanted (λ told. told ≡ Storage) Then old new (found_of end)
store_ends {fault = fault} it end failed g =
    where_end it (found_of end) (λ e. e ≡ kept_fault fault) (store_told fault end failed) (λ e is told. told_back fault (sym is ∙ told)) g

-- of rows that were read
pub tried_ends : {A B : Type 0} {a b : Bool} (P : A → Type 0) (Q : B → Type 0) (fault : KeptFault) → IsTried a P (Err fault) → (a ≡ false → b ≡ false) → (end : Result B KeptFault) → IsErrAnd end (λ e. e ≡ fault) → IsTried b Q end
tried_ends P Q fault it f (Ok one) failed = absurd failed
tried_ends {A} {B} {a} {b} P Q fault it f (Err e) failed = subst (λ (that : KeptFault). IsTried b Q (Err that)) (sym failed) (go fault it)
  where
    go : (that : KeptFault) → IsTried a P (Err that) → IsTried b Q (Err that)
    go NotKept it = f it
    go Storage it = tt
    go Memory it = tt

module _ {Stands Needed Wanted : Database → Tables → Type 0} {A B : Type 0} {was is : Tables → Bool} {Was : Tables → A → Type 0} {Is : Tables → B → Type 0} where
  -- the only one
  pub found_ends : {old new : State} (fault : KeptFault) → TriesWhere Stands Needed was Was old new (Err fault) → ((t : Tables) → Stands old.now t → was t ≡ false → is t ≡ false)
      → (end : Result B KeptFault) → IsErrAnd end (λ e. e ≡ fault) → ((t : Tables) → Wanted old.now t → Needed old.now t) → TriesWhere Stands Wanted is Is old new end
  found_ends fault it f (Ok b) failed g = absurd failed
  found_ends {old} {new} fault it f (Err e) failed g = subst (λ (that : KeptFault). TriesWhere Stands Wanted is Is old new (Err that)) (sym failed) (go fault it)
    where
      go : (that : KeptFault) → TriesWhere Stands Needed was Was old new (Err that) → TriesWhere Stands Wanted is Is old new (Err that)
      go NotKept it = where_and it f (λ t file wanted no. tt)
      go Storage it = where_end it (Err Storage) (λ e. e ≡ Storage) refl (λ e same told. refl) g
      go Memory it = where_end it (Err Memory) (λ e. e ≡ Memory) refl (λ e same told. sym same ∙ told) g

  -- one after another, which gave an answer
  pub then_ends : {C E : Type 0} {IsTold : E → Type 0} {Readable : Database → Tables → Type 0} {Before : Tables → C → Type 0} {old mid new : State} {c : C}
      → ReadsWhere Stands Readable IsTold Before old mid (Ok c) → (fault : KeptFault)
      → TriesWhere Stands Needed was Was mid new (Err fault) → ((t : Tables) → Stands old.now t → Before t c → was t ≡ false → is t ≡ false)
      → ((t : Tables) → Stands old.now t → Wanted old.now t → Before t c → Needed old.now t)
      → (end : Result B KeptFault) → IsErrAnd end (λ e. e ≡ fault) → TriesWhere Stands Wanted is Is old new end
  then_ends first fault it f g (Ok b) failed = absurd failed
  then_ends {old = old} {mid = mid} {new = new} first fault it f g (Err e) failed = subst (λ (that : KeptFault). TriesWhere Stands Wanted is Is old new (Err that)) (sym failed) (go fault it)
    where
      go : (that : KeptFault) → TriesWhere Stands Needed was Was mid new (Err that) → TriesWhere Stands Wanted is Is old new (Err that)
      go NotKept it = where_both first it f (λ t file wanted one other. tt)
      go Storage it = where_fail first it (λ told. told) g
      go Memory it = where_fail first it (λ told. told) g

-- ---- the store, after a call that gave an answer

module _ {Stands Readable Wanted : Database → Tables → Type 0} {A B E : Type 0} {IsTold : E → Type 0} {Was : Tables → A → Type 0} {Then : Tables → Option B → Type 0} {old mid : State} {a : A} (first : ReadsWhere Stands Readable IsTold Was old mid (Ok a)) where
  -- another call, which the store refused, or for which memory ran out
  pub store_after : {C : Type 0} {Needed : Database → Tables → Type 0} {Is : Tables → C → Type 0} {new : State} {fault : Fault BadStore} → ReadsWhere Stands Needed (λ told. told ≡ storage) Is mid new (Err fault)
      → (end : Result B KeptFault) → IsErrAnd end (λ e. e ≡ kept_fault fault)
      → ((t : Tables) → Stands old.now t → Wanted old.now t → Was t a → Needed old.now t) → ReadsWhere Stands Wanted (λ told. told ≡ Storage) Then old new (found_of end)
  store_after next (Ok b) failed g = absurd failed
  store_after {C} {Needed} {Is} {new} {fault} next (Err e) failed g = subst (λ (that : KeptFault). ReadsWhere Stands Wanted (λ told. told ≡ Storage) Then old new (found_of {T = B} (Err that))) (sym failed) (go fault next)
    where
      go : (that : Fault BadStore) → ReadsWhere Stands Needed (λ told. told ≡ storage) Is mid new (Err that) → ReadsWhere Stands Wanted (λ told. told ≡ Storage) Then old new (found_of {T = B} (Err (kept_fault that)))
      go (read.Refused refusal) it = where_fail first it (λ told. refl) g
      go read.Memory it = where_fail first it (λ told. absurd cc) g

  -- what is made of the answer, which isn't readable, or for which memory ran out
  pub store_made : {fault : Fault BadStore} → ((t : Tables) → Stands old.now t → Wanted old.now t → Was t a → ¬ (fault ≡ storage)) → (end : Result B KeptFault) → IsErrAnd end (λ e. e ≡ kept_fault fault)
      → ReadsWhere Stands Wanted (λ told. told ≡ Storage) Then old mid (found_of end)
  store_made u (Ok b) failed = absurd failed
  store_made {fault} u (Err e) failed = subst (λ (that : KeptFault). ReadsWhere Stands Wanted (λ told. told ≡ Storage) Then old mid (found_of {T = B} (Err that))) (sym failed) (go fault u)
    where
      go : (that : Fault BadStore) → ((t : Tables) → Stands old.now t → Wanted old.now t → Was t a → ¬ (that ≡ storage)) → ReadsWhere Stands Wanted (λ told. told ≡ Storage) Then old mid (found_of {T = B} (Err (kept_fault that)))
      go (read.Refused refusal) none = where_and first (λ t file was. tt) (λ t file wanted was told. none t file wanted was refl)
      go read.Memory none = where_and first (λ t file was. tt) (λ t file wanted was told. absurd cc)
