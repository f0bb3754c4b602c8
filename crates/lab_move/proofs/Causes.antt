-- Why a move was refused, and that it did nothing to the new file where it was refused early.
use Rattle.std.proofs.Common.{◌≡◌, ◌⊎◌, inl, inr, ℕ, false, Ok, Err, Result, IfOk, IfErr, OnOk, IsTrue, sym, ap, subst, ◌∙◌}
use Rattle.sqlite.specs.Effect.{Database}
use Rattle.sqlite.specs.State.{State, HasCleanDisk}
use Rattle.lab_store_tables.specs.Ready.{tables_of}
use Rattle.lab_store_files.specs.declared.faults.FileFault.{FileFault}
use Rattle.lab_store_files.specs.declared.faults.FileFault.TheVariants.{Storage, NotEmpty, Memory}
use Rattle.lab_store_files.specs.Schemas.{is_taken}
use Rattle.lab_store_tables.specs.Rows.{Tables}
use Rattle.lab_move_tables.proofs.OldReaders.{stands_since}
use Rattle.lab_move_read.specs.Laboratories.{codes_of}
use Rattle.lab_move.specs.declared.faults.MoveFault.{MoveFault}
use Rattle.lab_move.specs.declared.faults.MoveFault.TheVariants.{File, NotSound}
use Rattle.lab_move.specs.Private.Faults.{IsOfStore}
use Rattle.lab_move.specs.Faults.{is_early}
use Rattle.lab_move.specs.OldFiles.{StandsFor}
use Rattle.lab_move.specs.Private.Moving.{AreCounted, BlamesFirstOfAll}
use Rattle.lab_move.specs.Moving.{HasCause, IsMoved, ReadsOldAs, IsWhole}
use Rattle.lab_move.proofs.Codes.{as_many}

-- ---- the new file's tables

abbrev IsOfMaking : FileFault → Type 0
IsOfMaking fault = (fault ≡ NotEmpty) ⊎ ((fault ≡ Storage) ⊎ (fault ≡ Memory))

module _ {A Same : Type 0} (old new fresh : State) (fault : FileFault)
    (empty : ◌≡◌ {A = Result A FileFault} (Err fault) (Err NotEmpty) → IsTrue (is_taken fresh.now.schema) × Same) where
  pub made_cause : IsOfMaking fault → HasCause old new fresh (File fault)
  made_cause (inl e) = subst (λ it. HasCause old new fresh (File it)) (sym e) (empty (ap Err e)).0
  made_cause (inr (inl e)) = subst (λ it. HasCause old new fresh (File it)) (sym e) tt
  made_cause (inr (inr e)) = subst (λ it. HasCause old new fresh (File it)) (sym e) tt

  pub made_untouched : IsOfMaking fault → IsTrue (is_early (File fault)) → Same
  made_untouched (inl e) early = (empty (ap Err e)).1
  made_untouched (inr (inl e)) early = absurd (let late : is_early (File fault) ≡ false = ap (λ it. is_early (File it)) e in cc)
  made_untouched (inr (inr e)) early = absurd (let late : is_early (File fault) ≡ false = ap (λ it. is_early (File it)) e in cc)

-- ---- a laboratory that isn't sound, and the store

store_cause : (old new fresh : State) (fault : FileFault) → IsOfStore fault → HasCause old new fresh (File fault)
store_cause old new fresh fault (inl e) = subst (λ it. HasCause old new fresh (File it)) (sym e) tt
store_cause old new fresh fault (inr e) = subst (λ it. HasCause old new fresh (File it)) (sym e) tt

pub filled_cause : (Stands : Database → Tables → Type 0) {A : Type 0} (before mid after fresh : State) (r : Result A MoveFault) → (HasCleanDisk after → mid.now ≡ before.now)
    → (HasCleanDisk after → (t : Tables) → StandsFor before.now t → Stands before.now t)
    → IfErr r (BlamesFirstOfAll Stands mid after)
    → IfErr r (HasCause before after fresh)
filled_cause Stands before mid after fresh (Ok a) same by h = tt
filled_cause Stands before mid after fresh (Err (File fault)) same by h = store_cause before after fresh fault h
filled_cause Stands before mid after fresh (Err (NotSound lab)) same by h = λ t so. h t (stands_since Stands (same so.1) t (by so.1 t so.0), so.1)

store_late : (Same : Type 0) (fault : FileFault) → IsOfStore fault → IsTrue (is_early (File fault)) → Same
store_late Same fault (inl e) early = absurd (let late : is_early (File fault) ≡ false = ap (λ it. is_early (File it)) e in cc)
store_late Same fault (inr e) early = absurd (let late : is_early (File fault) ≡ false = ap (λ it. is_early (File it)) e in cc)

pub filled_late : (Stands : Database → Tables → Type 0) {A : Type 0} (Same : Type 0) (mid after : State) (r : Result A MoveFault) → IfErr r (BlamesFirstOfAll Stands mid after)
    → IfErr r (λ fault. IsTrue (is_early fault) → Same)
filled_late Stands Same mid after (Ok a) h = tt
filled_late Stands Same mid after (Err (File fault)) h = store_late Same fault h
filled_late Stands Same mid after (Err (NotSound lab)) h = λ early. absurd cc

-- ---- what was moved

pub all_moved : (Stands : Database → Tables → Type 0) {F : Type 0} (before after new : State) (r : Result ℕ F) (t : Tables) → ReadsOldAs Stands before after t → IfOk r (AreCounted (codes_of t) t)
    → OnOk r (IsTrue new.is_open × IsWhole Stands before after new.now) → IfOk r (IsMoved t (tables_of new))
all_moved Stands before after new (Ok count) t read counted whole = record { count = as_many t ∙ counted.0; sound = counted.1; same = whole.1.same t read }
all_moved Stands before after new (Err e) t read counted whole = tt
