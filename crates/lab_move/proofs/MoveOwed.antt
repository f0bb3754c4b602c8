-- A move refuses what is owed, and what is owed it refuses, unless the store failed.
use Rattle.std.proofs.Common.{◌≡◌, ◌≢◌, ◌⊎◌, inl, inr, ℕ, ℤ, List, Bool, true, false, Option, Ok, Err, Result, IfOk, IfErr, IsTrue, refl, sym, ap, subst}
use Rattle.sqlite.specs.Effect.{Database}
use Rattle.sqlite.specs.State.{State, HasCleanDisk}
use Rattle.lab_store_files.specs.declared.faults.FileFault.{FileFault}
use Rattle.lab_store_files.specs.declared.faults.FileFault.TheVariants.{NotADeskFile, SchemaOld, SchemaNew, Storage, NotEmpty, Memory}
use Rattle.lab_store_files.specs.Faults.{FailedInStore}
use Rattle.lab_store_files.specs.Owed.{Names as HasNumber}
use Rattle.lab_store_files.specs.Schemas.{is_taken}
use Rattle.lab_store_tables.specs.Rows.{Tables}
use Rattle.lab_move_tables.specs.declared.older.Older.{Older}
use Rattle.lab_move_tables.proofs.OldReaders.{stands_since}
use Rattle.lab_move_read.specs.Laboratories.{codes_of}
use Rattle.lab_move.specs.declared.faults.MoveFault.{MoveFault}
use Rattle.lab_move.specs.declared.faults.MoveFault.TheVariants.{File, NotSound}
use Rattle.lab_move.specs.Private.Faults.{IsOfStore}
use Rattle.lab_move.specs.Private.Moving.{AreCounted, BlamesFirstOfAll}
use Rattle.lab_move.specs.OldFiles.{StandsFor}
use Rattle.lab_move.specs.Owed.{AnswersOldOwed, FailedInMove, IsMoveOwed, IsOfOlder, IsStoreFault, MayOpenOld, MovesAsOwed, OpensOld, StopsAt, StopsInAll, StopsInSome, has_tables}
use Rattle.lab_move.proofs.OldOwed.{one_owed}
use Rattle.lab_move.proofs.OneLab.{errs_as}
use Rattle.lab_move.proofs.FirstUnsound.{first_is_least, none_unsound, one_least}

-- ---- answers that aren't one

abbrev Answer : Type 0
Answer = Result Older FileFault

ok_failed : (older : Older) → ¬ FailedInStore {A = Older} (Ok older)
ok_failed older (inl e) = cc
ok_failed older (inr e) = cc

ok_err : (older : Older) (fault : FileFault) → ◌≢◌ {A = Answer} (Ok older) (Err fault)
ok_err older fault e = cc

err_ok : (fault : FileFault) (older : Older) → ◌≢◌ {A = Answer} (Err fault) (Ok older)
err_ok fault older e = cc

-- ---- the old file is none of an older schema, or its store failed

module _ (old fresh : Database) where
  abbrev MayOwe : MoveFault → Type 0
  MayOwe = IsMoveOwed MayOpenOld StopsInAll old fresh

  abbrev Owes : MoveFault → Type 0
  Owes = IsMoveOwed OpensOld StopsInSome old fresh

  -- what was told of it
  may_owe : (fault : FileFault) → MayOpenOld old (Err fault) → MayOwe (File fault) ⊎ IsStoreFault (File fault)
  may_owe NotADeskFile it = inl it
  may_owe (SchemaOld n) it = inl it
  may_owe (SchemaNew n) it = inl it
  may_owe Storage it = inr (inl refl)
  may_owe NotEmpty it = absurd it.2
  may_owe Memory it = inr (inr refl)

  store_failed : (fault : FileFault) → FailedInStore {A = Older} (Err fault) → IsStoreFault (File fault)
  store_failed fault (inl e) = inl (let same : fault ≡ Storage = cc in ap File same)
  store_failed fault (inr e) = inr (let same : fault ≡ Memory = cc in ap File same)

  move_failed : {A : Type 0} (fault : FileFault) → FailedInStore {A = Older} (Err fault) → FailedInMove {A = A} (Err (File fault))
  move_failed fault (inl e) = inl (let same : fault ≡ Storage = cc in ap (λ it. Err (File it)) same)
  move_failed fault (inr e) = inr (let same : fault ≡ Memory = cc in ap (λ it. Err (File it)) same)

  module _ (fault : FileFault) (answers : AnswersOldOwed old (Err fault)) where
    refused_told : MayOwe (File fault) ⊎ IsStoreFault (File fault)
    refused_told = elim answers.told [ inl it ↦ may_owe fault it | inr failed ↦ inr (store_failed fault failed) ]

    -- where it owed this other answer
    by_answer : {A : Type 0} (due : FileFault) → OpensOld old (Err due) → ◌≡◌ {A = Result A MoveFault} (Err (File fault)) (Err (File due)) ⊎ FailedInMove {A = A} (Err (File fault))
    by_answer due opens = elim (answers.owed (Err due) opens) [
      | inl e ↦ inl (let same : fault ≡ due = cc in ap (λ it. Err (File it)) same)
      | inr failed ↦ inr (move_failed fault failed)
    ]

    -- where it owed that it is one of an older schema
    by_older : {A : Type 0} (due : MoveFault) → IsOfOlder OpensOld StopsInSome old fresh → ◌≡◌ {A = Result A MoveFault} (Err (File fault)) (Err due) ⊎ FailedInMove {A = A} (Err (File fault))
    by_older due it = elim (answers.owed (Ok it.0) it.1) [ inl e ↦ absurd (err_ok fault it.0 e) | inr failed ↦ inr (move_failed fault failed) ]

    refused_owed : {A : Type 0} (due : MoveFault) → Owes due → ◌≡◌ {A = Result A MoveFault} (Err (File fault)) (Err due) ⊎ FailedInMove {A = A} (Err (File fault))
    refused_owed (File NotADeskFile) it = by_answer NotADeskFile it
    refused_owed (File (SchemaOld n)) it = by_answer (SchemaOld n) it
    refused_owed (File (SchemaNew n)) it = by_answer (SchemaNew n) it
    refused_owed (File Storage) it = absurd it
    refused_owed (File NotEmpty) it = by_older (File NotEmpty) it.0
    refused_owed (File Memory) it = absurd it
    refused_owed (NotSound lab) it = by_older (NotSound lab) it.0

  -- ---- the old file is one of an older schema

  module _ (older : Older) (answers : AnswersOldOwed old (Ok older)) where
    of_older : IsOfOlder MayOpenOld StopsInAll old fresh
    of_older = elim answers.told [ inl it ↦ (older, it) | inr failed ↦ absurd (ok_failed older failed) ]

    not_refused : (due : FileFault) → ¬ OpensOld old (Err due)
    not_refused due opens = elim (answers.owed (Err due) opens) [ inl e ↦ absurd (ok_err older due e) | inr failed ↦ absurd (ok_failed older failed) ]

    -- the new one is taken
    taken_owed : {A : Type 0} → IsTrue (is_taken fresh.schema) → (due : MoveFault) → Owes due
        → ◌≡◌ {A = Result A MoveFault} (Err (File NotEmpty)) (Err due) ⊎ FailedInMove {A = A} (Err (File NotEmpty))
    taken_owed taken (File NotADeskFile) it = absurd (not_refused NotADeskFile it)
    taken_owed taken (File (SchemaOld n)) it = absurd (not_refused (SchemaOld n) it)
    taken_owed taken (File (SchemaNew n)) it = absurd (not_refused (SchemaNew n) it)
    taken_owed taken (File Storage) it = absurd it
    taken_owed taken (File NotEmpty) it = inl refl
    taken_owed taken (File Memory) it = absurd it
    taken_owed taken (NotSound lab) it = absurd (let free = it.1 in cc)

    -- it isn't
    module _ {A : Type 0} (free : is_taken fresh.schema ≡ false) (r : Result A MoveFault)
        (stops : (lab : List ℕ) → StopsInSome old lab → (r ≡ Err (NotSound lab)) ⊎ FailedInMove r) where
      pub free_owed : (due : MoveFault) → Owes due → (r ≡ Err due) ⊎ FailedInMove r
      free_owed (File NotADeskFile) it = absurd (not_refused NotADeskFile it)
      free_owed (File (SchemaOld n)) it = absurd (not_refused (SchemaOld n) it)
      free_owed (File (SchemaNew n)) it = absurd (not_refused (SchemaNew n) it)
      free_owed (File Storage) it = absurd it
      free_owed (File NotEmpty) it = absurd (let taken = it.1 in cc)
      free_owed (File Memory) it = absurd it
      free_owed (NotSound lab) it = stops lab it.2

-- ---- a move that was refused by the old file, or by the new one

pub refused_moves : {A : Type 0} (before after fresh : State) (fault : FileFault) → (HasCleanDisk after → AnswersOldOwed before.now (Err fault)) → MovesAsOwed before after fresh {A = A} (Err (File fault))
refused_moves before after fresh fault answers = record {
  told = λ clean. refused_told before.now fresh.now fault (answers clean);
  owed = λ clean. refused_owed before.now fresh.now fault (answers clean);
}

taken_moves : {A : Type 0} (before after fresh : State) (older : Older) → (HasCleanDisk after → AnswersOldOwed before.now (Ok older)) → IsTrue (is_taken fresh.now.schema)
    → MovesAsOwed before after fresh {A = A} (Err (File NotEmpty))
taken_moves before after fresh older answers taken = record {
  told = λ clean. inl (of_older before.now fresh.now older (answers clean), taken);
  owed = λ clean. taken_owed before.now fresh.now older (answers clean) taken;
}

failed_moves : {A : Type 0} (before after fresh : State) (fault : FileFault) → IsOfStore fault → MovesAsOwed before after fresh {A = A} (Err (File fault))
failed_moves before after fresh fault (inl e) = record { told = λ clean. inr (inl (ap File e)); owed = λ clean due it. inr (inl (ap (λ one. Err (File one)) e)) }
failed_moves before after fresh fault (inr e) = record { told = λ clean. inr (inr (ap File e)); owed = λ clean due it. inr (inr (ap (λ one. Err (File one)) e)) }

module _ (before after fresh : State) (older : Older) (answers : HasCleanDisk after → AnswersOldOwed before.now (Ok older)) where
  pub made_moves : {A Same : Type 0} (fault : FileFault) → (fault ≡ NotEmpty) ⊎ IsOfStore fault
      → (◌≡◌ {A = Result A FileFault} (Err fault) (Err NotEmpty) → IsTrue (is_taken fresh.now.schema) × Same) → MovesAsOwed before after fresh {A = ℕ} (Err (File fault))
  made_moves fault (inl e) empty =
      subst (λ it. MovesAsOwed before after fresh {A = ℕ} (Err (File it))) (sym e) (taken_moves before after fresh older answers (empty (ap Err e)).0)
  made_moves fault (inr e) empty = failed_moves before after fresh fault e

-- the tables were made, so no table of such a name was there
pub made_free : {A : Type 0} (taken : Bool) (made : A) → (IsTrue taken → ◌≡◌ {A = Result A FileFault} (Ok made) (Err NotEmpty)) → taken ≡ false
made_free true made wrong = absurd (let never = wrong refl in cc)
made_free false made wrong = refl

-- ---- one that was begun

of_store_move : (fault : FileFault) → IsOfStore fault → IsStoreFault (File fault)
of_store_move fault (inl e) = inl (ap File e)
of_store_move fault (inr e) = inr (ap File e)

-- what was blamed since a later moment of the old file is to blame since an earlier one, where nothing changed between
pub blamed_since : (Stands : Database → Tables → Type 0) {A : Type 0} (before mid after : State) (r : Result A MoveFault) → (HasCleanDisk after → mid.now ≡ before.now)
    → (HasCleanDisk after → (t : Tables) → StandsFor before.now t → Stands before.now t) → IfErr r (BlamesFirstOfAll Stands mid after) → IfErr r (BlamesFirstOfAll StandsFor before after)
blamed_since Stands before mid after r same by it = errs_as r (λ one first t so. first t (stands_since Stands (same so.1) t (by so.1 t so.0), so.1)) it

pub filled_moves : (before after fresh : State) (older : Older) (r : Result ℕ MoveFault) → (HasCleanDisk after → AnswersOldOwed before.now (Ok older) × (is_taken fresh.now.schema ≡ false))
    → ((t : Tables) → StandsFor before.now t → HasCleanDisk after → IfOk r (AreCounted (codes_of t) t)) → IfErr r (BlamesFirstOfAll StandsFor before after)
    → MovesAsOwed before after fresh r
filled_moves before after fresh older r begun counted blamed = record {
  told = λ clean. go clean r blamed;
  owed = λ clean. let it = begun clean in free_owed before.now fresh.now older it.0 it.1 r (stops clean r counted blamed);
}
  where
    go : HasCleanDisk after → (end : Result ℕ MoveFault) → IfErr end (BlamesFirstOfAll StandsFor before after)
        → IfErr end (λ fault. IsMoveOwed MayOpenOld StopsInAll before.now fresh.now fault ⊎ IsStoreFault fault)
    go clean (Ok count) h = tt
    go clean (Err (File fault)) h = inr (of_store_move fault h)
    go clean (Err (NotSound lab)) h = let it = begun clean in inl (of_older before.now fresh.now older it.0, it.1, λ t stands. first_is_least t lab (h t (stands, clean)))

    stops : HasCleanDisk after → (end : Result ℕ MoveFault) → ((t : Tables) → StandsFor before.now t → HasCleanDisk after → IfOk end (AreCounted (codes_of t) t))
        → IfErr end (BlamesFirstOfAll StandsFor before after) → (lab : List ℕ) → StopsInSome before.now lab → (end ≡ Err (NotSound lab)) ⊎ FailedInMove end
    stops clean (Ok count) counts h lab it = absurd (none_unsound it.0 (counts it.0 it.1 clean).1 lab it.2.unsound)
    stops clean (Err (File fault)) counts (inl e) lab it = inr (inl (ap (λ one. Err (File one)) e))
    stops clean (Err (File fault)) counts (inr e) lab it = inr (inr (ap (λ one. Err (File one)) e))
    stops clean (Err (NotSound one)) counts h lab it = inl (ap (λ it. Err (NotSound it)) (one_least it.0 one lab (first_is_least it.0 one (h it.0 (it.1, clean))) it.2))

-- ---- one refusal is owed, where the old file shows a number, of the tables for which it stands

module _ (old fresh : Database) (number : Option ℤ) (names : HasNumber old number) (t : Tables) where
  abbrev OwesOf : MoveFault → Type 0
  OwesOf = IsMoveOwed OpensOld (λ db code. StopsAt t code) old fresh

  one_answer : (one other : Answer) → OpensOld old one → OpensOld old other → one ≡ other
  one_answer one other first second = one_owed (has_tables old) number one other (first number names) (second number names)

  same_fault : (one other : FileFault) → OpensOld old (Err one) → OpensOld old (Err other) → File one ≡ File other
  same_fault one other first second =
      let both : ◌≡◌ {A = Answer} (Err one) (Err other) = one_answer (Err one) (Err other) first second in let same : one ≡ other = cc in ap File same

  none_older : (fault : FileFault) → OpensOld old (Err fault) → ¬ IsOfOlder OpensOld (λ db code. StopsAt t code) old fresh
  none_older fault opens it = absurd (ok_err it.0 fault (one_answer (Ok it.0) (Err fault) it.1 opens))

  beside_old : (fault : FileFault) → OpensOld old (Err fault) → (other : MoveFault) → OwesOf other → File fault ≡ other
  beside_old fault opens (File NotADeskFile) it = same_fault fault NotADeskFile opens it
  beside_old fault opens (File (SchemaOld n)) it = same_fault fault (SchemaOld n) opens it
  beside_old fault opens (File (SchemaNew n)) it = same_fault fault (SchemaNew n) opens it
  beside_old fault opens (File Storage) it = absurd it
  beside_old fault opens (File NotEmpty) it = absurd (none_older fault opens it.0)
  beside_old fault opens (File Memory) it = absurd it
  beside_old fault opens (NotSound lab) it = absurd (none_older fault opens it.0)

  beside_new : OwesOf (File NotEmpty) → (other : MoveFault) → OwesOf other → File NotEmpty ≡ other
  beside_new first (File NotADeskFile) it = absurd (none_older NotADeskFile it first.0)
  beside_new first (File (SchemaOld n)) it = absurd (none_older (SchemaOld n) it first.0)
  beside_new first (File (SchemaNew n)) it = absurd (none_older (SchemaNew n) it first.0)
  beside_new first (File Storage) it = absurd it
  beside_new first (File NotEmpty) it = refl
  beside_new first (File Memory) it = absurd it
  beside_new first (NotSound lab) it = absurd (let taken = first.1 in let free = it.1 in cc)

  beside_lab : (lab : List ℕ) → OwesOf (NotSound lab) → (other : MoveFault) → OwesOf other → NotSound lab ≡ other
  beside_lab lab first (File NotADeskFile) it = absurd (none_older NotADeskFile it first.0)
  beside_lab lab first (File (SchemaOld n)) it = absurd (none_older (SchemaOld n) it first.0)
  beside_lab lab first (File (SchemaNew n)) it = absurd (none_older (SchemaNew n) it first.0)
  beside_lab lab first (File Storage) it = absurd it
  beside_lab lab first (File NotEmpty) it = absurd (let free = first.1 in let taken = it.1 in cc)
  beside_lab lab first (File Memory) it = absurd it
  beside_lab lab first (NotSound other) it = ap NotSound (one_least t lab other first.2 it.2)

  pub one_refusal : (one other : MoveFault) → OwesOf one → OwesOf other → one ≡ other
  one_refusal (File NotADeskFile) other first second = beside_old NotADeskFile first other second
  one_refusal (File (SchemaOld n)) other first second = beside_old (SchemaOld n) first other second
  one_refusal (File (SchemaNew n)) other first second = beside_old (SchemaNew n) first other second
  one_refusal (File Storage) other first second = absurd first
  one_refusal (File NotEmpty) other first second = beside_new first other second
  one_refusal (File Memory) other first second = absurd first
  one_refusal (NotSound lab) other first second = beside_lab lab first other second
