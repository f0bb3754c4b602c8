-- A transaction that ended for a cause: for the last statement of its transaction, or for a cause of its connection.
use Rattle.std.proofs.Common.{◌≡◌, ◌⊎◌, inl, inr, ℕ, ◌≤◌, Bool, true, false, Ok, Err, Result, IfErr, IsTrue, IsFalse, refl, sym, subst, ◌∙◌, arith}
use Rattle.std.specs.Prelude.{IsErrAnd}
use Rattle.std.proofs.lemmas.Bool.{cases_Bool}
use Rattle.sqlite_trees.specs.declared.store.Store.{Ghosts}
use Rattle.sqlite_trees.specs.declared.error.StoreError.{StoreError}
use Rattle.sqlite_trees.specs.declared.error.StoreError.TheVariants.{OutOfMemory, Io, Corrupt, Full, Broken, Unstorable}
use Rattle.sqlite_trees.specs.Tree.{Trees}
use Rattle.sqlite.specs.declared.error.Error.{Error}
use Rattle.sqlite.specs.Held.{Held, state}
use Rattle.sqlite.specs.State.{State, HasCause, HasCleanDisk, IsRolledBack, Survives, store_error}
use Rattle.sqlite.specs.Steps.{FailsToCommit}
use Rattle.sqlite.proofs.Callers.{survives_begin}
use Rattle.lab_records_keeper.specs.Worlds.{HasFaulted}
use Rattle.lab_store_tables.specs.Held.{IsTyped}
use Rattle.lab_store_read.specs.Causes.{IsCaused}
use Rattle.lab_store_read.specs.Cells.{storage}
use Rattle.lab_store_read.specs.Faults.{is_out_of_memory, store_fault}
use Rattle.lab_store_write.specs.Causes.{Tries, Anything, EndsTrying, FailsTrying}
use Rattle.lab_store_write.proofs.AnyEndings.{FailsBy}
use Rattle.lab_store_write.specs.Transactions.{EndsForCauseTrying, FailsWithin, HasOurTables, StaysAsIs}
use Rattle.lab_store_write.specs.Private.Transactions.{TransactionEndsForCause, TransactionEndsForCauseTrying}

-- ---- what is told of an error

-- the store isn't told of for want of memory
pub isnt_memory : (e : Error) → store_fault e ≡ storage → IsFalse (is_out_of_memory e)
isnt_memory e told = elim (cases_Bool (is_out_of_memory e)) [
  | inl memory ↦ absurd (let wrong = rw memory at told in cc)
  | inr other ↦ other
]

-- ---- calls inside a transaction, by another view of its states

module _ {T U : Type 0} (f : T → U) (state : U → State) where
  pub fails_as_trying : (tries : Tries) (Beside : Type 0) (a b : T) {B : Type 0} (r : Result B Error) → IfErr r (λ e. Beside ⊎ FailsTrying tries (λ t. state (f t)) a b e)
      → IfErr r (λ e. Beside ⊎ FailsTrying tries state (f a) (f b) e)
  fails_as_trying tries Beside a b (Ok x) why = tt
  fails_as_trying tries Beside a b (Err e) (inl beside) = inl beside
  fails_as_trying tries Beside a b (Err e) (inr (inl memory)) = inr (inl memory)
  fails_as_trying tries Beside a b (Err e) (inr (inr it)) = inr (inr (record { last = f it.last; led = it.led; ran = it.ran; tried = it.tried; own = it.own; why = it.why }))

  pub fails_as : (Beside : Type 0) (a b : T) {B : Type 0} (r : Result B Error) → IfErr r (λ e. Beside ⊎ FailsBy (λ t. state (f t)) a b e)
      → IfErr r (λ e. Beside ⊎ FailsBy state (f a) (f b) e)
  fails_as Beside a b r why = fails_as_trying Anything Beside a b r why

-- ---- a fault that was seen between

pub since : (first mid last : ℕ) → first ≤ mid → HasFaulted mid last → HasFaulted first last
since first mid last later faulted = omega (arith, later, faulted)

until : (first mid last : ℕ) → mid ≤ last → HasFaulted first mid → HasFaulted first last
until first mid last later faulted = omega (arith, later, faulted)

-- ---- a connection that stays as it is

pub unchanged : (s : State) → IsTrue s.is_open → StaysAsIs s s
unchanged s opened = record {
  same = (record { was_open = opened; is_open = opened; now_is = refl; committed_is = refl; mode = refl }, record { changes = refl; last_rowid = refl }, refl);
  counts = omega arith;
  limit = refl;
}

pub as_is_then : (a b c : State) → StaysAsIs a b → StaysAsIs b c → StaysAsIs a c
as_is_then a b c p q = record {
  same = (
    record {
      was_open = p.same.0.was_open;
      is_open = q.same.0.is_open;
      now_is = q.same.0.now_is ∙ p.same.0.now_is;
      committed_is = q.same.0.committed_is ∙ p.same.0.committed_is;
      mode = q.same.0.mode ∙ p.same.0.mode;
    },
    record { changes = q.same.1.changes ∙ p.same.1.changes; last_rowid = q.same.1.last_rowid ∙ p.same.1.last_rowid },
    q.same.2 ∙ p.same.2,
  );
  counts = omega (arith, p.counts, q.counts);
  limit = q.limit ∙ p.limit;
}

-- ---- a transaction, by the states between: as it began, before its end, and after it

module _ {S : Type 0} (g : Ghosts S) (old begun last end : Held S) (is : begun ≡ record old { in_transaction = true })
    (one : Survives (state g begun) (state g last) (λ _. ⊥)) where
  so_far : Survives (state g old) (state g last) (λ _. ⊥)
  so_far = survives_begin g old (state g last) (λ _. ⊥) (subst (λ h. Survives (state g h) (state g last) (λ _. ⊥)) is one)

  -- the call inside it failed in this way
  module _ (Ends : Held S → Held S → Error → Type 0) {Beside : Type 0} {e : Error}
      (why : IsTrue (state g old).is_open → IsTrue (state g begun).in_transaction → HasCleanDisk (state g last) → Beside ⊎ (IsTrue (is_out_of_memory e) ⊎ Ends begun last e))
      (three : Survives (state g last) (state g end) (λ _. ⊥)) (undone : HasCleanDisk (state g end) → IsRolledBack (state g last) (state g end)) where
    within_for : HasCleanDisk (state g end) → IsFalse (is_out_of_memory e) → (b : Bool) → (state g old).is_open ≡ b
        → IsCaused (state g old) (state g end) ⊎ (Beside ⊎ FailsWithin g Ends old end)
    within_for clean told false shut = inl (inr (inl shut))
    within_for clean told true opened =
        let clean_last : HasCleanDisk (state g last) = omega (arith, three.clean) in
        let inside : IsTrue (state g begun).in_transaction = subst (λ h. IsTrue (state g h).in_transaction) (sym is) refl in
        elim (why opened inside clean_last) [
          | inl beside ↦ inr (inl beside)
          | inr fails ↦ elim fails [
            | inl memory ↦ absurd (let m = memory in let t = told in cc)
            | inr it ↦ inr (inr (record {
              from = old;
              as_is = unchanged (state g old) opened;
              last = last;
              error = e;
              told = told;
              ends = subst (λ (h : Held S). Ends h last e) is it;
              ended = three;
              undone = undone clean;
            }))
          ]
        ]

    pub given_up_within : HasCleanDisk (state g end) → IsFalse (is_out_of_memory e) → IsCaused (state g old) (state g end) ⊎ (Beside ⊎ FailsWithin g Ends old end)
    given_up_within clean told = within_for clean told (state g old).is_open refl

    pub limit_kept : (state g end).step_limit ≡ (state g old).step_limit
    limit_kept = three.limit ∙ so_far.limit

  -- over tables of ours, on a connection that was open
  module _ {tries : Tries} {Beside : Type 0} {e : Error}
      (why : IsTrue (state g old).is_open → IsTrue (state g begun).in_transaction → HasCleanDisk (state g last) → IsTyped (state g begun).now → Beside ⊎ FailsTrying tries (state g) begun last e)
      (three : Survives (state g last) (state g end) (λ _. ⊥)) (undone : HasCleanDisk (state g end) → IsRolledBack (state g last) (state g end)) where
    typed_then : HasOurTables (state g old) → IsTrue (state g old).is_open → HasCleanDisk (state g last) → IsTyped (state g begun).now
    typed_then ours opened clean =
        let clean_old : HasCleanDisk (state g old) = omega (arith, so_far.clean) in
        subst (λ h. IsTyped (state g h).now) (sym is) (ours clean_old opened)

    pub given_up_trying : {B : Type 0} (r : Result B Error) → IsErrAnd r (λ d. d ≡ e) → TransactionEndsForCauseTrying tries g Beside old end r
    given_up_trying (Ok x) failed = absurd failed
    given_up_trying (Err d) failed = record {
      limit = three.limit ∙ so_far.limit;
      cause = λ ours clean told.
          given_up_within (EndsTrying tries (state g)) (λ opened inside clean. why opened inside clean (typed_then ours opened clean)) three undone clean
          (subst (λ (d : Error). IsFalse (is_out_of_memory d)) failed told);
    }

  -- it isn't said what was tried
  module _ {Beside : Type 0} {e : Error} (why : IsTrue (state g begun).in_transaction → HasCleanDisk (state g last) → IsTyped (state g begun).now → Beside ⊎ FailsBy (state g) begun last e)
      (three : Survives (state g last) (state g end) (λ _. ⊥)) (undone : HasCleanDisk (state g end) → IsRolledBack (state g last) (state g end)) where
    pub given_up_so : {B : Type 0} (r : Result B Error) → IsErrAnd r (λ d. d ≡ e) → TransactionEndsForCause g Beside old end r
    given_up_so r failed = given_up_trying {tries = Anything} (λ _. why) three undone r failed

  -- its commit failed
  module _ (inside : HasCleanDisk (state g last) → IsTrue (state g last).in_transaction) {Commits : Trees → Type 0} (three : Survives (state g last) (state g end) Commits) where
    shut_since : HasCleanDisk (state g last) → (state g last).is_open ≡ false → (b : Bool) → (state g old).is_open ≡ b → IsCaused (state g old) (state g end)
    shut_since clean shut false was = inr (inl was)
    shut_since clean shut true was = elim (so_far.closes clean was) [
      | inl opened ↦ absurd (let o = opened in let s = shut in cc)
      | inr fault ↦ inl (until (state g old).faults (state g last).faults (state g end).faults three.counts fault)
    ]

    fails_so : (e : Error) → HasCleanDisk (state g last) → IsFalse (is_out_of_memory e) → (cause : StoreError) → e ≡ store_error cause → HasCause (state g last) (state g end) ⊥ cause
        → IsCaused (state g old) (state g end)
    fails_so e clean told OutOfMemory is _ = absurd (let wrong = rw is at told in cc)
    fails_so e clean told Io is fault = inl (since (state g old).faults (state g last).faults (state g end).faults so_far.counts fault)
    fails_so e clean told Corrupt is fault = inl (since (state g old).faults (state g last).faults (state g end).faults so_far.counts fault)
    fails_so e clean told Full is fault = inl (since (state g old).faults (state g last).faults (state g end).faults so_far.counts fault)
    fails_so e clean told Broken is shut = shut_since clean shut (state g old).is_open refl
    fails_so e clean told Unstorable is big = absurd big

    pub commit_fails : (e : Error) → HasCleanDisk (state g end) → IsFalse (is_out_of_memory e) → FailsToCommit (state g last) (state g end) e → IsCaused (state g old) (state g end)
    commit_fails e clean told (inl it) = let clean_last : HasCleanDisk (state g last) = omega (arith, three.clean) in fails_so e clean_last told it.0 it.1 it.2
    commit_fails e clean told (inr it) =
        let clean_last : HasCleanDisk (state g last) = omega (arith, three.clean) in
        absurd (let on = inside clean_last in let off = it.1 in cc)

    pub committed_trying : (tries : Tries) {B : Type 0} (Beside : Type 0) (r : Result B Error) → (HasCleanDisk (state g end) → IfErr r (FailsToCommit (state g last) (state g end)))
        → TransactionEndsForCauseTrying tries g Beside old end r
    committed_trying tries Beside (Ok x) err = record { limit = three.limit ∙ so_far.limit; cause = λ ours clean. tt }
    committed_trying tries Beside (Err e) err = record {
      limit = three.limit ∙ so_far.limit;
      cause = λ ours clean told. inl (commit_fails e clean told (err clean));
    }

    pub committed_so : {B : Type 0} (Beside : Type 0) (r : Result B Error) → (HasCleanDisk (state g end) → IfErr r (FailsToCommit (state g last) (state g end)))
        → TransactionEndsForCause g Beside old end r
    committed_so Beside r err = committed_trying Anything Beside r err

-- ---- what is told of a call, where that is told of another: one fault for another

pub told_so : {tries : Tries} {S A B E F : Type 0} {g : Ghosts S} {IsTold : E → Type 0} {Tells : F → Type 0} {Beside : Type 0} {old new : Held S} (e : E) (f : F) → (Tells f → IsTold e)
    → EndsForCauseTrying tries {T = A} g IsTold Beside old new (Err e) → EndsForCauseTrying tries {T = B} g Tells Beside old new (Err f)
told_so e f met it = record { limit = it.limit; cause = λ ours clean told. it.cause ours clean (met told) }
