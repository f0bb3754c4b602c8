-- Why the tables of a new file weren't made: for a statement that makes them, or for a cause of its connection.
use Rattle.std.proofs.Common.{◌≡◌, ◌⊎◌, inl, inr, true, Ok, Err, Result, IfErr, IsTrue, IsFalse, refl, sym, subst, ◌∙◌, [], arith}
use Rattle.std.specs.Prelude.{IsErrAnd}
use Rattle.std.proofs.lemmas.Bool.{cases_Bool}
use Rattle.sqlite_trees.specs.declared.store.Store.{Ghosts}
use Rattle.sqlite_trees.specs.Tree.{Trees}
use Rattle.sqlite.specs.declared.error.Error.{Error}
use Rattle.sqlite.specs.declared.error.Error.TheVariants.{SqliteFailure, SqlInputError}
use Rattle.sqlite.specs.declared.error.ErrorCode.TheVariants as code
use Rattle.sqlite_resolve.specs.declared.error.CompileError.TheVariants as compile
use Rattle.sqlite.specs.Effect.{Database}
use Rattle.sqlite.specs.Held.{Held, state}
use Rattle.sqlite.specs.State.{State, ExecutesInside, HasCleanDisk, IsRolledBack, Survives}
use Rattle.sqlite.specs.Steps.{FailsToCommit}
use Rattle.lab_store_read.specs.Causes.{IsCaused}
use Rattle.lab_store_read.specs.Faults.{is_out_of_memory}
use Rattle.lab_store_write.specs.Transactions.{FailsWithin}
use Rattle.lab_store_write.proofs.Transactions.{commit_fails, committed_so, given_up_within, limit_kept}
use Rattle.lab_store_files.specs.declared.faults.FileFault.{FileFault}
use Rattle.lab_store_files.specs.declared.faults.FileFault.TheVariants.{Storage}
use Rattle.lab_store_files.specs.Faults as files
use Rattle.lab_store_files.specs.NewFiles.{IsBlank}
use Rattle.lab_move_write.specs.Causes.{EndsMaking, MakingEndsForCause, NamingEndsForCause}
use Rattle.lab_move_write.specs.Private.Causes.{FailsMaking}
use Rattle.lab_move_write.specs.Namings.{naming_text}

-- ---- what is told of an error

both : (e : Error) → files.is_out_of_memory e ≡ is_out_of_memory e
both (SqliteFailure code.OutOfMemory) = refl
both (SqlInputError compile.OutOfMemory) = refl
both _ = refl

-- the store isn't told of for want of memory
pub isnt_memory : (e : Error) (fault : FileFault) → fault ≡ files.store_fault e → fault ≡ Storage → IsFalse (is_out_of_memory e)
isnt_memory e fault is told = elim (cases_Bool (files.is_out_of_memory e)) [
  | inl memory ↦ absurd (let one = is in let other = told in let wrong = rw memory at one in cc)
  | inr other ↦ sym (both e) ∙ other
]

-- ---- a transaction

module _ {T U : Type 0} (Was : Database → Type 0) (f : T → U) (state : U → State) where
  pub making_as : (a b : T) {B : Type 0} (r : Result B Error) → IfErr r (FailsMaking Was (λ t. state (f t)) a b) → IfErr r (FailsMaking Was state (f a) (f b))
  making_as a b (Ok x) why = tt
  making_as a b (Err e) (inl memory) = inl memory
  making_as a b (Err e) (inr it) =
      inr (record { last = f it.last; led = it.led; inside = it.inside; clean = it.clean; survives = it.survives; at = it.at; within = it.within; made = it.made; refused = it.refused })

module _ {S : Type 0} (g : Ghosts S) (old begun last end : Held S) (is : begun ≡ record old { in_transaction = true })
    (one : Survives (state g begun) (state g last) (λ _. ⊥)) where
  module _ {e : Error} (why : HasCleanDisk (state g last) → FailsMaking IsBlank (state g) begun last e)
      (three : Survives (state g last) (state g end) (λ _. ⊥)) (undone : HasCleanDisk (state g end) → IsRolledBack (state g last) (state g end)) where
    for : HasCleanDisk (state g end) → IsFalse (is_out_of_memory e) → IsCaused (state g old) (state g end) ⊎ FailsWithin g (EndsMaking IsBlank (state g)) old end
    for clean told = elim (given_up_within g old begun last end is one (EndsMaking IsBlank (state g)) {Beside = ⊥} (λ opened inside clean. inr (why clean)) three undone clean told) [
      | inl caused ↦ inl caused
      | inr inside ↦ elim inside [ inl none ↦ absurd none | inr it ↦ inr it ]
    ]

    pub making_given_up : {B : Type 0} (r : Result B Error) → IsErrAnd r (λ d. d ≡ e) → MakingEndsForCause g (λ e. IsFalse (is_out_of_memory e)) old end r
    making_given_up (Ok x) failed = absurd failed
    making_given_up (Err d) failed = record {
      limit = limit_kept g old begun last end is one (EndsMaking IsBlank (state g)) {Beside = ⊥} (λ opened inside clean. inr (why clean)) three undone;
      cause = λ clean told. for clean (subst (λ (d : Error). IsFalse (is_out_of_memory d)) failed told);
    }

  module _ (inside : HasCleanDisk (state g last) → IsTrue (state g last).in_transaction) {Commits : Trees → Type 0} (three : Survives (state g last) (state g end) Commits) where
    pub making_committed : {B : Type 0} (r : Result B Error) → (HasCleanDisk (state g end) → IfErr r (FailsToCommit (state g last) (state g end)))
        → MakingEndsForCause g (λ e. IsFalse (is_out_of_memory e)) old end r
    making_committed {B} (Ok x) err = record { limit = (committed_so g old begun last end is one inside three {B = B} ⊥ (Ok x) err).limit; cause = λ clean. tt }
    making_committed {B} (Err e) err = record {
      limit = (committed_so g old begun last end is one inside three {B = B} ⊥ (Err e) err).limit;
      cause = λ clean told. inl (commit_fails g old begun last end is one inside three e clean told (err clean));
    }

  -- the statement that names the schema was refused
  module _ {e : Error} (ran : HasCleanDisk (state g last) → ExecutesInside 0 naming_text [] (state g begun) (state g last) (Err e))
      (three : Survives (state g last) (state g end) (λ _. ⊥)) (undone : HasCleanDisk (state g end) → IsRolledBack (state g last) (state g end)) where
    pub naming_given_up : {B : Type 0} (r : Result B Error) → IsErrAnd r (λ d. d ≡ e) → NamingEndsForCause g (λ e. IsFalse (is_out_of_memory e)) old end r
    naming_given_up (Ok x) failed = absurd failed
    naming_given_up (Err d) failed = λ clean told. inr (record {
      last = last;
      error = e;
      told = subst (λ (d : Error). IsFalse (is_out_of_memory d)) failed told;
      refused = subst (λ (h : Held S). ExecutesInside 0 naming_text [] (state g h) (state g last) (Err e)) is (ran (omega (arith, three.clean, clean)));
      survives = subst (λ (h : Held S). Survives (state g h) (state g last) (λ _. ⊥)) is one;
      ended = three;
      undone = undone clean;
    })

  module _ (inside : HasCleanDisk (state g last) → IsTrue (state g last).in_transaction) {Commits : Trees → Type 0} (three : Survives (state g last) (state g end) Commits) where
    pub naming_committed : {B : Type 0} (r : Result B Error) → (HasCleanDisk (state g end) → IfErr r (FailsToCommit (state g last) (state g end)))
        → NamingEndsForCause g (λ e. IsFalse (is_out_of_memory e)) old end r
    naming_committed (Ok x) err = λ clean. tt
    naming_committed (Err e) err = λ clean told. inl (commit_fails g old begun last end is one inside three e clean told (err clean))

-- ---- what is told of a call, where that is told of another

pub making_told : {S A B E F : Type 0} {g : Ghosts S} {IsTold : E → Type 0} {Tells : F → Type 0} {old new : Held S} (e : E) (f : F) → (Tells f → IsTold e)
    → MakingEndsForCause {T = A} g IsTold old new (Err e) → MakingEndsForCause {T = B} g Tells old new (Err f)
making_told e f met it = record { limit = it.limit; cause = λ clean told. it.cause clean (met told) }
