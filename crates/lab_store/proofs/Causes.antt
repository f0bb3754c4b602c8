-- What a call that commits tells of the store, over a file that is ready.
use Rattle.std.proofs.Common.{◌≡◌, ◌⊎◌, inl, inr, ◌≤◌, Err, Result, IsTrue, ap, subst, ◌∙◌}
use Rattle.std.specs.Prelude.{IsSome}
use Rattle.std.proofs.lemmas.Result.{IfErr-weaker}
use Rattle.sqlite_trees.specs.declared.store.Store.{Ghosts}
use Rattle.sqlite.specs.Effect.{Database}
use Rattle.sqlite.specs.Held.{Held, state}
use Rattle.sqlite.specs.State.{State, HasCleanDisk, IsUnchanged}
use Rattle.lab_store_tables.specs.Rows.{Tables, tables_in}
use Rattle.lab_store_tables.specs.Ready.{IsReady, PassesBy, tables_of}
use Rattle.lab_store_read.specs.Causes.{IsCaused}
use Rattle.lab_store_write.specs.Causes.{Statement, Tries, Anything}
use Rattle.lab_store_write.specs.Transactions.{EndsForCauseTrying}
use Rattle.lab_store_write.proofs.Transactions.{since, as_is_then}
use Rattle.lab_store.specs.Causes.{CommitHasItsCause, CommitHasItsCauseTrying, FailsInsideTrying}

-- ---- a cause of a connection

-- of the second call it is one of both, where the first leaves an open connection open
caused_since : (old mid new : State) → old.faults ≤ mid.faults → mid.step_limit ≡ old.step_limit → IsTrue mid.is_open → IsCaused mid new → IsCaused old new
caused_since old mid new counts limit opened (inl fault) = inl (since old.faults mid.faults new.faults counts fault)
caused_since old mid new counts limit opened (inr (inl shut)) = absurd (let o = opened in let s = shut in cc)
caused_since old mid new counts limit opened (inr (inr few)) = inr (inr (subst IsSome limit few.0, few.1))

-- ---- a transaction over a file that is ready

pub ready_so : {tries : Tries} {S T E : Type 0} {g : Ghosts S} {IsTold : E → Type 0} {Beside : Type 0} {old new : Held S} {r : Result T E} → EndsForCauseTrying tries g IsTold Beside old new r
    → CommitHasItsCauseTrying tries g IsTold (λ t. Unit {0}) (λ t. Beside) old new r
ready_so it = record { limit = it.limit; cause = λ ready clean readable. it.cause (λ clean opened. (ready.kept clean opened).typed) clean }

-- ---- what is told of a call, where that is told of another

module _ {S : Type 0} (g : Ghosts S) where
  -- one fault for another
  pub told_as : {tries : Tries} {A B E F : Type 0} {IsTold : E → Type 0} {Tells : F → Type 0} {Readable Refused : Tables → Type 0} {old new : Held S} (e : E) (f : F) → (Tells f → IsTold e)
      → CommitHasItsCauseTrying tries {T = A} g IsTold Readable Refused old new (Err e) → CommitHasItsCauseTrying tries {T = B} g Tells Readable Refused old new (Err f)
  told_as e f met it = record { limit = it.limit; cause = λ ready clean readable told. it.cause ready clean readable (met told) }

  -- a call after one that passed by
  module _ (First Then : Tables → Type 0) (old mid new : Held S) (passes : PassesBy (state g old) (state g mid))
      (same : HasCleanDisk (state g mid) → IsUnchanged (state g old) (state g mid)) (limit : (state g mid).step_limit ≡ (state g old).step_limit)
      (clean_mid : HasCleanDisk (state g new) → HasCleanDisk (state g mid)) (met : First (tables_of (state g mid)) → Then (tables_of (state g old))) where
    -- what was tried in it, over the tables of the first
    module _ (tries more : Tries)
        (own : IsReady (state g old) → HasCleanDisk (state g mid) → (t : Tables) → t ≡ tables_of (state g old) → (tried : Statement) (at : Tables) → tries t tried at → more t tried at) where
      inside_since : IsReady (state g old) → HasCleanDisk (state g mid) → FailsInsideTrying tries g mid new → FailsInsideTrying more g old new
      inside_since ready clean it =
          let as_is = as_is_then (state g old) (state g mid) (state g it.from) (record { same = same clean; counts = passes.shuts.counts; limit = limit }) it.as_is in
          record {
            from = it.from;
            as_is = as_is;
            last = it.last;
            error = it.error;
            told = it.told;
            ends = record {
              last = it.ends.last;
              led = it.ends.led;
              ran = it.ends.ran;
              tried = it.ends.tried;
              own = own ready clean (tables_of (state g it.from)) (ap (λ (db : Database). tables_in db.trees) as_is.same.0.now_is) it.ends.tried (tables_of (state g it.ends.last)) it.ends.own;
              why = it.ends.why;
            };
            ended = it.ended;
            undone = it.undone;
          }

      either_since : IsReady (state g old) → HasCleanDisk (state g mid) → IsCaused (state g mid) (state g new) ⊎ (First (tables_of (state g mid)) ⊎ FailsInsideTrying tries g mid new)
          → IsCaused (state g old) (state g new) ⊎ (Then (tables_of (state g old)) ⊎ FailsInsideTrying more g old new)
      either_since ready clean (inl caused) = inl (caused_since (state g old) (state g mid) (state g new) passes.shuts.counts limit (same clean).0.is_open caused)
      either_since ready clean (inr (inl refused)) = inr (inl (met refused))
      either_since ready clean (inr (inr it)) = inr (inr (inside_since ready clean it))

      pub told_after_trying : {A E : Type 0} {IsTold : E → Type 0} (Readable : Tables → Type 0) (r : Result A E) → CommitHasItsCauseTrying tries g IsTold (λ t. Unit {0}) First mid new r
          → CommitHasItsCauseTrying more g IsTold Readable Then old new r
      told_after_trying {IsTold = IsTold} Readable r it = record {
        limit = it.limit ∙ limit;
        cause = λ ready clean readable.
            IfErr-weaker r (λ fault. IsTold fault → IsCaused (state g mid) (state g new) ⊎ (First (tables_of (state g mid)) ⊎ FailsInsideTrying tries g mid new))
            (λ fault. IsTold fault → IsCaused (state g old) (state g new) ⊎ (Then (tables_of (state g old)) ⊎ FailsInsideTrying more g old new))
            (λ fault why told. either_since ready (clean_mid clean) (why told)) (it.cause (passes.ready ready) clean tt);
      }

    pub told_after : {A E : Type 0} {IsTold : E → Type 0} (Readable : Tables → Type 0) (r : Result A E) → CommitHasItsCause g IsTold (λ t. Unit {0}) First mid new r
        → CommitHasItsCause g IsTold Readable Then old new r
    told_after Readable r it = told_after_trying Anything Anything (λ _ _ _ _ _ _ _. tt) Readable r it
