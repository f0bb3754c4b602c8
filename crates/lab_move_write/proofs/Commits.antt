-- The transaction that makes something, by the states between: as it began, before its end, and after it.
use Rattle.std.proofs.Common.{◌≡◌, ◌⊎◌, inl, inr, Ok, Err, Result, OnOk, IfErr, IsTrue, true, false, refl, sym, subst, ◌∙◌, arith}
use Rattle.std.proofs.lemmas.Result.{on_ok_weaker}
use Rattle.sqlite_trees.specs.declared.store.Store.{Ghosts}
use Rattle.sqlite_trees.specs.Tree.{Trees}
use Rattle.sqlite.specs.declared.error.Error.{Error}
use Rattle.sqlite.specs.Effect.{Database}
use Rattle.sqlite.specs.Held.{Held, state}
use Rattle.sqlite.specs.Steps.{FailsToCommit}
use Rattle.sqlite.specs.State.{State, IsRolledBack, KeepsCommit, Survives, HasCleanDisk, Shows}
use Rattle.sqlite.proofs.Callers.{survives_begin}
use Rattle.lab_store_tables.specs.Ready.{IsAtRest}
use Rattle.lab_store_write.proofs.Inside.{none_then}
use Rattle.lab_move_write.specs.Commits.{MakesAtOnce}

module _ {S : Type 0} (g : Ghosts S) (old begun last : Held S) (end : State) (Made : Database → Database → Type 0)
    (rest : IsAtRest (state g old)) (is : begun ≡ record old { in_transaction = true }) (alone : end.in_transaction ≡ false)
    (one : Survives (state g begun) (state g last) (λ _. ⊥)) (keeps : HasCleanDisk (state g last) → KeepsCommit (state g begun) (state g last)) where
  so_far : Survives (state g old) (state g last) (λ _. ⊥)
  so_far = survives_begin g old (state g last) (λ _. ⊥) (subst (λ h. Survives (state g h) (state g last) (λ _. ⊥)) is one)

  clean_old : HasCleanDisk (state g last) → HasCleanDisk (state g old)
  clean_old clean = let s = so_far in omega (arith, s.clean)

  committed_last : HasCleanDisk (state g last) → KeepsCommit (state g old) (state g last)
  committed_last clean =
      let k : KeepsCommit (state g (record old { in_transaction = true })) (state g last) = subst (λ h. KeepsCommit (state g h) (state g last)) is (keeps clean) in
      record { was_open = k.was_open; committed = k.committed }

  -- what a rollback leaves
  undone_rows : HasCleanDisk (state g last) → IsRolledBack (state g last) end → IsTrue end.is_open → (end.now ≡ (state g old).now) × (end.now ≡ end.committed) × IsTrue (state g old).is_open
  undone_rows clean it opened =
      let was = it.was_open opened in
      let k = committed_last clean in
      let open_old = k.was_open was in
      let back : end.now ≡ (state g old).now = (it.undone opened).0 ∙ k.committed was ∙ sym (rest.settled (clean_old clean) open_old) in
      (back, (it.undone opened).0 ∙ sym (it.undone opened).1, open_old)

  -- a transaction that was given up
  module _ (three : Survives (state g last) end (λ _. ⊥)) (undone : HasCleanDisk end → IsRolledBack (state g last) end) where
    late : HasCleanDisk end → HasCleanDisk (state g last)
    late clean = omega (arith, three.clean)

    pub given_up : {A E : Type 0} (fault : E) → MakesAtOnce (Made (state g old).now) {A = A} {E = E} (Err fault) (state g old) end
    given_up fault = record {
      once = record {
        at_rest = record { alone = alone; settled = λ clean opened. (undone_rows (late clean) (undone clean) opened).1 };
        clean = λ clean. clean_old (late clean);
        crash = λ clean opened trees left. elim ((none_then (state g old) (state g last) end so_far three).crash clean trees left) [ inl before ↦ inl before | inr none ↦ absurd none ];
      };
      live = λ clean opened. (undone_rows (late clean) (undone clean) opened).2;
      made = λ clean. tt;
      rows = λ clean opened. (undone_rows (late clean) (undone clean) opened).0;
      counts = omega (arith, three.counts, so_far.counts);
      limit = three.limit ∙ so_far.limit;
    }

  module _ (inside : HasCleanDisk (state g last) → IsTrue (state g last).in_transaction) (did : HasCleanDisk (state g last) → IsTrue (state g old).is_open → Made (state g begun).now (state g last).now)
      (three : Survives (state g last) end (λ db. db ≡ (state g last).now.trees)) where
    late_clean : HasCleanDisk end → HasCleanDisk (state g last)
    late_clean clean = omega (arith, three.clean)

    -- what the calls made
    made_last : HasCleanDisk (state g last) → IsTrue (state g old).is_open → Made (state g old).now (state g last).now
    made_last clean opened = subst (λ h. Made (state g h).now (state g last).now) is (did clean opened)

    crashes : HasCleanDisk end → IsTrue (state g old).is_open → (trees : Trees) → end.may_leave trees
        → (state g old).may_leave trees ⊎ ((db : Database) × Made (state g old).now db × (trees ≡ db.trees))
    crashes clean opened trees left = elim (three.crash clean trees left) [
      | inl before ↦ elim (so_far.crash (late_clean clean) trees before) [ inl first ↦ inl first | inr none ↦ absurd none ]
      | inr made ↦ inr ((state g last).now, made_last (late_clean clean) opened, made)
    ]

    -- one that was committed
    module _ (ok : HasCleanDisk end → Shows (state g last) end (state g last).now (state g last).now false) where
      open_old : HasCleanDisk end → IsTrue (state g old).is_open
      open_old clean = (committed_last (late_clean clean)).was_open (ok clean).was_open

      pub committed : {A E : Type 0} (value : A) → MakesAtOnce (Made (state g old).now) {A = A} {E = E} (Ok value) (state g old) end
      committed value = record {
        once = record {
          at_rest = record { alone = alone; settled = λ clean opened. (ok clean).now_is ∙ sym (ok clean).committed_is };
          clean = λ clean. clean_old (late_clean clean);
          crash = crashes;
        };
        live = λ clean opened. open_old clean;
        made = λ clean. (open_old clean, (ok clean).is_open, subst (Made (state g old).now) (sym (ok clean).now_is) (made_last (late_clean clean) (open_old clean)));
        rows = λ clean opened. tt;
        counts = omega (arith, three.counts, so_far.counts);
        limit = three.limit ∙ so_far.limit;
      }

    -- one whose commit failed
    module _ (e : Error) (err : HasCleanDisk end → FailsToCommit (state g last) end e) where
      back : HasCleanDisk end → FailsToCommit (state g last) end e → IsRolledBack (state g last) end
      back clean (inl fails) = fails.3
      back clean (inr late) = absurd (let mode = inside (late_clean clean) in let off = late.1 in cc)

      pub failed : {A E : Type 0} (fault : E) → MakesAtOnce (Made (state g old).now) {A = A} {E = E} (Err fault) (state g old) end
      failed fault = record {
        once = record {
          at_rest = record { alone = alone; settled = λ clean opened. (undone_rows (late_clean clean) (back clean (err clean)) opened).1 };
          clean = λ clean. clean_old (late_clean clean);
          crash = crashes;
        };
        live = λ clean opened. (undone_rows (late_clean clean) (back clean (err clean)) opened).2;
        made = λ clean. tt;
        rows = λ clean opened. (undone_rows (late_clean clean) (back clean (err clean)) opened).0;
        counts = omega (arith, three.counts, so_far.counts);
        limit = three.limit ∙ so_far.limit;
      }

    -- whichever of the two
    pub ends_by : {A : Type 0} (r : Result A Error) → (HasCleanDisk end → OnOk r (Shows (state g last) end (state g last).now (state g last).now false))
        → (HasCleanDisk end → IfErr r (FailsToCommit (state g last) end)) → MakesAtOnce (Made (state g old).now) r (state g old) end
    ends_by (Ok value) ok err = committed ok value
    ends_by (Err e) ok err = failed e err e

-- a call that did nothing
pub nothing_made : {A E : Type 0} (Made : Database → Type 0) (fault : E) (s : State) → IsAtRest s → MakesAtOnce Made {A = A} {E = E} (Err fault) s s
nothing_made Made fault s rest = record {
  once = record { at_rest = rest; clean = λ clean. clean; crash = λ clean opened trees left. inl left };
  live = λ clean opened. opened;
  made = λ clean. tt;
  rows = λ clean opened. refl;
  counts = omega arith;
  limit = refl;
}

-- what was made in other words
pub makes_weaker : {A E : Type 0} (Made As : Database → Type 0) (r : Result A E) {old new : State} → ((db : Database) → Made db → As db)
    → MakesAtOnce Made r old new → MakesAtOnce As r old new
makes_weaker Made As r {old} {new} f it = record {
  once = record {
    at_rest = it.once.at_rest;
    clean = it.once.clean;
    crash = λ clean opened trees left. elim (it.once.crash clean opened trees left) [ inl before ↦ inl before | inr made ↦ inr (made.0, f made.0 made.1, made.2) ];
  };
  live = it.live;
  made = λ clean. on_ok_weaker r (λ made. (made.0, made.1, f new.now made.2)) (it.made clean);
  rows = it.rows;
  counts = it.counts;
  limit = it.limit;
}

-- an answer in other words
pub told_ok : {A B E F : Type 0} {Made : Database → Type 0} {old new : State} (value : A) (other : B) → MakesAtOnce Made {A = A} {E = E} (Ok value) old new
    → MakesAtOnce Made {A = B} {E = F} (Ok other) old new
told_ok value other it = record { once = it.once; live = it.live; made = it.made; rows = it.rows; counts = it.counts; limit = it.limit }

pub told_err : {A B E F : Type 0} {Made : Database → Type 0} {old new : State} (fault : E) (other : F) → MakesAtOnce Made {A = A} {E = E} (Err fault) old new
    → MakesAtOnce Made {A = B} {E = F} (Err other) old new
told_err fault other it = record { once = it.once; live = it.live; made = it.made; rows = it.rows; counts = it.counts; limit = it.limit }
