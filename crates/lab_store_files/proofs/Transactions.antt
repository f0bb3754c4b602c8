-- The transaction that makes a file, by the states between: as it began, before its end, and after it.
use Rattle.std.proofs.Common.{◌≡◌, ◌⊎◌, inl, inr, ℕ, List, Ok, Err, Result, OnOk, IsTrue, true, false, refl, sym, subst, ◌∙◌, arith}
use Rattle.sqlite_trees.specs.declared.store.Store.{Ghosts}
use Rattle.sqlite.specs.declared.error.Error.{Error}
use Rattle.sqlite_trees.specs.Tree.{Trees}
use Rattle.sqlite.specs.Effect.{Database}
use Rattle.sqlite.specs.Held.{Held, state}
use Rattle.sqlite.specs.Steps.{FailsToCommit}
use Rattle.sqlite.specs.State.{State, IsUnchanged, IsRolledBack, KeepsCommit, Survives, HasCleanDisk, Shows, ExecutesInside}
use Rattle.sqlite.proofs.Callers.{survives_begin}
use Rattle.sqlite.proofs.StateLemmas.{survives_then}
use Rattle.sqlite_value.specs.Order.{Row}
use Rattle.lab_store_tables.specs.Ready.{IsAtRest, WhereShown}
use Rattle.lab_store_files.specs.NewFiles.{IsBlank, IsNewFile, EndsNewFile}

pub keeps_then : (a b c : State) → KeepsCommit a b → KeepsCommit b c → KeepsCommit a c
keeps_then a b c p q = record { was_open = λ opened. p.was_open (q.was_open opened); committed = λ opened. q.committed opened ∙ p.committed (q.was_open opened) }

pub keeps_none : (s : State) → KeepsCommit s s
keeps_none s = record { was_open = λ opened. opened; committed = λ _. refl }

pub none_then : (a b c : State) → Survives a b (λ _. ⊥) → Survives b c (λ _. ⊥) → Survives a c (λ _. ⊥)
none_then a b c = survives_then a b c (λ _. ⊥) (λ _. ⊥) (λ _. ⊥) (λ _ db none. none) (λ _ db none. none)

ended_keeps : (old new : State) → IsUnchanged old new ⊎ IsRolledBack old new → KeepsCommit old new
ended_keeps old new (inl it) = record { was_open = λ _. it.0.was_open; committed = λ _. it.0.committed_is }
ended_keeps old new (inr it) = record { was_open = it.was_open; committed = λ opened. (it.undone opened).1 }

pub inside_keeps : (sql : List ℕ) (params : Row) (old new : State) (r : Result ℕ Error) → ExecutesInside 0 sql params old new r → KeepsCommit old new
inside_keeps sql params old new (Ok count) h = record { was_open = λ _. h.1.was_open; committed = λ _. h.1.committed_is }
inside_keeps sql params old new (Err e) (inl h) = ended_keeps old new h.1
inside_keeps sql params old new (Err e) (inr h) = ended_keeps old new (inl h.2)

pub inside_stays : (sql : List ℕ) (params : Row) (old new : State) (r : Result ℕ Error) → ExecutesInside 0 sql params old new r → OnOk r (IsTrue new.in_transaction)
inside_stays sql params old new (Ok count) h = h.1.mode
inside_stays sql params old new (Err e) h = tt

module _ {S : Type 0} (g : Ghosts S) (old begun last : Held S) (end : State)
    (rest : IsAtRest (state g old)) (is : begun ≡ record old { in_transaction = true }) (alone : end.in_transaction ≡ false)
    (one : Survives (state g begun) (state g last) (λ _. ⊥)) (keeps : HasCleanDisk (state g last) → KeepsCommit (state g begun) (state g last)) where
  so_far : Survives (state g old) (state g last) (λ _. ⊥)
  so_far = survives_begin g old (state g last) (λ _. ⊥) (subst (λ h. Survives (state g h) (state g last) (λ _. ⊥)) is one)

  clean_old : HasCleanDisk (state g last) → HasCleanDisk (state g old)
  clean_old clean = let s = so_far in omega (arith, s.clean)

  committed_last : HasCleanDisk (state g last) → KeepsCommit (state g old) (state g last)
  committed_last clean =
      let k : KeepsCommit (state g (record old { in_transaction = true })) (state g last) = subst (λ h. KeepsCommit (state g h) (state g last)) is (keeps clean) in
      record { was_open = k.was_open; committed = k.committed }

  -- what a rollback leaves
  undone_rows : HasCleanDisk (state g last) → IsRolledBack (state g last) end → IsTrue end.is_open → (end.now ≡ (state g old).now) × (end.now ≡ end.committed)
  undone_rows clean it opened =
      let was = it.was_open opened in
      let k = committed_last clean in
      let open_old = k.was_open was in
      let back : end.now ≡ (state g old).now = (it.undone opened).0 ∙ k.committed was ∙ sym (rest.settled (clean_old clean) open_old) in
      (back, (it.undone opened).0 ∙ sym (it.undone opened).1)

  module _ (three : Survives (state g last) end (λ _. ⊥)) (undone : HasCleanDisk end → IsRolledBack (state g last) end) where
    late : HasCleanDisk end → HasCleanDisk (state g last)
    late clean = omega (arith, three.clean)

    pub given_up_ends : EndsNewFile (state g old) end
    given_up_ends = record {
      at_rest = record { alone = alone; settled = λ clean opened. (undone_rows (late clean) (undone clean) opened).1 };
      clean = λ clean. clean_old (late clean);
      crash = λ clean opened trees left. elim ((none_then (state g old) (state g last) end so_far three).crash clean trees left) [ inl before ↦ inl before | inr none ↦ absurd none ];
    }

    pub given_up_rows : WhereShown end (end.now ≡ (state g old).now)
    given_up_rows clean opened = (undone_rows (late clean) (undone clean) opened).0

  module _ (inside : HasCleanDisk (state g last) → IsTrue (state g last).in_transaction) (did : HasCleanDisk (state g last) → IsBlank (state g begun).now → IsNewFile (state g last).now)
      (three : Survives (state g last) end (λ db. db ≡ (state g last).now.trees)) where
    late_clean : HasCleanDisk end → HasCleanDisk (state g last)
    late_clean clean = omega (arith, three.clean)

    -- what the statements made
    made_last : HasCleanDisk (state g last) → IsBlank (state g old).now → IsNewFile (state g last).now
    made_last clean = subst (λ h. IsBlank (state g h).now → IsNewFile (state g last).now) is (did clean)

    crashes : HasCleanDisk end → IsTrue (state g old).is_open → (trees : Trees) → end.may_leave trees
        → (state g old).may_leave trees ⊎ ((db : Database) × (IsBlank (state g old).now → IsNewFile db) × (trees ≡ db.trees))
    crashes clean opened trees left = elim (three.crash clean trees left) [
      | inl before ↦ elim (so_far.crash (late_clean clean) trees before) [ inl first ↦ inl first | inr none ↦ absurd none ]
      | inr made ↦ inr ((state g last).now, made_last (late_clean clean), made)
    ]

    module _ (ok : HasCleanDisk end → Shows (state g last) end (state g last).now (state g last).now false) where
      pub committed_made : HasCleanDisk end → IsBlank (state g old).now → IsTrue end.is_open × IsNewFile end.now
      committed_made clean blank = ((ok clean).is_open, subst IsNewFile (sym (ok clean).now_is) (made_last (late_clean clean) blank))

      pub committed_ends : EndsNewFile (state g old) end
      committed_ends = record {
        at_rest = record { alone = alone; settled = λ clean opened. (ok clean).now_is ∙ sym (ok clean).committed_is };
        clean = λ clean. clean_old (late_clean clean);
        crash = crashes;
      }

    module _ (e : Error) (err : HasCleanDisk end → FailsToCommit (state g last) end e) where
      back : HasCleanDisk end → FailsToCommit (state g last) end e → IsRolledBack (state g last) end
      back clean (inl fails) = fails.3
      back clean (inr late) = absurd (let mode = inside (late_clean clean) in let off = late.1 in cc)

      pub failed_ends : EndsNewFile (state g old) end
      failed_ends = record {
        at_rest = record { alone = alone; settled = λ clean opened. (undone_rows (late_clean clean) (back clean (err clean)) opened).1 };
        clean = λ clean. clean_old (late_clean clean);
        crash = crashes;
      }

      pub failed_rows : WhereShown end (end.now ≡ (state g old).now)
      failed_rows clean opened = (undone_rows (late_clean clean) (back clean (err clean)) opened).0

-- a call that did nothing
pub none_ends : (s : State) → IsAtRest s → EndsNewFile s s
none_ends s rest = record { at_rest = rest; clean = λ clean. clean; crash = λ clean opened trees left. inl left }
