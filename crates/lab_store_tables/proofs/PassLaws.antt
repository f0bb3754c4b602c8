-- What a query leaves, however it ends: of a file of ours, all as it was.
use Rattle.std.proofs.Common.{◌≡◌, ◌⊎◌, inl, inr, List, ℕ, Option, Some, None, Ok, Err, Result, IfOk, OnOk, IfErr, IsTrue, false, cond, sym, ap, subst, ◌∙◌}
use Rattle.std.specs.declared.alloc.Global.{Global}
use Rattle.std.specs.Prelude.{Vec}
use Rattle.sqlite_value.specs.Order.{Row}
use Rattle.sqlite_schema.specs.declared.command.Returning.{Returning}
use Rattle.sqlite.specs.declared.error.Error.{Error}
use Rattle.sqlite.specs.Clock.{timed}
use Rattle.sqlite.specs.Listing.{understood}
use Rattle.sqlite.specs.State.{State, HasCleanDisk, IsUnchanged, IsRolledBack, IsNotRun, Shown, ShowsRows, FailsToQuery, FailsToShow, Survives, CommitsShowing}
use Rattle.sqlite.proofs.Callers.{IsPlain, never_commits}
use Rattle.lab_store_tables.specs.Schema.{lab_schema}
use Rattle.lab_store_tables.specs.Ready.{IsAtRest, IsKept, IsReady, PassesBy}
use Rattle.lab_store_tables.proofs.Shutting.{shuts_by}

-- ---- whatever the file is

shown_open : (sql : List ℕ) (params : Row) (old new : State) (rows : List Row) → Shown sql params old new rows → IsTrue old.is_open
unfolding Shown
shown_open sql params old new rows h = go h.0.returning h.2
  where
    go : (what : Option Returning) → ShowsRows old new sql h.0 (timed params h.0.formats h.1.now) rows what → IsTrue old.is_open
    go None it = it.3.0.was_open
    go (Some what) it = it.1.shown.was_open

fails_kept : (sql : List ℕ) (params : Row) (old new : State) (e : Error) → FailsToQuery sql params old new e → IsUnchanged old new ⊎ IsRolledBack old new
unfolding FailsToQuery IsNotRun
fails_kept sql params old new e (inl (inl it)) = inl it.1
fails_kept sql params old new e (inl (inr it)) = inr it.3
fails_kept sql params old new e (inr h) = go h.0.returning h.2
  where
    go : (what : Option Returning) → FailsToShow old new sql h.0 (timed params h.0.formats h.1.now) e what → IsUnchanged old new ⊎ IsRolledBack old new
    go None it = inl it.3
    go (Some what) (inl it) = inl it.1
    go (Some what) (inr it) = inr it.3

kept_open : (old new : State) → IsUnchanged old new ⊎ IsRolledBack old new → IsTrue new.is_open → IsTrue old.is_open
kept_open old new (inl it) opened = it.0.was_open
kept_open old new (inr it) opened = it.was_open opened

kept_settled : (old new : State) → (HasCleanDisk new → HasCleanDisk old) → IsAtRest old → HasCleanDisk new → IsTrue new.is_open → IsUnchanged old new ⊎ IsRolledBack old new → new.now ≡ new.committed
kept_settled old new before rest clean opened (inl it) = it.0.now_is ∙ rest.settled (before clean) it.0.was_open ∙ sym it.0.committed_is
kept_settled old new before rest clean opened (inr it) = (it.undone opened).0 ∙ sym (it.undone opened).1

kept_same : (old new : State) → (HasCleanDisk new → HasCleanDisk old) → IsAtRest old → HasCleanDisk new → IsTrue new.is_open → IsUnchanged old new ⊎ IsRolledBack old new → new.now ≡ old.now
kept_same old new before rest clean opened (inl it) = it.0.now_is
kept_same old new before rest clean opened (inr it) = (it.undone opened).0 ∙ sym (rest.settled (before clean) (it.was_open opened))

shown_settled : (sql : List ℕ) (params : Row) (old new : State) (rows : List Row) → (HasCleanDisk new → HasCleanDisk old) → IsAtRest old → HasCleanDisk new → IsTrue new.is_open
    → Shown sql params old new rows → new.now ≡ new.committed
unfolding Shown
shown_settled sql params old new rows before rest clean opened h = go h.0.returning h.2
  where
    go : (what : Option Returning) → ShowsRows old new sql h.0 (timed params h.0.formats h.1.now) rows what → new.now ≡ new.committed
    go None it = kept_settled old new before rest clean opened (inl it.3)
    go (Some what) it = sym (it.1.shown.committed_is ∙ ap (λ b. cond b old.committed new.now) rest.alone)

-- ---- of a file of ours, and a query that is one there

unchanged_by_query : (sql : List ℕ) (params : Row) (old new : State) (rows : List Row) → IsPlain (understood old.now.schema sql) → Shown sql params old new rows → IsUnchanged old new
unfolding Shown
unchanged_by_query sql params old new rows plain h =
    let none = (subst IsPlain h.1.is plain).0 in
    let it = subst (ShowsRows old new sql h.0 (timed params h.0.formats h.1.now) rows) none h.2 in
    it.3

module _ (sql : List ℕ) (params : Row) (plain : IsPlain (understood lab_schema sql)) (old new : State) (before : HasCleanDisk new → HasCleanDisk old) where
  plain_here : IsReady old → HasCleanDisk new → IsTrue old.is_open → IsPlain (understood old.now.schema sql)
  plain_here ready clean opened = subst (λ s. IsPlain (understood s sql)) (sym (ready.kept (before clean) opened).typed.schema) plain

  -- at Ok nothing has changed
  pub unchanged : IsReady old → (r : Result (Vec Row Global) Error) → HasCleanDisk new → IfOk r (λ rows. Shown sql params old new rows.items) → OnOk r (IsUnchanged old new)
  unchanged ready (Ok rows) clean h = unchanged_by_query sql params old new rows.items (plain_here ready clean (shown_open sql params old new rows.items h)) h
  unchanged ready (Err e) clean h = tt

  ends : IsReady old → (r : Result (Vec Row Global) Error) → HasCleanDisk new → IfOk r (λ rows. Shown sql params old new rows.items) → IfErr r (FailsToQuery sql params old new)
      → IsUnchanged old new ⊎ IsRolledBack old new
  ends ready (Ok rows) clean ok err = inl (unchanged ready (Ok rows) clean ok)
  ends ready (Err e) clean ok err = fails_kept sql params old new e err

  opens : (r : Result (Vec Row Global) Error) → IfOk r (λ rows. Shown sql params old new rows.items) → IfErr r (FailsToQuery sql params old new) → IsTrue new.is_open → IsTrue old.is_open
  opens (Ok rows) ok err opened = shown_open sql params old new rows.items ok
  opens (Err e) ok err opened = kept_open old new (fails_kept sql params old new e err) opened

  settles : IsAtRest old → (r : Result (Vec Row Global) Error) → HasCleanDisk new → IsTrue new.is_open → IfOk r (λ rows. Shown sql params old new rows.items)
      → IfErr r (FailsToQuery sql params old new) → new.now ≡ new.committed
  settles rest (Ok rows) clean opened ok err = shown_settled sql params old new rows.items before rest clean opened ok
  settles rest (Err e) clean opened ok err = kept_settled old new before rest clean opened (fails_kept sql params old new e err)

  pub passed : (r : Result (Vec Row Global) Error) → (old.in_transaction ≡ false → new.in_transaction ≡ false)
      → (HasCleanDisk new → IfOk r (λ rows. Shown sql params old new rows.items)) → (HasCleanDisk new → IfErr r (FailsToQuery sql params old new))
      → Survives old new (CommitsShowing sql params old) → PassesBy old new
  passed r alone ok err survives = record {
    at_rest = rests;
    clean = before;
    live = λ clean opened. opens r (ok clean) (err clean) opened;
    ready = λ ready. record {
      at_rest = rests ready.at_rest;
      kept = λ clean opened. subst IsKept (sym (kept_same old new before ready.at_rest clean opened (ends ready r clean (ok clean) (err clean))))
          (ready.kept (before clean) (opens r (ok clean) (err clean) opened));
    };
    crash = λ ready clean opened db left. elim (survives.crash clean db left) [ inl was ↦ was | inr commits ↦ absurd (never_commits sql params old db (plain_here ready clean opened) commits) ];
    shuts = shuts_by old new (CommitsShowing sql params old) survives;
  }
    where
      rests : IsAtRest old → IsAtRest new
      rests rest = record { alone = alone rest.alone; settled = λ clean opened. settles rest r clean opened (ok clean) (err clean) }
