-- Calls that read, of what they are made: a query, what is made of its rows, and one call after another.
use Rattle.std.proofs.Common.{◌≡◌, ℕ, ◌⊎◌, inl, inr, List, refl, ◌∙◌, IsTrue, Result, Ok, Err, IfOk, OnOk, subst, arith}
use Rattle.std.specs.Prelude.{Vec, IsErrAnd}
use Rattle.std.specs.declared.alloc.Global.{Global}
use Rattle.sqlite_value.specs.Order.{Row}
use Rattle.lab_forms_texts.specs.declared.refusals.Fault.{Fault}
use Rattle.lab_records_keeper.specs.declared.faults.BadStore.{BadStore}
use Rattle.sqlite.specs.Effect.{Database}
use Rattle.sqlite.specs.State.{State, HasCleanDisk, IsUnchanged, IsRolledBack, KeepsCommit, Shown}
use Rattle.sqlite_resolve.specs.Compile.{first}
use Rattle.lab_store_tables.specs.Rows.{Tables, tables_in}
use Rattle.lab_store_tables.specs.Ready.{IsKept, PassesBy, tables_of}
use Rattle.lab_store_tables.proofs.Shutting.{shuts_none, shuts_on}
use Rattle.lab_store_read.specs.Reads.{AsksQuery, Reads, MayRead}
use Rattle.lab_store_read.proofs.Queries.{IsRead, shown_open, passes, same, ends, if_then}

-- ---- one query

-- a query of ours reads, where its rows are those that the tables show
pub rows_read : {old new : State} {sql : List ℕ} {params : Row} {r : Result (Vec Row Global) (Fault BadStore)} {Answer : Tables → Vec Row Global → Type 0}
    → IsRead (first sql) → AsksQuery sql params old new r
    → ((rows : Vec Row Global) → IsKept old.now → Shown sql params old new rows.items → Answer (tables_of old) rows) → Reads Answer old new r
rows_read {old} {new} {sql} {params} {r} {Answer} read it exact =
    let before : HasCleanDisk new → HasCleanDisk old = λ clean. omega (arith, it.survives.clean) in
    record {
      passes = passes sql read params old new before r it.mode it.ok it.err it.survives;
      same = λ clean. same sql read params old new before r (it.ok clean);
      answer = λ ready clean. go r (λ rows shown. exact rows (ready.kept (before clean) (shown_open sql params old new rows.items shown)) shown) (it.ok clean);
    }
  where
    go : (r : Result (Vec Row Global) (Fault BadStore)) → ((rows : Vec Row Global) → Shown sql params old new rows.items → Answer (tables_of old) rows)
        → IfOk r (λ rows. Shown sql params old new rows.items) → IfOk r (Answer (tables_of old))
    go (Ok rows) f it = f rows it
    go (Err e) f it = tt

kept_commit : (old new : State) → IsUnchanged old new ⊎ IsRolledBack old new → KeepsCommit old new
kept_commit old new (inl it) = record { was_open = λ _. it.0.was_open; committed = λ _. it.0.committed_is }
kept_commit old new (inr it) = record { was_open = it.was_open; committed = λ opened. (it.undone opened).1 }

-- however a query of ours ends, nothing is committed
pub rows_kept : {old new : State} {sql : List ℕ} {params : Row} {r : Result (Vec Row Global) (Fault BadStore)} → IsRead (first sql) → AsksQuery sql params old new r
    → HasCleanDisk new → KeepsCommit old new
rows_kept {old} {new} {sql} {params} {r} read it clean =
    kept_commit old new (ends sql read params old new (λ (clean : HasCleanDisk new). omega (arith, it.survives.clean)) r (it.ok clean) (it.err clean))

-- ---- no call

pub passes_none : (s : State) → PassesBy s s
passes_none s = record {
  at_rest = λ rest. rest;
  clean = λ clean. clean;
  live = λ clean opened. opened;
  ready = λ ready. ready;
  crash = λ ready clean opened trees left. left;
  shuts = shuts_none s;
}

pub unchanged_none : (s : State) → IsTrue s.is_open → IsUnchanged s s
unchanged_none s opened = (
  record { was_open = opened; is_open = opened; now_is = refl; committed_is = refl; mode = refl },
  record { changes = refl; last_rowid = refl },
  refl,
)

pub none_read : {A E : Type 0} {Answer : Tables → A → Type 0} {s : State} {a : A} → Answer (tables_of s) a → MayRead {E = E} Answer s s (Ok a)
none_read {s = s} it = record { passes = passes_none s; shows = λ _. refl; same = λ _ opened. unchanged_none s opened; answer = λ _ _. it }

-- a call that reads nothing, and gives no answer
pub none_failed : {C G : Type 0} {Then : Tables → C → Type 0} (s : State) (end : Result C G) (Q : G → Type 0) → IsErrAnd end Q → MayRead Then s s end
none_failed s (Ok c) Q failed = absurd failed
none_failed s (Err e) Q failed = record { passes = passes_none s; shows = λ _. tt; same = λ _ _. tt; answer = λ _ _. tt }

-- ---- one call and then another

-- where the first left all as it was if the connection was open
pub passes_on : (a b c : State) → PassesBy a b → PassesBy b c → (HasCleanDisk b → IsTrue a.is_open → IsUnchanged a b) → PassesBy a c
passes_on a b c p q same = record {
  at_rest = λ rest. q.at_rest (p.at_rest rest);
  clean = λ clean. p.clean (q.clean clean);
  live = λ clean opened. p.live (q.clean clean) (q.live clean opened);
  ready = λ ready. q.ready (p.ready ready);
  crash = λ ready clean opened trees left.
      let mid = q.clean clean in
      p.crash ready mid opened trees (q.crash (p.ready ready) clean (same mid opened).0.is_open trees left);
  shuts = shuts_on a b c q.clean p.shuts q.shuts;
}

pub unchanged_then : (a b c : State) → IsUnchanged a b → IsUnchanged b c → IsUnchanged a c
unchanged_then a b c p q = (
  record {
    was_open = p.0.was_open;
    is_open = q.0.is_open;
    now_is = q.0.now_is ∙ p.0.now_is;
    committed_is = q.0.committed_is ∙ p.0.committed_is;
    mode = q.0.mode ∙ p.0.mode;
  },
  record { changes = q.1.changes ∙ p.1.changes; last_rowid = q.1.last_rowid ∙ p.1.last_rowid },
  q.2 ∙ p.2,
)

on_ok : {A E P : Type 0} (r : Result A E) → P → OnOk r P
on_ok (Ok a) p = p
on_ok (Err e) p = tt

on_ok_then : {A E P Q : Type 0} (r : Result A E) → (P → Q) → OnOk r P → OnOk r Q
on_ok_then (Ok a) f p = f p
on_ok_then (Err e) f p = tt

-- a call that gave no answer
pub reads_fail : {A C E G : Type 0} {Was : Tables → A → Type 0} {Then : Tables → C → Type 0} {old new : State} {r : Result A E} → Reads Was old new r
    → (end : Result C G) (Q : G → Type 0) → IsErrAnd end Q → Reads Then old new end
reads_fail it (Ok c) Q failed = absurd failed
reads_fail it (Err e) Q failed = record { passes = it.passes; same = λ _. tt; answer = λ _ _. tt }

pub may_end : {A C E G : Type 0} {Was : Tables → A → Type 0} {Then : Tables → C → Type 0} {old new : State} {r : Result A E} → MayRead Was old new r
    → (end : Result C G) (Q : G → Type 0) → IsErrAnd end Q → MayRead Then old new end
may_end it (Ok c) Q failed = absurd failed
may_end it (Err e) Q failed = record { passes = it.passes; shows = λ _. tt; same = λ _ _. tt; answer = λ _ _. tt }

-- the answer in other words
pub reads_as : {A E : Type 0} {Was Then : Tables → A → Type 0} {old new : State} {r : Result A E} → Reads Was old new r → ((a : A)
    → Was (tables_of old) a → Then (tables_of old) a) → Reads Then old new r
reads_as {r = r} it f = record { passes = it.passes; same = it.same; answer = λ ready clean. if_then r f (it.answer ready clean) }

pub may_read : {A E : Type 0} {Answer : Tables → A → Type 0} {old new : State} {r : Result A E} → Reads Answer old new r → MayRead Answer old new r
may_read {old = old} {new = new} {r = r} it = record {
  passes = it.passes;
  shows = λ clean. on_ok_then r (λ (was : IsUnchanged old new). was.0.now_is) (it.same clean);
  same = λ clean _. it.same clean;
  answer = it.answer;
}

-- a call that may read does where the connection was open in any case
surely : {A E : Type 0} {Answer : Tables → A → Type 0} {old new : State} {r : Result A E} → MayRead Answer old new r → (HasCleanDisk new
    → IsTrue old.is_open) → Reads Answer old new r
surely it opened = record { passes = it.passes; same = λ clean. it.same clean (opened clean); answer = it.answer }

module _ {A E : Type 0} {Was : Tables → A → Type 0} {old mid : State} {a : A} (it : MayRead {E = E} Was old mid (Ok a)) where
  -- what is made of an answer
  pub may_and : {B F : Type 0} {Then : Tables → B → Type 0} {r : Result B F} → (Was (tables_of old) a → IfOk r (Then (tables_of old))) → MayRead Then old mid r
  may_and {r = r} f = record {
    passes = it.passes;
    shows = λ clean. on_ok r (it.shows clean);
    same = λ clean opened. on_ok r (it.same clean opened);
    answer = λ ready clean. f (it.answer ready clean);
  }

  -- another call after it
  pub may_then : {B F : Type 0} {Is Then : Tables → B → Type 0} {new : State} {r : Result B F} → MayRead Is mid new r
      → (Was (tables_of old) a → (b : B) → Is (tables_of old) b → Then (tables_of old) b) → MayRead Then old new r
  may_then {B} {F} {Is} {Then} {new} {r} next f = record {
    passes = passes_on old mid new it.passes next.passes it.same;
    shows = λ clean. let was = it.shows (next.passes.clean clean) in on_ok_then r (λ (is : new.now ≡ mid.now). is ∙ was) (next.shows clean);
    same = λ clean opened. let was = it.same (next.passes.clean clean) opened in on_ok_then r (unchanged_then old mid new was) (next.same clean was.0.is_open);
    answer = λ ready clean.
        let early = next.passes.clean clean in
        if_then r (f (it.answer ready early))
        (subst (λ (db : Database). IfOk r (Is (tables_in db.trees))) (it.shows early) (next.answer (it.passes.ready ready) clean));
  }

  -- what is made of the answers of both
  pub may_both : {B C F G : Type 0} {Is : Tables → B → Type 0} {Then : Tables → C → Type 0} {new : State} {b : B} {r : Result C G}
      → MayRead {E = F} Is mid new (Ok b)
      → (Was (tables_of old) a → Is (tables_of old) b → IfOk r (Then (tables_of old))) → MayRead Then old new r
  may_both {B} {C} {F} {G} {Is} {Then} {new} {b} {r} next f = record {
    passes = passes_on old mid new it.passes next.passes it.same;
    shows = λ clean. on_ok r (next.shows clean ∙ it.shows (next.passes.clean clean));
    same = λ clean opened. let was = it.same (next.passes.clean clean) opened in on_ok r (unchanged_then old mid new was (next.same clean was.0.is_open));
    answer = λ ready clean.
        let early = next.passes.clean clean in
        f (it.answer ready early)
        (subst (λ (db : Database). Is (tables_in db.trees) b) (it.shows early) (next.answer (it.passes.ready ready) clean));
  }

  -- another call after it that fails
  pub may_fail : {B C F G : Type 0} {Is : Tables → B → Type 0} {Then : Tables → C → Type 0} {new : State} {r : Result B F} {e : G} → MayRead Is mid new r
      → MayRead {T = C} Then old new (Err e)
  may_fail {new = new} next = record {
    passes = passes_on old mid new it.passes next.passes it.same;
    shows = λ _. tt;
    same = λ _ _. tt;
    answer = λ _ _. tt;
  }

-- the same, where the first call surely reads, which shows that the file is ours
module _ {A E : Type 0} {Was : Tables → A → Type 0} {old mid : State} {a : A} (it : Reads {E = E} Was old mid (Ok a)) where
  first_read : MayRead {T = A} {E = E} (λ t a. IsKept old.now × Was t a) old mid (Ok a)
  first_read = record {
    passes = it.passes;
    shows = λ clean. (it.same clean).0.now_is;
    same = λ clean _. it.same clean;
    answer = λ ready clean. (ready.kept (it.passes.clean clean) (it.same clean).0.was_open, it.answer ready clean);
  }

  pub reads_and : {B F : Type 0} {Then : Tables → B → Type 0} {r : Result B F} → (IsKept old.now → Was (tables_of old) a → IfOk r (Then (tables_of old)))
      → Reads Then old mid r
  reads_and f = surely (may_and first_read (λ was. f was.0 was.1)) (λ clean. (it.same clean).0.was_open)

  pub reads_then : {B F : Type 0} {Is Then : Tables → B → Type 0} {new : State} {r : Result B F} → MayRead Is mid new r
      → (IsKept old.now → Was (tables_of old) a → (b : B) → Is (tables_of old) b → Then (tables_of old) b) → Reads Then old new r
  reads_then next f = surely (may_then first_read next (λ was. f was.0 was.1)) (λ clean. (it.same (next.passes.clean clean)).0.was_open)

  pub reads_both : {B C F G : Type 0} {Is : Tables → B → Type 0} {Then : Tables → C → Type 0} {new : State} {b : B} {r : Result C G}
      → MayRead {E = F} Is mid new (Ok b)
      → (IsKept old.now → Was (tables_of old) a → Is (tables_of old) b → IfOk r (Then (tables_of old))) → Reads Then old new r
  reads_both next f = surely (may_both first_read next (λ was. f was.0 was.1)) (λ clean. (it.same (next.passes.clean clean)).0.was_open)
