-- Calls that read a file of an older schema, of what they are made: a query, what is made of its rows, and one call after another.
use Rattle.std.proofs.Common.{◌≡◌, ℕ, List, refl, sym, ◌∙◌, IsTrue, Result, Ok, Err, IfOk, OnOk, subst, arith}
use Rattle.std.specs.Prelude.{Vec, IsErrAnd}
use Rattle.std.specs.declared.alloc.Global.{Global}
use Rattle.sqlite_value.specs.Order.{Row}
use Rattle.lab_forms_texts.specs.declared.refusals.Fault.{Fault}
use Rattle.lab_records_keeper.specs.declared.faults.BadStore.{BadStore}
use Rattle.sqlite.specs.Effect.{Database}
use Rattle.sqlite.specs.State.{State, HasCleanDisk, IsUnchanged}
use Rattle.sqlite_resolve.specs.Compile.{first}
use Rattle.lab_store_tables.specs.Rows.{Tables}
use Rattle.lab_store_read.specs.Reads.{AsksQuery}
use Rattle.lab_store_read.proofs.Queries.{IsRead, same, if_then}
use Rattle.lab_store_read.proofs.Readers.{unchanged_none, unchanged_then}
use Rattle.lab_move_tables.specs.declared.older.Older.{Older}
use Rattle.lab_move_tables.specs.Showing.{ShowsOf}
use Rattle.lab_move_tables.specs.Standing.{StandsBy, StandsBySome}
use Rattle.lab_move_tables.specs.Reading.{PassesOver, ReadsAs, ReadsOld}
use Rattle.lab_move_tables.specs.Private.Reading.{ReadsBy}
use Rattle.lab_move_tables.proofs.Bare.{passes, shows_of}

on_ok : {A E P : Type 0} (r : Result A E) → P → OnOk r P
on_ok (Ok a) p = p
on_ok (Err e) p = tt

any_ok : {A E : Type 0} (r : Result A E) → IfOk r (λ _. Unit {0})
any_ok (Ok a) = tt
any_ok (Err e) = tt

on_ok_then : {A E P Q : Type 0} (r : Result A E) → (P → Q) → OnOk r P → OnOk r Q
on_ok_then (Ok a) f p = f p
on_ok_then (Err e) f p = tt

-- a file that didn't change stands for the same tables
pub stands_since : (Stands : Database → Tables → Type 0) {before after : Database} → after ≡ before → (t : Tables) → Stands before t → Stands after t
stands_since Stands same t file = subst (λ (db : Database). Stands db t) (sym same) file

-- ---- one query

pub rows_read : {Stands : Database → Tables → Type 0} {old new : State} {sql : List ℕ} {params : Row} {r : Result (Vec Row Global) (Fault BadStore)} {Answer : Tables → Vec Row Global → Type 0}
    → IsRead (first sql) → AsksQuery sql params old new r
    → ((t : Tables) → Stands old.now t → (rows : Vec Row Global) → ShowsOf old.now sql params rows.items → Answer t rows) → ReadsAs Stands Answer old new r
rows_read {Stands} {old} {new} {sql} {params} {r} {Answer} read it exact =
    let before : HasCleanDisk new → HasCleanDisk old = λ clean. omega (arith, it.survives.clean) in
    let unchanged : HasCleanDisk new → OnOk r (IsUnchanged old new) = λ clean. same sql read params old new before r (it.ok clean) in
    record {
      passes = passes sql read params old new before r it.mode it.ok it.err it.survives;
      shows = λ clean. on_ok_then r (λ (was : IsUnchanged old new). was.0.now_is) (unchanged clean);
      same = λ clean opened. unchanged clean;
      answer = λ t file clean. if_then r (λ rows shown. exact t file rows (shows_of sql read params old new rows.items shown)) (it.ok clean);
    }

-- ---- no call

pub passes_none : (s : State) → PassesOver s s
passes_none s = record {
  at_rest = λ rest. rest;
  clean = λ clean. clean;
  live = λ clean opened. opened;
  shows = λ rest clean opened. refl;
  crash = λ clean opened trees left. left;
  counts = omega arith;
  limit = refl;
}

pub none_read : {Stands : Database → Tables → Type 0} {A E : Type 0} {Answer : Tables → A → Type 0} {s : State} {a : A} → ((t : Tables) → Answer t a) → ReadsAs Stands {E = E} Answer s s (Ok a)
none_read {s = s} it = record { passes = passes_none s; shows = λ _. refl; same = λ _ opened. unchanged_none s opened; answer = λ t _ _. it t }

-- ---- one call and then another

-- where the first left all as it was if the connection was open
pub passes_on : (a b c : State) → PassesOver a b → PassesOver b c → (HasCleanDisk b → IsTrue a.is_open → IsUnchanged a b) → PassesOver a c
passes_on a b c p q same = record {
  at_rest = λ rest. q.at_rest (p.at_rest rest);
  clean = λ clean. p.clean (q.clean clean);
  live = λ clean opened. p.live (q.clean clean) (q.live clean opened);
  shows = λ rest clean opened. q.shows (p.at_rest rest) clean opened ∙ p.shows rest (q.clean clean) (q.live clean opened);
  crash = λ clean opened trees left.
      let mid = q.clean clean in
      p.crash mid opened trees (q.crash clean (same mid opened).0.is_open trees left);
  counts = omega (arith, p.counts, q.counts);
  limit = q.limit ∙ p.limit;
}

-- a call that gave no answer
pub may_end : {Stands : Database → Tables → Type 0} {A C E G : Type 0} {Was : Tables → A → Type 0} {Then : Tables → C → Type 0} {old new : State} {r : Result A E} → ReadsAs Stands Was old new r
    → (end : Result C G) (Q : G → Type 0) → IsErrAnd end Q → ReadsAs Stands Then old new end
may_end it (Ok c) Q failed = absurd failed
may_end it (Err e) Q failed = record { passes = it.passes; shows = λ _. tt; same = λ _ _. tt; answer = λ _ _ _. tt }

-- the answer in other words
pub reads_as : {Stands : Database → Tables → Type 0} {A E : Type 0} {Was Then : Tables → A → Type 0} {old new : State} {r : Result A E} → ReadsAs Stands Was old new r
    → ((t : Tables) (a : A) → Was t a → Then t a) → ReadsAs Stands Then old new r
reads_as {r = r} it f = record { passes = it.passes; shows = it.shows; same = it.same; answer = λ t file clean. if_then r (f t) (it.answer t file clean) }

module _ {Stands : Database → Tables → Type 0} {A E : Type 0} {Was : Tables → A → Type 0} {old mid : State} {a : A} (it : ReadsAs Stands {E = E} Was old mid (Ok a)) where
  -- what is made of an answer
  pub may_and : {B F : Type 0} {Then : Tables → B → Type 0} {r : Result B F} → ((t : Tables) → Stands old.now t → Was t a → IfOk r (Then t))
      → ReadsAs Stands Then old mid r
  may_and {r = r} f = record {
    passes = it.passes;
    shows = λ clean. on_ok r (it.shows clean);
    same = λ clean opened. on_ok r (it.same clean opened);
    answer = λ t file clean. f t file (it.answer t file clean);
  }

  -- another call after it
  pub may_then : {B F : Type 0} {Is Then : Tables → B → Type 0} {new : State} {r : Result B F} → ReadsAs Stands Is mid new r
      → ((t : Tables) → Stands old.now t → Was t a → (b : B) → Is t b → Then t b) → ReadsAs Stands Then old new r
  may_then {B} {F} {Is} {Then} {new} {r} next f = record {
    passes = passes_on old mid new it.passes next.passes it.same;
    shows = λ clean. let was = it.shows (next.passes.clean clean) in on_ok_then r (λ (is : new.now ≡ mid.now). is ∙ was) (next.shows clean);
    same = λ clean opened. let was = it.same (next.passes.clean clean) opened in on_ok_then r (unchanged_then old mid new was) (next.same clean was.0.is_open);
    answer = λ t file clean.
        let early = next.passes.clean clean in
        if_then r (f t file (it.answer t file early)) (next.answer t (stands_since Stands (it.shows early) t file) clean);
  }

  -- what is made of the answers of both
  pub may_both : {B C F G : Type 0} {Is : Tables → B → Type 0} {Then : Tables → C → Type 0} {new : State} {b : B} {r : Result C G}
      → ReadsAs Stands {E = F} Is mid new (Ok b)
      → ((t : Tables) → Stands old.now t → Was t a → Is t b → IfOk r (Then t)) → ReadsAs Stands Then old new r
  may_both {B} {C} {F} {G} {Is} {Then} {new} {b} {r} next f = record {
    passes = passes_on old mid new it.passes next.passes it.same;
    shows = λ clean. on_ok r (next.shows clean ∙ it.shows (next.passes.clean clean));
    same = λ clean opened. let was = it.same (next.passes.clean clean) opened in on_ok r (unchanged_then old mid new was (next.same clean was.0.is_open));
    answer = λ t file clean.
        let early = next.passes.clean clean in
        f t file (it.answer t file early) (next.answer t (stands_since Stands (it.shows early) t file) clean);
  }

  -- another call after it that fails
  pub may_fail : {B C F G : Type 0} {Is : Tables → B → Type 0} {Then : Tables → C → Type 0} {new : State} {r : Result B F} {e : G} → ReadsAs Stands Is mid new r
      → ReadsAs Stands {T = C} Then old new (Err e)
  may_fail {new = new} next = record {
    passes = passes_on old mid new it.passes next.passes it.same;
    shows = λ _. tt;
    same = λ _ _. tt;
    answer = λ _ _ _. tt;
  }

-- ---- of a file of one schema

-- what is read of a file of any schema is read of one of this
pub by_schema : {older : Older} {A E : Type 0} {Answer : Tables → A → Type 0} {old new : State} {r : Result A E} → ReadsOld Answer old new r → ReadsBy older Answer old new r
by_schema {older} it = record { passes = it.passes; shows = it.shows; same = it.same; answer = λ t file clean. it.answer t (older, file) clean }

-- where nothing is said of the answer
pub reads_bare : {Stands Other : Database → Tables → Type 0} {A E : Type 0} {Answer : Tables → A → Type 0} {old new : State} {r : Result A E} → ReadsAs Stands Answer old new r
    → ReadsAs Other (λ _ _. Unit {0}) old new r
reads_bare {r = r} it = record { passes = it.passes; shows = it.shows; same = it.same; answer = λ t file clean. any_ok r }
