-- Calls that read a file of an older schema, of what they are made, with the cause of what they tell of the store.
use Rattle.std.proofs.Common.{◌≡◌, ◌≤◌, inl, inr, ℕ, List, [], length, append-nil, Bool, true, false, None, IsTrue, Result, Ok, Err, IfOk, IfErr, refl, sym, ap, ◌∙◌, subst, arith}
use Rattle.std.specs.Prelude.{Vec, IsErrAnd, IsSome}
use Rattle.std.proofs.lemmas.Result.{IfErr-weaker}
use Rattle.std.specs.declared.alloc.Global.{Global}
use Rattle.sqlite_value.specs.Order.{Row}
use Rattle.sqlite_trees.specs.declared.error.StoreError.{StoreError}
use Rattle.sqlite_trees.specs.declared.error.StoreError.TheVariants.{OutOfMemory, Io, Corrupt, Full, Broken, Unstorable}
use Rattle.sqlite_resolve.specs.declared.compiled.Compiled.{Compiled}
use Rattle.sqlite_resolve.specs.Compile.{first}
use Rattle.sqlite_schema.specs.declared.command.Returning.{Returning}
use Rattle.sqlite.specs.declared.error.Error.{Error}
use Rattle.sqlite.specs.Clock.{timed}
use Rattle.sqlite.specs.Effect.{Database, RefusesToRead}
use Rattle.sqlite.specs.Listing.{understood, reads_listing, IsSourceOf}
use Rattle.sqlite.specs.State.{State, HasCleanDisk, IsUnchanged, IsNotRun, IsNoStatement, IsStatement, FailsToQuery, FailsToShow, Fails, HasCause, store_error}
use Rattle.lab_forms_texts.specs.declared.refusals.Fault.{Fault}
use Rattle.lab_records_keeper.specs.declared.faults.BadStore.{BadStore}
use Rattle.lab_records_keeper.specs.Worlds.{HasFaulted}
use Rattle.lab_store_tables.specs.Rows.{Tables}
use Rattle.lab_store_read.specs.Causes.{IsCaused}
use Rattle.lab_store_read.specs.Cells.{storage}
use Rattle.lab_store_read.specs.Faults.{store_fault}
use Rattle.lab_store_read.specs.Reads.{AsksQuery, FailsToAsk}
use Rattle.lab_store_read.proofs.Queries.{IsRead}
use Rattle.lab_move_tables.specs.Answering.{IsTaken}
use Rattle.lab_move_tables.specs.declared.older.Older.{Older}
use Rattle.lab_move_tables.specs.Showing.{ShowsOf}
use Rattle.lab_move_tables.specs.Standing.{StandsBy, StandsBySome}
use Rattle.lab_move_tables.specs.Reading.{ReadsAs, ReadsWhere, ReadsOldWhere, ReadsByWhere}
use Rattle.lab_move_tables.proofs.Bare.{understood_bare}
use Rattle.lab_move_tables.proofs.OldReaders.{rows_read, none_read, may_end, reads_as, may_and, may_then, may_both, may_fail, by_schema, stands_since}

-- ---- one query that the file takes

module _ {sql : List ℕ} {params : Row} (old new : State) (taken : IsTaken old.now sql params) (e : Error) (told : store_fault e ≡ storage) (limit : new.step_limit ≡ old.step_limit) where
  is_statement : ¬ IsNoStatement old sql params e
  is_statement (inl it) = absurd (let wrong = sym taken.is ∙ it.1 in cc)
  is_statement (inr it) =
      let both = sym taken.is ∙ it.1 in
      let same : taken.read ≡ it.0 = cc in
      elim it.2 [
        | inl long ↦ long.0 (subst (λ (c : Compiled). length sql ≤ c.tail) same taken.whole)
        | inr other ↦ elim other [
          | inl few ↦ few.0 (subst (λ (c : Compiled). length params ≡ length c.names) same taken.given)
          | inr clock ↦ clock.0 (subst (λ (c : Compiled). c.formats ≡ []) same taken.timeless)
        ]
      ]

  fails_so : Fails old new ⊥ e → IsCaused old new
  fails_so it = by it.0 it.1 it.2
    where
      by : (cause : StoreError) → e ≡ store_error cause → HasCause old new ⊥ cause → IsCaused old new
      by OutOfMemory is _ = absurd (let wrong = rw is at told in cc)
      by Io is fault = inl fault
      by Corrupt is fault = inl fault
      by Full is fault = inl fault
      by Broken is shut = inr (inl shut)
      by Unstorable is big = absurd big

  shows_so : IsRead (first sql) → (c : Compiled) (it : IsStatement old sql params c) → FailsToShow old new sql c (timed params c.formats it.now) e c.returning → IsCaused old new
  shows_so read c it h =
      let both = sym taken.is ∙ it.is in
      let same : taken.read ≡ c = cc in
      let bare : c.returning ≡ None = understood_bare sql read old.now.schema c it.is in
      let command = sym (ap (λ (k : Compiled). k.command) same) ∙ taken.selects in
      let timeless : c.formats ≡ [] = subst (λ (k : Compiled). k.formats ≡ []) same taken.timeless in
      let none = rw (bare, timeless, append-nil params, command) at h in
      elim none.2 [
        | inl mismatch ↦ absurd (taken.accepted none.0 none.1 e (inl mismatch))
        | inr other ↦ elim other [ inl over ↦ absurd (taken.accepted none.0 none.1 e (inr (inl over))) | inr few ↦ inr (inr (few.1, subst IsSome (sym limit) few.1)) ]
      ]

  pub query_so : IsRead (first sql) → FailsToQuery sql params old new e → IsCaused old new
  unfolding FailsToQuery IsNotRun
  query_so read (inl (inl it)) = absurd (is_statement it.0)
  query_so read (inl (inr it)) = fails_so it
  query_so read (inr it) = shows_so read it.0 it.1 it.2

pub rows_where : {Stands Readable : Database → Tables → Type 0} {old new : State} {sql : List ℕ} {params : Row} {r : Result (Vec Row Global) (Fault BadStore)} {Answer : Tables → Vec Row Global → Type 0}
    → IsRead (first sql) → AsksQuery sql params old new r
    → ((t : Tables) → Stands old.now t → (rows : Vec Row Global) → ShowsOf old.now sql params rows.items → Answer t rows)
    → ((t : Tables) → Readable old.now t → IsTaken old.now sql params) → ReadsWhere Stands Readable (λ fault. fault ≡ storage) Answer old new r
rows_where {old = old} {new = new} {sql = sql} {params = params} {r = r} read it exact taken = record {
  reads = rows_read read it exact;
  cause = λ t file readable clean. by r (taken t readable) (it.err clean);
}
  where
    by : (r : Result (Vec Row Global) (Fault BadStore)) → IsTaken old.now sql params → IfErr r (FailsToAsk sql params old new) → IfErr r (λ fault. fault ≡ storage → IsCaused old new)
    by (Ok rows) is h = tt
    by (Err fault) is h = λ told. query_so old new is h.0 (sym h.2 ∙ told) it.survives.limit read h.1

-- ---- no call

pub none_where : {Stands Readable : Database → Tables → Type 0} {A E : Type 0} {IsTold : E → Type 0} {Answer : Tables → A → Type 0} {s : State} {a : A} → ((t : Tables) → Answer t a)
    → ReadsWhere Stands Readable IsTold Answer s s (Ok a)
none_where it = record { reads = none_read it; cause = λ _ _ _ _. tt }

-- ---- a call that gave no answer, which another passes on

pub where_end : {Stands Readable Wanted : Database → Tables → Type 0} {A C E G : Type 0} {IsTold : E → Type 0} {IsTold2 : G → Type 0} {Was : Tables → A → Type 0} {Then : Tables → C → Type 0} {old new : State} {e : E}
    → ReadsWhere Stands Readable IsTold Was old new (Err e) → (end : Result C G) (Q : G → Type 0) → IsErrAnd end Q → ((g : G) → Q g → IsTold2 g → IsTold e)
    → ((t : Tables) → Wanted old.now t → Readable old.now t) → ReadsWhere Stands Wanted IsTold2 Then old new end
where_end it (Ok c) Q failed told f = absurd failed
where_end it (Err g) Q failed told f = record {
  reads = may_end it.reads (Err g) Q failed;
  cause = λ t file wanted clean is. it.cause t file (f t wanted) clean (told g failed is);
}

-- the answer in other words
pub where_as : {Stands Readable Wanted : Database → Tables → Type 0} {A E : Type 0} {IsTold : E → Type 0} {Was Then : Tables → A → Type 0} {old new : State} {r : Result A E} → ReadsWhere Stands Readable IsTold Was old new r
    → ((t : Tables) (a : A) → Was t a → Then t a) → ((t : Tables) → Wanted old.now t → Readable old.now t) → ReadsWhere Stands Wanted IsTold Then old new r
where_as it f g = record { reads = reads_as it.reads f; cause = λ t file wanted clean. it.cause t file (g t wanted) clean }

-- ---- one call and then another

since : (first mid last : ℕ) → first ≤ mid → HasFaulted mid last → HasFaulted first last
since first mid last later faulted = omega (arith, later, faulted)

-- a cause of the second call is one of both
caused_since : (old mid new : State) → old.faults ≤ mid.faults → mid.step_limit ≡ old.step_limit → (IsTrue old.is_open → IsTrue mid.is_open) → IsCaused mid new → IsCaused old new
caused_since old mid new counts limit still (inl fault) = inl (since old.faults mid.faults new.faults counts fault)
caused_since old mid new counts limit still (inr (inl shut)) = opened old.is_open refl
  where
    opened : (b : Bool) → old.is_open ≡ b → IsCaused old new
    opened false was = inr (inl was)
    opened true was = absurd (let is = still was in cc)
caused_since old mid new counts limit still (inr (inr few)) = inr (inr (subst IsSome limit few.0, few.1))

module _ {Stands Readable : Database → Tables → Type 0} {A E : Type 0} {IsTold : E → Type 0} {Was : Tables → A → Type 0} {old mid : State} {a : A} (it : ReadsWhere Stands Readable IsTold Was old mid (Ok a)) where
  -- what is made of an answer, which tells of the store for nothing that is readable
  pub where_and : {Wanted : Database → Tables → Type 0} {B F : Type 0} {IsTold2 : F → Type 0} {Then : Tables → B → Type 0} {r : Result B F} → ((t : Tables) → Stands old.now t → Was t a → IfOk r (Then t))
      → ((t : Tables) → Stands old.now t → Wanted old.now t → Was t a → IfErr r (λ fault. ¬ IsTold2 fault)) → ReadsWhere Stands Wanted IsTold2 Then old mid r
  where_and {IsTold2 = IsTold2} {r = r} f u = record {
    reads = may_and it.reads f;
    cause = λ t file wanted clean.
        IfErr-weaker r (λ fault. ¬ IsTold2 fault) (λ fault. IsTold2 fault → IsCaused old mid) (λ fault none told. absurd (none told)) (u t file wanted (it.reads.answer t file clean));
  }

  module _ {B F : Type 0} {IsTold2 : F → Type 0} {Needed : Database → Tables → Type 0} {Is : Tables → B → Type 0} {new : State} where
    -- the cause of another call after it
    next_so : (Wanted : Database → Tables → Type 0) {r : Result B F} → ReadsWhere Stands Needed IsTold2 Is mid new r → ((t : Tables) → Stands old.now t → Wanted old.now t → Was t a → Needed old.now t)
        → (t : Tables) → Stands old.now t → Wanted old.now t → HasCleanDisk new → IfErr r (λ fault. IsTold2 fault → IsCaused old new)
    next_so Wanted {r} next g t file wanted clean =
        let early = next.reads.passes.clean clean in
        let same = it.reads.shows early in
        IfErr-weaker r (λ fault. IsTold2 fault → IsCaused mid new) (λ fault. IsTold2 fault → IsCaused old new)
        (λ fault why told. caused_since old mid new it.reads.passes.counts it.reads.passes.limit (λ opened. (it.reads.same early opened).0.is_open) (why told))
        (next.cause t (stands_since Stands same t file) (subst (λ (db : Database). Needed db t) (sym same) (g t file wanted (it.reads.answer t file early))) clean)

    -- another call after it
    pub where_then : {Wanted : Database → Tables → Type 0} {Then : Tables → B → Type 0} {r : Result B F} → ReadsWhere Stands Needed IsTold2 Is mid new r
        → ((t : Tables) → Stands old.now t → Was t a → (b : B) → Is t b → Then t b)
        → ((t : Tables) → Stands old.now t → Wanted old.now t → Was t a → Needed old.now t) → ReadsWhere Stands Wanted IsTold2 Then old new r
    where_then {Wanted} next f g = record {
      reads = may_then it.reads next.reads f;
      cause = next_so Wanted next g;
    }

    -- what is made of the answers of both
    pub where_both : {Wanted : Database → Tables → Type 0} {C G : Type 0} {IsTold3 : G → Type 0} {Then : Tables → C → Type 0} {b : B} {r : Result C G} → ReadsWhere Stands Needed IsTold2 Is mid new (Ok b)
        → ((t : Tables) → Stands old.now t → Was t a → Is t b → IfOk r (Then t))
        → ((t : Tables) → Stands old.now t → Wanted old.now t → Was t a → Is t b → IfErr r (λ fault. ¬ IsTold3 fault)) → ReadsWhere Stands Wanted IsTold3 Then old new r
    where_both {IsTold3 = IsTold3} {b = b} {r = r} next f u = record {
      reads = may_both it.reads next.reads f;
      cause = λ t file wanted clean.
          let early = next.reads.passes.clean clean in
          let same = it.reads.shows early in
          IfErr-weaker r (λ fault. ¬ IsTold3 fault) (λ fault. IsTold3 fault → IsCaused old new) (λ fault none told. absurd (none told))
          (u t file wanted (it.reads.answer t file early) (next.reads.answer t (stands_since Stands same t file) clean));
    }

    -- another call after it that fails
    pub where_fail : {Wanted : Database → Tables → Type 0} {C G : Type 0} {IsTold3 : G → Type 0} {Then : Tables → C → Type 0} {fault : F} {e : G} → ReadsWhere Stands Needed IsTold2 Is mid new (Err fault) → (IsTold3 e → IsTold2 fault)
        → ((t : Tables) → Stands old.now t → Wanted old.now t → Was t a → Needed old.now t) → ReadsWhere Stands Wanted {T = C} IsTold3 Then old new (Err e)
    where_fail {Wanted} next told g = record {
      reads = may_fail it.reads next.reads;
      cause = λ t file wanted clean is. next_so Wanted next g t file wanted clean (told is);
    }

-- ---- of a file of one schema

-- what is read of a file of any schema is read of one of this
pub where_by_schema : {older : Older} {Readable : Database → Tables → Type 0} {A E : Type 0} {IsTold : E → Type 0} {Answer : Tables → A → Type 0} {old new : State} {r : Result A E}
    → ReadsWhere StandsBySome Readable IsTold Answer old new r → ReadsWhere (StandsBy older) Readable IsTold Answer old new r
where_by_schema {older} it = record { reads = by_schema it.reads; cause = λ t file readable clean. it.cause t (older, file) readable clean }
