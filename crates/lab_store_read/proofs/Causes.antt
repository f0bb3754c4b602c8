-- A query of ours that failed: by want of memory, by the disk, because the connection was shut, or at a limit on its steps.
use Rattle.std.proofs.Common.{◌≡◌, inl, inr, ℕ, ◌≤◌, ◌<◌, List, [], ◌∷◌, length, get_or, append-nil, Bool, true, false, None, Ok, Err, Result, IfErr, IsTrue, refl, sym, ap, subst, subst₂, ◌∙◌, arith}
use Rattle.std.specs.Prelude.{Vec, All, IsErrAnd, IsSome}
use Rattle.std.proofs.lemmas.List.Elements.{All-head, All-same, All-rest}
use Rattle.std.proofs.lemmas.Result.{IfErr-weaker}
use Rattle.std.specs.declared.alloc.Global.{Global}
use Rattle.sqlite_value.specs.Order.{Row}
use Rattle.sqlite_trees.specs.declared.error.StoreError.{StoreError}
use Rattle.sqlite_trees.specs.declared.error.StoreError.TheVariants.{OutOfMemory, Io, Corrupt, Full, Broken, Unstorable}
use Rattle.sqlite_resolve.specs.declared.compiled.Compiled.{Compiled}
use Rattle.sqlite_resolve.specs.Lowering.{Checked}
use Rattle.sqlite_sql.specs.Query.{Query, has_no_fold}
use Rattle.sqlite_sql.specs.Program.{overlay}
use Rattle.sqlite_sql.proofs.QueryLemmas.{no_fold_overflows}
use Rattle.sqlite_typing.specs.Types.{accepts_program}
use Rattle.sqlite.specs.declared.error.Error.{Error}
use Rattle.sqlite.specs.Clock.{timed}
use Rattle.sqlite.specs.Effect.{Database, RefusesToRead, RefusesQuery}
use Rattle.sqlite.specs.Listing.{understood, reads_listing, IsSourceOf}
use Rattle.sqlite.specs.State.{State, HasCleanDisk, IsNotRun, IsNoStatement, IsStatement, FailsToQuery, FailsToShow, Fails, HasCause, store_error}
use Rattle.sqlite.proofs.Callers.{IsPlain, command_of}
use Rattle.lab_forms_texts.specs.declared.refusals.Fault.{Fault}
use Rattle.lab_forms_texts.specs.declared.refusals.Fault.TheVariants.{Refused, Memory}
use Rattle.lab_records_keeper.specs.declared.faults.BadStore.{BadStore}
use Rattle.lab_records_keeper.specs.Worlds.{HasFaulted}
use Rattle.lab_store_tables.specs.Schema.{lab_schema}
use Rattle.lab_store_tables.specs.Rows.{Tables, tables_in}
use Rattle.lab_store_tables.specs.Ready.{IsReady, Shuts, tables_of}
use Rattle.lab_store_read.specs.Faults.{store_fault}
use Rattle.lab_store_read.specs.Cells.{storage, IsNotMade}
use Rattle.lab_store_read.specs.Causes.{IsCaused, HasItsCause}
use Rattle.lab_store_read.specs.Reads.{AsksQuery, FailsToAsk, Reads, MayRead}
use Rattle.lab_store_read.proofs.Loops.{HasPut}
use Rattle.lab_store_read.proofs.Texts.{Means}

-- one statement, of so many parameters
abbrev pub IsOne : List ℕ → ℕ → Checked Compiled → Type 0
IsOne sql count (Ok c) = (length sql ≤ c.tail) × (count ≡ length c.names)
IsOne sql count (Err e) = ⊥

-- a query that these parameters fit, and that no database of ours refuses for its types or for a sum
pub record Fits (sql : List ℕ) (query : Query) (params : Row) : Type 0 where
  pub one : IsOne sql (length params) (understood lab_schema sql)
  pub taken : (db : Database) (e : Error) → db.schema ≡ lab_schema → ¬ RefusesQuery None db (record { lets = []; body = query }) params e

-- without groups and folds, of parameters of its types
pub fits_by : (sql : List ℕ) (query : Query) (params : Row) → IsOne sql (length params) (understood lab_schema sql) → accepts_program lab_schema [] query params ≡ true
    → query.group ≡ None → has_no_fold query.from ≡ true → Fits sql query params
fits_by sql query params one typed alone plain = record { one = one; taken = by }
  where
    by : (db : Database) (e : Error) → db.schema ≡ lab_schema → ¬ RefusesQuery None db (record { lets = []; body = query }) params e
    by db e ours (inl mismatch) = absurd (let wrong = rw (ours, typed) at mismatch.1 in cc)
    by db e ours (inr (inl over)) = elim over.1 [ inl group ↦ absurd (rw alone at group) | inr fold ↦ no_fold_overflows (overlay db.trees []) query.from (params ∷ []) plain fold ]
    by db e ours (inr (inr limit)) = absurd (let wrong = limit.1 in cc)

module _ {sql : List ℕ} {query : Query} {names : List (List ℕ)} {params : Row} (means : Means sql query names) (fits : Fits sql query params) (old new : State) where
  module _ (ours : old.now.schema ≡ lab_schema) (e : Error) (told : store_fault e ≡ storage) (limit : new.step_limit ≡ old.step_limit) where
    understood_as : (r : Checked Compiled) → understood old.now.schema sql ≡ r → understood lab_schema sql ≡ r
    understood_as r h = sym (ap (λ s. understood s sql) ours) ∙ h

    is_statement : ¬ IsNoStatement old sql params e
    is_statement (inl it) = subst (IsOne sql (length params)) (understood_as (Err it.0) it.1) fits.one
    is_statement (inr it) =
        let is = understood_as (Ok it.0) it.1 in
        let whole = subst (IsOne sql (length params)) is fits.one in
        let plain = subst IsPlain is means.plain in
        elim it.2 [
          | inl long ↦ long.0 whole.0
          | inr other ↦ elim other [ inl few ↦ few.0 whole.1 | inr clock ↦ clock.0 plain.1 ]
        ]

    fails_so : Fails old new ⊥ e → IsCaused old new
    fails_so it = by it.0 it.1 it.2
      where
        by : (cause : StoreError) → e ≡ store_error cause → HasCause old new ⊥ cause → IsCaused old new
        by OutOfMemory is _ = absurd (let wrong = rw is at told in cc)
        by Io is fault = inl fault
        by Corrupt is fault = inl fault
        by Full is fault = inl fault
        by Broken is shut = inr (inl shut)
        by Unstorable is big = absurd big

    refused_so : RefusesQuery old.step_limit old.now (record { lets = []; body = query }) params e → IsCaused old new
    refused_so (inl mismatch) = absurd (fits.taken old.now e ours (inl mismatch))
    refused_so (inr (inl over)) = absurd (fits.taken old.now e ours (inr (inl over)))
    refused_so (inr (inr few)) = inr (inr (few.1, subst IsSome (sym limit) few.1))

    shows_so : (c : Compiled) (it : IsStatement old sql params c) → FailsToShow old new sql c (timed params c.formats it.now) e c.returning → IsCaused old new
    shows_so c it h =
        let is = understood_as (Ok c) it.is in
        let plain = subst IsPlain is means.plain in
        let none = rw (plain.0, plain.1, append-nil params) at h in
        let db : none.0 ≡ old.now = subst (λ b. IsSourceOf b old.now none.0) (ap (λ s. reads_listing s sql) ours ∙ means.unlisted) none.1 in
        refused_so (subst₂ (λ k d. RefusesToRead old.step_limit k d params e) (sym (ap command_of is) ∙ means.command) db none.2)

    pub query_so : FailsToQuery sql params old new e → IsCaused old new
    unfolding FailsToQuery IsNotRun
    query_so (inl (inl it)) = absurd (is_statement it.0)
    query_so (inl (inr it)) = fails_so it
    query_so (inr it) = shows_so it.0 it.1 it.2

  -- one query of ours has its cause
  pub asks_so : {r : Result (Vec Row Global) (Fault BadStore)} → AsksQuery sql params old new r → HasItsCause (λ _. Unit {0}) old new r
  asks_so {r} it = record { limit = it.survives.limit; cause = λ ready clean _. by r ready clean (it.err clean) }
    where
      by : (r : Result (Vec Row Global) (Fault BadStore)) → IsReady old → HasCleanDisk new → IfErr r (FailsToAsk sql params old new)
          → IfErr r (λ fault. fault ≡ storage → IsCaused old new)
      by (Ok rows) ready clean h = tt
      by (Err fault) ready clean h = λ told. opened old.is_open refl told
        where
          opened : (b : Bool) → old.is_open ≡ b → fault ≡ storage → IsCaused old new
          opened false shut told = inr (inl shut)
          opened true is told = query_so (ready.kept (omega (arith, it.survives.clean)) is).typed.schema h.0 (sym h.2 ∙ told) it.survives.limit h.1

-- ---- what follows on an answer

-- where a value stands that is read, it isn't of the store that is told
pub made_there : {T : Type 0} (P : Type 0) {stood : Bool} → IsTrue stood → (r : Result T (Fault BadStore)) → IfErr r (IsNotMade stood) → IfErr r (λ fault. fault ≡ storage → P)
made_there P is (Ok one) h = tt
made_there P is (Err (Refused bad)) h = λ told. absurd (let wrong = rw is at h in cc)
made_there P is (Err Memory) h = λ told. absurd cc

-- where what is read is there, it isn't that fault that is told
pub made_if : {T F : Type 0} (one : F) (P : Type 0) {Has : Type 0} → Has → (r : Result T F) → IfErr r (λ fault. fault ≡ one → ¬ Has) → IfErr r (λ fault. fault ≡ one → P)
made_if one P has (Ok it) h = tt
made_if one P has (Err fault) h = λ told. absurd (h told has)

-- what is made of the answer of a call
pub made_so : {A B E : Type 0} {Was : Tables → A → Type 0} {Then : Tables → Type 0} {old mid : State} {a : A} {r : Result B (Fault BadStore)}
    → Reads {E = E} Was old mid (Ok a) → mid.step_limit ≡ old.step_limit
    → (Was (tables_of old) a → Then (tables_of old) → IfErr r (λ fault. fault ≡ storage → IsCaused old mid)) → HasItsCause Then old mid r
made_so it limit f = record { limit = limit; cause = λ ready clean readable. f (it.answer ready clean) readable }

-- a question mark that passes on the fault of what is made of the answer, which isn't readable
pub unread_so : {A B E : Type 0} {Was : Tables → A → Type 0} {Then : Tables → Type 0} {old mid : State} {a : A} → Reads {E = E} Was old mid (Ok a)
    → mid.step_limit ≡ old.step_limit → {fault : Fault BadStore} (end : Result B (Fault BadStore)) → IsErrAnd end (λ e. e ≡ fault)
    → (Was (tables_of old) a → Then (tables_of old) → fault ≡ storage → ⊥) → HasItsCause Then old mid end
unread_so it limit (Ok b) failed f = absurd failed
unread_so it limit (Err e) failed f = record { limit = limit; cause = λ ready clean readable told. absurd (f (it.answer ready clean) readable (sym failed ∙ told)) }

-- where nothing is told, there is nothing to have a cause
pub none_told : {B : Type 0} {Then : Tables → Type 0} {old new : State} {b : B} → new.step_limit ≡ old.step_limit → HasItsCause Then old new (Ok b)
none_told limit = record { limit = limit; cause = λ ready clean readable. tt }

-- nor where another fault than that of the store is told
pub other_told : {B : Type 0} {Then : Tables → Type 0} {old new : State} {fault : Fault BadStore} → new.step_limit ≡ old.step_limit → ¬ (fault ≡ storage)
    → HasItsCause {T = B} Then old new (Err fault)
other_told limit other = record { limit = limit; cause = λ ready clean readable told. absurd (other told) }

-- the cause in other words
pub cause_as : {A : Type 0} {Was Then : Tables → Type 0} {old new : State} {r : Result A (Fault BadStore)} → HasItsCause Was old new r
    → (Then (tables_of old) → Was (tables_of old)) → HasItsCause Then old new r
cause_as it f = record { limit = it.limit; cause = λ ready clean readable. it.cause ready clean (f readable) }

-- a call that fails with the fault of another one
pub fails_so_too : {A B : Type 0} {Was Then : Tables → Type 0} {old new : State} {fault : Fault BadStore} → HasItsCause {T = A} Was old new (Err fault)
    → (Then (tables_of old) → Was (tables_of old)) → HasItsCause {T = B} Then old new (Err fault)
fails_so_too it f = record { limit = it.limit; cause = λ ready clean readable. it.cause ready clean (f readable) }

-- the fault of a call that the end passes on
pub passed_on : {A B : Type 0} {Was Then : Tables → Type 0} {old new : State} {fault : Fault BadStore} → HasItsCause {T = A} Was old new (Err fault)
    → (Then (tables_of old) → Was (tables_of old)) → (end : Result B (Fault BadStore)) → IsErrAnd end (λ told. told ≡ fault) → HasItsCause Then old new end
passed_on it f (Ok b) failed = absurd failed
passed_on it f (Err e) failed = record { limit = it.limit; cause = λ ready clean readable told. it.cause ready clean (f readable) (sym failed ∙ told) }

pub passed_so : {A B : Type 0} {Then : Tables → Type 0} {old new : State} {fault : Fault BadStore} → HasItsCause {T = A} Then old new (Err fault)
    → (end : Result B (Fault BadStore)) → IsErrAnd end (λ told. told ≡ fault) → HasItsCause Then old new end
passed_so it end failed = passed_on it (λ readable. readable) end failed

-- ---- rows that are read one after another

among : {X : Type 0} (P : X → Type 0) (xs : List X) (i : ℕ) (x : X) → i < length xs → x ≡ get_or xs i x → All P xs → P x
among P xs i x below is all = subst P (sym is) (all i x below)

-- a row that isn't readable is one of them
pub one_unread : {B F X : Type 0} {one : F} (P : X → Type 0) (xs : List X) (i : ℕ) (x : X) → i < length xs → x ≡ get_or xs i x → {fault : F} → (fault ≡ one → ¬ P x)
    → (end : Result B F) → IsErrAnd end (λ e. e ≡ fault) → IfErr end (λ e. e ≡ one → ¬ All P xs)
one_unread P xs i x below is unread (Ok b) failed = tt
one_unread P xs i x below is unread (Err e) failed = λ told all. unread (sym failed ∙ told) (among P xs i x below is all)

-- ---- one call and then another

since : (first mid last : ℕ) → first ≤ mid → HasFaulted mid last → HasFaulted first last
since first mid last later faulted = omega (arith, later, faulted)

-- a cause of the second call is one of both
caused_since : (old mid new : State) → Shuts old mid → mid.step_limit ≡ old.step_limit → (IsTrue old.is_open → IsTrue mid.is_open) → IsCaused mid new → IsCaused old new
caused_since old mid new shuts limit still (inl fault) = inl (since old.faults mid.faults new.faults shuts.counts fault)
caused_since old mid new shuts limit still (inr (inl shut)) = opened old.is_open refl
  where
    opened : (b : Bool) → old.is_open ≡ b → IsCaused old new
    opened false was = inr (inl was)
    opened true was = absurd (let is = still was in cc)
caused_since old mid new shuts limit still (inr (inr few)) = inr (inr (subst IsSome limit few.0, few.1))

module _ {A E : Type 0} {Was : Tables → A → Type 0} {old mid : State} {a : A} (it : MayRead {E = E} Was old mid (Ok a)) (limit : mid.step_limit ≡ old.step_limit) where
  -- the cause of another call after it
  pub then_so : {B : Type 0} {Is : Tables → B → Type 0} {There Then : Tables → Type 0} {new : State} {r : Result B (Fault BadStore)}
      → MayRead Is mid new r → HasItsCause There mid new r → (Was (tables_of old) a → Then (tables_of old) → There (tables_of old)) → HasItsCause Then old new r
  then_so {B} {Is} {There} {Then} {new} {r} next so f = record {
    limit = so.limit ∙ limit;
    cause = λ ready clean readable.
        let early = next.passes.clean clean in
        IfErr-weaker r (λ fault. fault ≡ storage → IsCaused mid new) (λ fault. fault ≡ storage → IsCaused old new)
        (λ fault why told. caused_since old mid new it.passes.shuts limit (λ opened. (it.same early opened).0.is_open) (why told))
        (so.cause (it.passes.ready ready) clean (subst (λ (db : Database). There (tables_in db.trees)) (sym (it.shows early)) (f (it.answer ready early) readable)));
  }

-- ---- loops over rows, each of which is read by a call

-- the limit is as it was, and the rows that are left are readable where all are
pub record HasAsked {A : Type 0} (Has : Tables → A → Type 0) (rows left : List A) (old now : State) : Type 0 where
  pub limit : now.step_limit ≡ old.step_limit
  pub readable : (t : Tables) → All (Has t) rows → All (Has t) left

pub none_asked : {A : Type 0} (Has : Tables → A → Type 0) (rows left : List A) (s : State) → left ≡ rows → HasAsked Has rows left s s
none_asked Has rows left s same = record { limit = refl; readable = λ t all. All-same (Has t) left rows same all }

module _ {A : Type 0} {Has : Tables → A → Type 0} {rows left : List A} {old mid : State} (so : HasAsked Has rows left old mid) where
  pub one_asked : {one : A} {rest : List A} {new : State} → left ≡ one ∷ rest → new.step_limit ≡ mid.step_limit → HasAsked Has rows rest old new
  one_asked {one} {rest} steps limit = record { limit = limit ∙ so.limit; readable = λ t all. All-rest (Has t) one rest left steps (so.readable t all) }

  pub all_asked : {B : Type 0} {b : B} → HasItsCause {T = B} (λ t. All (Has t) rows) old mid (Ok b)
  all_asked = none_told so.limit

  -- the cause of the call for one of them, after those before it
  pub asked_fails : {B C : Type 0} {by : Tables → A → B} {begun made : List B} {Is : Tables → C → Type 0} {one : A} {rest : List A} {new : State} {r : Result C (Fault BadStore)}
      → HasPut by begun rows made left old mid → left ≡ one ∷ rest → MayRead Is mid new r → HasItsCause (λ t. Has t one) mid new r → HasItsCause (λ t. All (Has t) rows) old new r
  asked_fails {one = one} {rest = rest} put steps next why =
      then_so put.reads so.limit next why (λ was all. All-head (Has (tables_of old)) one rest (subst (All (Has (tables_of old))) steps (so.readable (tables_of old) all)))
