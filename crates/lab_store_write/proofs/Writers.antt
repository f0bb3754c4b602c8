-- Calls inside a transaction, of what they are made: a statement, a look-up, and one call after another.
use Rattle.std.proofs.Common.{◌≡◌, ◌⊎◌, inl, inr, ℕ, ℤ, ◌+◌, ◌<◌, ◌≤◌, List, [], ◌∷◌, take, get_or, length, IsTrue, Result, Ok, Err, IfOk, IfErr, refl, sym, ap, ◌∙◌, subst, arith}
use Rattle.std.proofs.lemmas.List.{take_all}
use Rattle.std.specs.Prelude.{Vec, IsErrAnd}
use Rattle.std.specs.declared.alloc.Global.{Global}
use Rattle.sqlite_value.specs.declared.value.Value.TheVariants.{Int}
use Rattle.sqlite_value.specs.Order.{Row}
use Rattle.sqlite_resolve.specs.Compile.{first}
use Rattle.sqlite.specs.declared.error.Error.{Error}
use Rattle.sqlite.specs.State.{State, HasCleanDisk, KeepsCommit, Survives, Executes, ExecutesInside, Shown, FailsToQuery, IsTooLate}
use Rattle.lab_store_tables.specs.Rows.{Tables}
use Rattle.lab_store_tables.specs.Changes.{InTurn}
use Rattle.lab_store_tables.specs.Held.{IsTyped}
use Rattle.lab_store_tables.specs.Ready.{tables_of}
use Rattle.lab_store_read.proofs.Queries.{IsRead, if_then}
use Rattle.lab_store_write.specs.Calls.{Steps, Stays, AnswersUnlessTrying, AnswersUnless, Finds, MadeFrom, CountsBelow}
use Rattle.lab_store_write.specs.Private.Calls.{AnswersCall, Writes, Becomes}
use Rattle.lab_store_write.specs.Causes.{is_reading, is_writing, statement, Statement, Tries, Anything, IsOurs, IsShown, IsRun, RunsInside, FailsTrying}
use Rattle.lab_store_write.specs.Private.Causes.{IsVain}
use Rattle.lab_store_write.proofs.AnyEndings.{FailsBy}
use Rattle.lab_store_write.proofs.Failing.{unmoved, still_on, fails_here, ran_badly, ran_badly_by, asked_badly_by, fails_trying, fails_behind_by}
use Rattle.lab_store_write.proofs.Inside.{Wrote, made_as, steps_weaker, steps_then, found_then, known_then, keeps_then, none_then, turns_none, turns_more}
use Rattle.lab_store_write.proofs.Lookups.{looked, looked_keeps}

module _ {T : Type 0} {lender : T → ℕ × ℕ} {state : T → State} {Beside : Error → Type 0} {tries : Tries} {old new : T} where
  -- ---- a statement

  -- that makes a step, by the number of rows that it returns; its parameters are given in other words
  pub wrote_as_by : (sql : List ℕ) (params : Row) → IsOurs is_writing sql params → ((t : Tables) → tries t (statement sql params) t) → (step : ℕ → Tables → Tables → Type 0) {given : Row} {r : Result ℕ Error}
      → Stays lender state old new → given ≡ params
      → (IsTrue (state old).in_transaction → HasCleanDisk (state new) → ExecutesInside 0 sql given (state old) (state new) r)
      → ((count : ℕ) → IsTyped (state old).now → Executes sql params (state old) (state new) (Ok count) → (t : Tables) × Wrote t (state new).now × step count (tables_of (state old)) t)
      → AnswersUnlessTrying Beside tries lender state step old new r
  wrote_as_by sql params ours own step {given} {r} stays same ran makes = record {
    stays = stays;
    made = λ inside clean. made_as sql params (state old) (state new) step r
        (subst (λ (row : Row). ExecutesInside 0 sql row (state old) (state new) r) same (ran inside clean)) makes;
    failed = λ inside clean typed. badly (still_on (state old) (state new) stays.survives inside clean typed) r
        (subst (λ (row : Row). ExecutesInside 0 sql row (state old) (state new) r) same (ran inside clean));
  }
    where
      badly : RunsInside (state old) (state new) → (r : Result ℕ Error) → ExecutesInside 0 sql params (state old) (state new) r → IfErr r (λ e. Beside e ⊎ FailsTrying tries state old new e)
      badly goes (Ok count) did = tt
      badly goes (Err e) did = inr (ran_badly_by state tries sql params ours old new e (own (tables_of (state old))) goes did)

  -- that makes these tables
  pub wrote_by : (sql : List ℕ) (params : Row) → IsOurs is_writing sql params → ((t : Tables) → tries t (statement sql params) t) → (made : Tables → Tables) {given : Row} {r : Result ℕ Error}
      → Stays lender state old new → given ≡ params
      → (IsTrue (state old).in_transaction → HasCleanDisk (state new) → ExecutesInside 0 sql given (state old) (state new) r)
      → ((count : ℕ) → IsTyped (state old).now → Executes sql params (state old) (state new) (Ok count) → Wrote (made (tables_of (state old))) (state new).now)
      → AnswersUnlessTrying Beside tries lender state (λ _. Becomes made) old new r
  wrote_by sql params ours own made stays same ran makes =
      wrote_as_by sql params ours own (λ _. Becomes made) stays same ran (λ count typed did. (made (tables_of (state old)), makes count typed did, refl))

  -- ---- a look-up

  -- whose rows are those that the tables show
  pub rows_found_by : (sql : List ℕ) → IsRead (first sql) → (params : Row) → IsOurs is_reading sql params → ((t : Tables) → tries t (statement sql params) t) → (answer : Tables → List Row)
      {given : Row} {r : Result (Vec Row Global) Error} → given ≡ params
      → lender new ≡ lender old → Survives (state old) (state new) (λ _. ⊥)
      → (HasCleanDisk (state new) → IfOk r (λ rows. Shown sql given (state old) (state new) rows.items))
      → (HasCleanDisk (state new) → IfErr r (λ e. FailsToQuery sql given (state old) (state new) e ⊎ IsTooLate sql given (state old) (state new) e))
      → ((rows : List Row) → IsTyped (state old).now → Shown sql params (state old) (state new) rows → rows ≡ answer (tables_of (state old)))
      → AnswersUnlessTrying Beside tries lender state (λ (rows : Vec Row Global). Finds (λ t. rows.items ≡ answer t)) old new r
  rows_found_by sql read params ours own answer {given} {r} is same survives ok err exact =
      let before : HasCleanDisk (state new) → HasCleanDisk (state old) = λ clean. omega (arith, survives.clean) in
      record {
        stays = record {
          same_lender = same;
          survives = survives;
          kept = λ inside clean. looked_keeps sql read given (state old) (state new) before r (ok clean) (err clean);
        };
        made = λ inside clean. looked sql read params (state old) (state new) before r answer inside exact
            (subst (λ (row : Row). IfOk r (λ rows. Shown sql row (state old) (state new) rows.items)) is (ok clean));
        failed = λ inside clean typed. badly (still_on (state old) (state new) survives inside clean typed) r
            (subst (λ (row : Row). IfErr r (λ e. FailsToQuery sql row (state old) (state new) e ⊎ IsTooLate sql row (state old) (state new) e)) is (err clean));
      }
    where
      badly : RunsInside (state old) (state new) → (r : Result (Vec Row Global) Error) → IfErr r (λ e. FailsToQuery sql params (state old) (state new) e ⊎ IsTooLate sql params (state old) (state new) e)
          → IfErr r (λ e. Beside e ⊎ FailsTrying tries state old new e)
      badly goes (Ok rows) err = tt
      badly goes (Err e) err = inr (asked_badly_by state tries sql params ours old new e (own (tables_of (state old))) goes err)

  -- one more than the rows that the tables show
  pub place_found_by : {sql : List ℕ} {parent : ℤ} → IsRead (first sql) → IsOurs is_reading sql (Int parent ∷ []) → ((t : Tables) → tries t (statement sql (Int parent ∷ [])) t)
      → (answer : Tables → List Row) (count : Tables → ℕ) {r : Result ℕ Error}
      → CountsBelow lender state sql parent old new r
      → ((rows : List Row) → IsTyped (state old).now → Shown sql (Int parent ∷ []) (state old) (state new) rows → rows ≡ answer (tables_of (state old)))
      → ((t : Tables) → length (answer t) ≡ count t)
      → AnswersUnlessTrying Beside tries lender state (λ (place : ℕ). Finds (λ t. place ≡ count t + 1)) old new r
  place_found_by {sql} {parent} read ours own answer count {r} it exact counts = record {
    stays = record { same_lender = it.same_lender; survives = it.survives; kept = λ inside clean. keeps r (it.ok clean) (it.err clean) };
    made = λ inside clean. makes inside r (it.ok clean);
    failed = λ inside clean typed. badly (still_on (state old) (state new) it.survives inside clean typed) r (it.err clean);
  }
    where
      before : HasCleanDisk (state new) → HasCleanDisk (state old)
      before clean = let s = it.survives in omega (arith, s.clean)

      badly : RunsInside (state old) (state new) → (r : Result ℕ Error) → IfErr r (λ e. FailsToQuery sql (Int parent ∷ []) (state old) (state new) e ⊎ IsTooLate sql (Int parent ∷ []) (state old) (state new) e)
          → IfErr r (λ e. Beside e ⊎ FailsTrying tries state old new e)
      badly goes (Ok place) err = tt
      badly goes (Err e) err = inr (asked_badly_by state tries sql (Int parent ∷ []) ours old new e (own (tables_of (state old))) goes err)

      keeps : (r : Result ℕ Error) → IfOk r (λ place. (rows : Vec Row Global) × Shown sql (Int parent ∷ []) (state old) (state new) rows.items × (place ≡ length rows.items + 1))
          → IfErr r (λ e. FailsToQuery sql (Int parent ∷ []) (state old) (state new) e ⊎ IsTooLate sql (Int parent ∷ []) (state old) (state new) e)
          → KeepsCommit (state old) (state new)
      keeps (Ok place) ok err = looked_keeps sql read (Int parent ∷ []) (state old) (state new) before (Ok ok.0) ok.1 tt
      keeps (Err e) ok err = looked_keeps sql read (Int parent ∷ []) (state old) (state new) before (Err e) tt err

      makes : IsTrue (state old).in_transaction → (r : Result ℕ Error)
          → IfOk r (λ place. (rows : Vec Row Global) × Shown sql (Int parent ∷ []) (state old) (state new) rows.items × (place ≡ length rows.items + 1))
          → IfOk r (λ place. Steps (Finds (λ t. place ≡ count t + 1)) (state old) (state new))
      makes inside (Ok place) ok =
          steps_weaker (Finds (λ t. ok.0.items ≡ answer t)) (Finds (λ t. place ≡ count t + 1)) (state old) (state new)
          (λ was then found. (ok.2 ∙ ap (λ (n : ℕ). n + 1) (ap length found.0 ∙ counts was), found.1))
          (looked sql read (Int parent ∷ []) (state old) (state new) before (Ok ok.0) answer inside exact ok.1)
      makes inside (Err e) ok = tt

  -- ---- a call

  -- the step in other words
  pub answers_as : {A : Type 0} {P Q : A → Tables → Tables → Type 0} {r : Result A Error} → AnswersUnlessTrying Beside tries lender state P old new r
      → ((x : A) → Steps (P x) (state old) (state new) → Steps (Q x) (state old) (state new)) → AnswersUnlessTrying Beside tries lender state Q old new r
  answers_as {r = r} it f = record { stays = it.stays; made = λ inside clean. if_then r f (it.made inside clean); failed = it.failed }

  -- and what is tried
  pub tries_as : {more : Tries} {A : Type 0} {P : A → Tables → Tables → Type 0} {r : Result A Error}
      → ((before : Tables) (tried : Statement) (at : Tables) → tries before tried at → more before tried at)
      → AnswersUnlessTrying Beside tries lender state P old new r → AnswersUnlessTrying Beside more lender state P old new r
  tries_as {more} {r = r} own it = record { stays = it.stays; made = it.made; failed = λ inside clean typed. go r (it.failed inside clean typed) }
    where
      go : {A : Type 0} (r : Result A Error) → IfErr r (λ e. Beside e ⊎ FailsTrying tries state old new e) → IfErr r (λ e. Beside e ⊎ FailsTrying more state old new e)
      go (Ok x) bad = tt
      go (Err e) (inl beside) = inl beside
      go (Err e) (inr why) = inr (fails_trying state more old new e (own (tables_of (state old))) why)

  -- of which nothing is said
  pub untold : {A : Type 0} {P : A → Tables → Tables → Type 0} {r : Result A Error} → AnswersUnlessTrying Beside tries lender state P old new r → AnswersUnless Beside lender state P old new r
  untold it = tries_as {more = Anything} (λ _ _ _ _. tt) it

-- where nothing is said of what is tried
module _ {T : Type 0} {lender : T → ℕ × ℕ} {state : T → State} {Beside : Error → Type 0} {old new : T} where
  pub wrote_as : (sql : List ℕ) (params : Row) → IsOurs is_writing sql params → (step : ℕ → Tables → Tables → Type 0) {given : Row} {r : Result ℕ Error} → Stays lender state old new → given ≡ params
      → (IsTrue (state old).in_transaction → HasCleanDisk (state new) → ExecutesInside 0 sql given (state old) (state new) r)
      → ((count : ℕ) → IsTyped (state old).now → Executes sql params (state old) (state new) (Ok count) → (t : Tables) × Wrote t (state new).now × step count (tables_of (state old)) t)
      → AnswersUnless Beside lender state step old new r
  wrote_as sql params ours step stays same ran makes = wrote_as_by {tries = Anything} sql params ours (λ _. tt) step stays same ran makes

  pub wrote : (sql : List ℕ) (params : Row) → IsOurs is_writing sql params → (made : Tables → Tables) {given : Row} {r : Result ℕ Error} → Stays lender state old new → given ≡ params
      → (IsTrue (state old).in_transaction → HasCleanDisk (state new) → ExecutesInside 0 sql given (state old) (state new) r)
      → ((count : ℕ) → IsTyped (state old).now → Executes sql params (state old) (state new) (Ok count) → Wrote (made (tables_of (state old))) (state new).now)
      → AnswersUnless Beside lender state (λ _. Becomes made) old new r
  wrote sql params ours made stays same ran makes = wrote_by {tries = Anything} sql params ours (λ _. tt) made stays same ran makes

  pub rows_found : (sql : List ℕ) → IsRead (first sql) → (params : Row) → IsOurs is_reading sql params → (answer : Tables → List Row) {given : Row} {r : Result (Vec Row Global) Error} → given ≡ params
      → lender new ≡ lender old → Survives (state old) (state new) (λ _. ⊥)
      → (HasCleanDisk (state new) → IfOk r (λ rows. Shown sql given (state old) (state new) rows.items))
      → (HasCleanDisk (state new) → IfErr r (λ e. FailsToQuery sql given (state old) (state new) e ⊎ IsTooLate sql given (state old) (state new) e))
      → ((rows : List Row) → IsTyped (state old).now → Shown sql params (state old) (state new) rows → rows ≡ answer (tables_of (state old)))
      → AnswersUnless Beside lender state (λ (rows : Vec Row Global). Finds (λ t. rows.items ≡ answer t)) old new r
  rows_found sql read params ours answer is same survives ok err exact = rows_found_by {tries = Anything} sql read params ours (λ _. tt) answer is same survives ok err exact

  pub place_found : {sql : List ℕ} {parent : ℤ} → IsRead (first sql) → IsOurs is_reading sql (Int parent ∷ []) → (answer : Tables → List Row) (count : Tables → ℕ) {r : Result ℕ Error}
      → CountsBelow lender state sql parent old new r
      → ((rows : List Row) → IsTyped (state old).now → Shown sql (Int parent ∷ []) (state old) (state new) rows → rows ≡ answer (tables_of (state old)))
      → ((t : Tables) → length (answer t) ≡ count t)
      → AnswersUnless Beside lender state (λ (place : ℕ). Finds (λ t. place ≡ count t + 1)) old new r
  place_found read ours answer count it exact counts = place_found_by {tries = Anything} read ours (λ _. tt) answer count it exact counts

-- the rows of a look-up, as it shows them
pub shown_rows : (old new : State) (sql : List ℕ) (params : Row) {given : Row} → IsOurs is_reading sql params → given ≡ params → (r : Result (Vec Row Global) Error) → (HasCleanDisk new → IfOk r (λ rows. Shown sql given old new rows.items))
    → HasCleanDisk new → IfOk r (λ rows. IsShown (statement sql params) old new rows.items)
shown_rows old new sql params {given} ours same r ok clean =
    if_then r (λ rows shown. record { ours = ours; shown = subst (λ (row : Row). Shown sql row old new rows.items) same shown }) (ok clean)

-- how many rows a statement has written
pub ran_so : (old new : State) (sql : List ℕ) (params : Row) {given : Row} → IsOurs is_writing sql params → given ≡ params → (r : Result ℕ Error) → ExecutesInside 0 sql given old new r
    → IfOk r (IsRun (statement sql params) old new)
ran_so old new sql params {given} ours same (Ok count) ran = record { ours = ours; ran = subst (λ (row : Row). ExecutesInside 0 sql row old new (Ok count)) same ran }
ran_so old new sql params ours same (Err e) ran = tt

-- a statement that was refused, and that is passed on
pub run_fails : {T A : Type 0} {lender : T → ℕ × ℕ} {state : T → State} {Beside : Error → Type 0} {step : A → Tables → Tables → Type 0} {a b : T} {e : Error} (sql : List ℕ) (params : Row) {given : Row}
    → IsOurs is_writing sql params → given ≡ params → Stays lender state a b → (IsTrue (state a).in_transaction → HasCleanDisk (state b) → ExecutesInside 0 sql given (state a) (state b) (Err e))
    → (r : Result A Error) → IsErrAnd r (λ d. d ≡ e) → AnswersUnless Beside lender state step a b r
run_fails sql params ours same stays ran (Ok x) failed = absurd failed
run_fails {state = state} {Beside = Beside} {a = a} {b = b} {e = e} sql params {given} ours same stays ran (Err d) failed = record {
  stays = stays;
  made = λ inside clean. tt;
  failed = λ inside clean typed. subst (λ (d : Error). Beside d ⊎ FailsBy state a b d) (sym failed) (inr (ran_badly state sql given (subst (IsOurs is_writing sql) (sym same) ours) a b e (still_on (state a) (state b) stays.survives inside clean typed) (ran inside clean)));
}

-- ---- no call

module _ {T : Type 0} {lender : T → ℕ × ℕ} {state : T → State} (a : T) where
  pub nothing_done : Stays lender state a a
  nothing_done = record {
    same_lender = refl;
    survives = unmoved (state a);
    kept = λ inside clean. record { was_open = λ opened. opened; committed = λ _. refl };
  }

  module _ {Beside : Error → Type 0} {tries : Tries} {A : Type 0} {step : A → Tables → Tables → Type 0} where
    -- a step that takes nothing
    pub nothing_asked : {x : A} → (IsTrue (state a).in_transaction → Steps (step x) (state a) (state a)) → AnswersUnlessTrying Beside tries lender state step a a (Ok x)
    nothing_asked f = record { stays = nothing_done; made = λ inside clean. f inside; failed = λ inside clean typed. tt }

    -- a failure before any call
    pub not_asked : {e : Error} → Beside e ⊎ FailsTrying tries state a a e → (r : Result A Error) → IsErrAnd r (λ d. d ≡ e) → AnswersUnlessTrying Beside tries lender state step a a r
    not_asked why (Ok x) failed = absurd failed
    not_asked why (Err d) failed = record {
      stays = nothing_done;
      made = λ inside clean. tt;
      failed = λ inside clean typed. subst (λ (d : Error). Beside d ⊎ FailsTrying tries state a a d) (sym failed) why;
    }

-- ---- one call and then another

module _ {T : Type 0} {lender : T → ℕ × ℕ} {state : T → State} {b c : T} where
  clean_before : Stays lender state b c → HasCleanDisk (state c) → HasCleanDisk (state b)
  clean_before q clean = let s = q.survives in omega (arith, s.clean)

module _ {T : Type 0} {lender : T → ℕ × ℕ} {state : T → State} {a b c : T} where
  pub stays_then : Stays lender state a b → (IsTrue (state a).in_transaction → HasCleanDisk (state b) → IsTrue (state b).in_transaction)
      → Stays lender state b c → Stays lender state a c
  stays_then p on q = record {
    same_lender = q.same_lender ∙ p.same_lender;
    survives = none_then (state a) (state b) (state c) p.survives q.survives;
    kept = λ inside clean.
        let early = clean_before q clean in
        keeps_then (state a) (state b) (state c) (p.kept inside early) (q.kept (on inside early) clean);
  }

-- the failure of a call is that of one that passes it on, and may try so much
module _ {T A : Type 0} {lender : T → ℕ × ℕ} {state : T → State} {Beside : Error → Type 0} {tries : Tries} {P : A → Tables → Tables → Type 0} {a b : T} {e : Error}
    (p : AnswersUnlessTrying Beside tries lender state P a b (Err e)) where
  pub fails_so_by : {more : Tries} {B : Type 0} {Q : B → Tables → Tables → Type 0} → ((before : Tables) (tried : Statement) (at : Tables) → tries before tried at → more before tried at)
      → (r : Result B Error) → IsErrAnd r (λ d. d ≡ e) → AnswersUnlessTrying Beside more lender state Q a b r
  fails_so_by own (Ok x) failed = absurd failed
  fails_so_by {more} own (Err d) failed = record {
    stays = p.stays;
    made = λ inside clean. tt;
    failed = λ inside clean typed. subst (λ (d : Error). Beside d ⊎ FailsTrying more state a b d) (sym failed) (go (p.failed inside clean typed));
  }
    where
      go : Beside e ⊎ FailsTrying tries state a b e → Beside e ⊎ FailsTrying more state a b e
      go (inl beside) = inl beside
      go (inr it) = inr (fails_trying state more a b e (own (tables_of (state a))) it)

  pub fails_so : {B : Type 0} {Q : B → Tables → Tables → Type 0} (r : Result B Error) → IsErrAnd r (λ d. d ≡ e) → AnswersUnless Beside lender state Q a b r
  fails_so r failed = fails_so_by {more = Anything} (λ _ _ _ _. tt) r failed

module _ {T A : Type 0} {lender : T → ℕ × ℕ} {state : T → State} {Kept : Error → Type 0} {found : Tries} {P : A → Tables → Tables → Type 0} {a b : T} {x : A}
    (p : AnswersUnlessTrying Kept found lender state P a b (Ok x)) where
  -- what is made of an answer
  pub and_so : {Beside : Error → Type 0} {tries : Tries} {B : Type 0} {Q : B → Tables → Tables → Type 0} {y : B}
      → (Steps (P x) (state a) (state b) → Steps (Q y) (state a) (state b)) → AnswersUnlessTrying Beside tries lender state Q a b (Ok y)
  and_so f = record { stays = p.stays; made = λ inside clean. f (p.made inside clean); failed = λ inside clean typed. tt }

  -- the step in other words
  pub as_step : {Q : Tables → Tables → Type 0} → (Steps (P x) (state a) (state b) → Steps Q (state a) (state b))
      → Writes lender state Q a b (Ok x)
  as_step f = and_so f

  -- a failure behind it, without another call
  pub fails_after : {Beside : Error → Type 0} {tries : Tries} {C : Type 0} {R : C → Tables → Tables → Type 0} {e : Error}
      → (IsTrue (state a).in_transaction → HasCleanDisk (state b) → IsTyped (state a).now → Beside e ⊎ FailsTrying tries state a b e)
      → (r : Result C Error) → IsErrAnd r (λ d. d ≡ e) → AnswersUnlessTrying Beside tries lender state R a b r
  fails_after why (Ok z) failed = absurd failed
  fails_after {Beside} {tries} why (Err d) failed = record {
    stays = p.stays;
    made = λ inside clean. tt;
    failed = λ inside clean typed. subst (λ (d : Error). Beside d ⊎ FailsTrying tries state a b d) (sym failed) (why inside clean typed);
  }

  -- another call after it, however that ends
  module _ {Beside : Error → Type 0} {tries : Tries} {B : Type 0} {Q : B → Tables → Tables → Type 0} {c : T} {s : Result B Error} (q : AnswersUnlessTrying Beside tries lender state Q b c s) where
    stays_both : Stays lender state a c
    stays_both = stays_then p.stays (λ inside clean. (p.made inside clean).inside) q.stays

    -- what that tries over the tables that the first made
    both_fail_by : (more : Tries) → ((before mid : Tables) (tried : Statement) (at : Tables) → P x before mid → tries mid tried at → more before tried at)
        → IsTrue (state a).in_transaction → HasCleanDisk (state c) → IsTyped (state a).now → IfErr s (λ e. Beside e ⊎ FailsTrying more state a c e)
    both_fail_by more own inside clean typed =
        let one = p.made inside (clean_before q.stays clean) in
        let done = one.made typed in
        behind (λ tried at it. own (tables_of (state a)) (tables_of (state b)) tried at done.1 it) s (q.failed one.inside clean done.0)
      where
        behind : ((tried : Statement) (at : Tables) → tries (tables_of (state b)) tried at → more (tables_of (state a)) tried at)
            → (s : Result B Error) → IfErr s (λ e. Beside e ⊎ FailsTrying tries state b c e) → IfErr s (λ e. Beside e ⊎ FailsTrying more state a c e)
        behind so (Ok y) bad = tt
        behind so (Err e) (inl beside) = inl beside
        behind so (Err e) (inr it) = inr (fails_behind_by state more a b c e so p.stays.survives it)

    -- and the answer is the other's
    pub and_its_by : {more : Tries} {R : B → Tables → Tables → Type 0}
        → ((before mid : Tables) (tried : Statement) (at : Tables) → P x before mid → tries mid tried at → more before tried at)
        → (Steps (P x) (state a) (state b) → IfOk s (λ y. Steps (Q y) (state b) (state c)) → IfOk s (λ z. Steps (R z) (state a) (state c)))
        → AnswersUnlessTrying Beside more lender state R a c s
    and_its_by {more} own f = record {
      stays = stays_both;
      made = λ inside clean. let one = p.made inside (clean_before q.stays clean) in f one (q.made one.inside clean);
      failed = both_fail_by more own;
    }

    pub and_its : {R : B → Tables → Tables → Type 0}
        → (Steps (P x) (state a) (state b) → IfOk s (λ y. Steps (Q y) (state b) (state c)) → IfOk s (λ z. Steps (R z) (state a) (state c)))
        → AnswersUnless Beside lender state R a c s
    and_its f = and_its_by {more = Anything} (λ _ _ _ _ _ _. tt) f

  -- it fails
  pub then_fails_by : {Beside : Error → Type 0} {tries more : Tries} {B C : Type 0} {Q : B → Tables → Tables → Type 0} {R : C → Tables → Tables → Type 0} {c : T} {e : Error}
      → AnswersUnlessTrying Beside tries lender state Q b c (Err e) → ((before mid : Tables) (tried : Statement) (at : Tables) → P x before mid → tries mid tried at → more before tried at)
      → (r : Result C Error) → IsErrAnd r (λ d. d ≡ e) → AnswersUnlessTrying Beside more lender state R a c r
  then_fails_by q own (Ok z) failed = absurd failed
  then_fails_by {Beside} {more = more} {c = c} q own (Err d) failed = record {
    stays = stays_both q;
    made = λ inside clean. tt;
    failed = λ inside clean typed. subst (λ (d : Error). Beside d ⊎ FailsTrying more state a c d) (sym failed) (both_fail_by q more own inside clean typed);
  }

  pub then_fails : {Beside : Error → Type 0} {tries : Tries} {B C : Type 0} {Q : B → Tables → Tables → Type 0} {R : C → Tables → Tables → Type 0} {c : T} {e : Error}
      → AnswersUnlessTrying Beside tries lender state Q b c (Err e) → (r : Result C Error) → IsErrAnd r (λ d. d ≡ e) → AnswersUnless Beside lender state R a c r
  then_fails q r failed = then_fails_by {more = Anything} q (λ _ _ _ _ _ _. tt) r failed

  -- it answers, and so do both
  module _ {Other : Error → Type 0} {later : Tries} {B : Type 0} {Q : B → Tables → Tables → Type 0} {c : T} {y : B} (q : AnswersUnlessTrying Other later lender state Q b c (Ok y)) where
    pub and_then : {Beside : Error → Type 0} {tries : Tries} {C : Type 0} {R : C → Tables → Tables → Type 0} {z : C}
        → (Steps (P x) (state a) (state b) → Steps (Q y) (state b) (state c) → Steps (R z) (state a) (state c))
        → AnswersUnlessTrying Beside tries lender state R a c (Ok z)
    and_then f = record {
      stays = stays_both q;
      made = λ inside clean. let one = p.made inside (clean_before q.stays clean) in f one (q.made one.inside clean);
      failed = λ inside clean typed. tt;
    }

    -- both as one
    pub both : AnswersCall lender state (λ (_ : Unit {0}) before after. (mid : Tables) × P x before mid × Q y mid after) a c (Ok tt)
    both = and_then (λ one two. steps_then (P x) (Q y) (λ before after. (mid : Tables) × P x before mid × Q y mid after) (state a) (state b) (state c) (λ before mid after first second. (mid, first, second)) one two)

    on_both : IsTrue (state a).in_transaction → HasCleanDisk (state c) → Steps (P x) (state a) (state b) × Steps (Q y) (state b) (state c)
    on_both inside clean = let one = p.made inside (clean_before q.stays clean) in (one, q.made one.inside clean)

    module _ {Last : Error → Type 0} {third : Tries} {C : Type 0} {R : C → Tables → Tables → Type 0} {d : T} {z : C} (t : AnswersUnlessTrying Last third lender state R c d (Ok z)) where
      stays_three : Stays lender state a d
      stays_three = stays_then (stays_both q) (λ inside clean. (on_both inside clean).1.inside) t.stays

      -- by what holds before it, too
      pub and_two_by : {Beside : Error → Type 0} {tries : Tries} {D : Type 0} {S : D → Tables → Tables → Type 0} {w : D}
          → (IsTrue (state a).in_transaction → HasCleanDisk (state b) → Steps (P x) (state a) (state b) → Steps (Q y) (state b) (state c)
          → Steps (R z) (state c) (state d) → Steps (S w) (state a) (state d))
          → AnswersUnlessTrying Beside tries lender state S a d (Ok w)
      and_two_by f = record {
        stays = stays_three;
        made = λ inside clean.
            let late = clean_before t.stays clean in
            let two = on_both inside late in
            f inside (clean_before q.stays late) two.0 two.1 (t.made two.1.inside clean);
        failed = λ inside clean typed. tt;
      }

      pub and_two : {Beside : Error → Type 0} {tries : Tries} {D : Type 0} {S : D → Tables → Tables → Type 0} {w : D}
          → (Steps (P x) (state a) (state b) → Steps (Q y) (state b) (state c) → Steps (R z) (state c) (state d) → Steps (S w) (state a) (state d))
          → AnswersUnlessTrying Beside tries lender state S a d (Ok w)
      and_two f = and_two_by (λ _ _. f)

    -- three more
    module _ {Last : Error → Type 0} {third : Tries} {C : Type 0} {R : C → Tables → Tables → Type 0} {d : T} {z : C} (t : AnswersUnlessTrying Last third lender state R c d (Ok z)) where
      pub and_three : {Final Beside : Error → Type 0} {fourth tries : Tries} {D I : Type 0} {S : D → Tables → Tables → Type 0} {U : I → Tables → Tables → Type 0} {e : T} {w : D} {v : I}
          → AnswersUnlessTrying Final fourth lender state S d e (Ok w)
          → (Steps (P x) (state a) (state b) → Steps (Q y) (state b) (state c) → Steps (R z) (state c) (state d)
          → Steps (S w) (state d) (state e) → Steps (U v) (state a) (state e))
          → AnswersUnlessTrying Beside tries lender state U a e (Ok v)
      and_three u f = record {
        stays = stays_then (stays_three t) (λ inside clean. (on_three inside clean).2.inside) u.stays;
        made = λ inside clean. let three = on_three inside (clean_before u.stays clean) in f three.0 three.1 three.2 (u.made three.2.inside clean);
        failed = λ inside clean typed. tt;
      }
        where
          on_three : IsTrue (state a).in_transaction → HasCleanDisk (state d)
              → Steps (P x) (state a) (state b) × Steps (Q y) (state b) (state c) × Steps (R z) (state c) (state d)
          on_three inside clean = let two = on_both inside (clean_before t.stays clean) in (two.0, two.1, t.made two.1.inside clean)

-- the third call fails, or the fourth
module _ {T A B : Type 0} {lender : T → ℕ × ℕ} {state : T → State} {First Second : Error → Type 0} {found later : Tries} {P : A → Tables → Tables → Type 0} {Q : B → Tables → Tables → Type 0} {a b c : T}
    {x : A} {y : B} (p : AnswersUnlessTrying First found lender state P a b (Ok x)) (q : AnswersUnlessTrying Second later lender state Q b c (Ok y)) where
  module _ {third : Tries} {C : Type 0} {R : C → Tables → Tables → Type 0} {d : T} where
    pub then_third_fails_by : {Beside : Error → Type 0} {more : Tries} {D : Type 0} {S : D → Tables → Tables → Type 0} {e : Error}
        → AnswersUnlessTrying Beside third lender state R c d (Err e)
        → ((before mid late : Tables) (tried : Statement) (at : Tables) → P x before mid → Q y mid late → third late tried at → more before tried at)
        → (r : Result D Error) → IsErrAnd r (λ g. g ≡ e) → AnswersUnlessTrying Beside more lender state S a d r
    then_third_fails_by t own r failed = then_fails_by (both p q) t (λ before late tried at two it. own before two.0 late tried at two.1 two.2 it) r failed

    pub then_third_fails : {Beside : Error → Type 0} {D : Type 0} {S : D → Tables → Tables → Type 0} {e : Error}
        → AnswersUnlessTrying Beside third lender state R c d (Err e) → (r : Result D Error) → IsErrAnd r (λ g. g ≡ e) → AnswersUnless Beside lender state S a d r
    then_third_fails t r failed = then_fails (both p q) t r failed

    pub then_fourth_fails : {Third Beside : Error → Type 0} {fourth : Tries} {D I : Type 0} {S : D → Tables → Tables → Type 0} {U : I → Tables → Tables → Type 0} {f : T} {z : C} {e : Error}
        → AnswersUnlessTrying Third third lender state R c d (Ok z) → AnswersUnlessTrying Beside fourth lender state S d f (Err e)
        → (r : Result I Error) → IsErrAnd r (λ g. g ≡ e) → AnswersUnless Beside lender state U a f r
    then_fourth_fails t u r failed = then_fails (both (both p q) t) u r failed

    -- or the answer is that of the third, by what holds before it, too
    pub two_and_its : {Beside : Error → Type 0} {S : C → Tables → Tables → Type 0} {s : Result C Error} → AnswersUnlessTrying Beside third lender state R c d s
        → (IsTrue (state a).in_transaction → HasCleanDisk (state b) → Steps (P x) (state a) (state b) → Steps (Q y) (state b) (state c)
        → IfOk s (λ z. Steps (R z) (state c) (state d)) → IfOk s (λ w. Steps (S w) (state a) (state d)))
        → AnswersUnless Beside lender state S a d s
    two_and_its t f = record {
      stays = stays_both (both p q) t;
      made = λ inside clean.
          let late = clean_before t.stays clean in
          let two = on_both p q inside late in
          f inside (clean_before q.stays late) two.0 two.1 (t.made two.1.inside clean);
      failed = both_fail_by (both p q) t Anything (λ _ _ _ _ _ _. tt);
    }

-- ---- a row that is named by what a look-up shows

module _ {T : Type 0} {lender : T → ℕ × ℕ} {state : T → State} {Kept : Error → Type 0} {found : Tries} {answer : Tables → List Row} {a b : T} {rows : Vec Row Global}
    (p : AnswersUnlessTrying Kept found lender state (λ (rows : Vec Row Global). Finds (λ t. rows.items ≡ answer t)) a b (Ok rows)) where
  pub and_named_by : {Beside : Error → Type 0} {tries : Tries} {one : Statement} {B : Type 0} {Q : B → Tables → Tables → Type 0} {r : Result B Error}
      → ((t : Tables) → tries t one t)
      → (HasCleanDisk (state b) → IsShown one (state a) (state b) rows.items)
      → (Steps (Finds (λ t. rows.items ≡ answer t)) (state a) (state b) → IfOk r (λ y. Steps (Q y) (state a) (state b)))
      → ((t : Tables) → rows.items ≡ answer t → IfErr r (IsVain rows.items))
      → AnswersUnlessTrying Beside tries lender state Q a b r
  and_named_by {Beside} {tries} {one} {r = r} own shown f vain = record {
    stays = p.stays;
    made = λ inside clean. f (p.made inside clean);
    failed = λ inside clean typed. badly (still_on (state a) (state b) p.stays.survives inside clean typed) r (shown clean) (vain (tables_of (state a)) ((p.made inside clean).made typed).1.0);
  }
    where
      badly : {B : Type 0} → RunsInside (state a) (state b) → (r : Result B Error) → IsShown one (state a) (state b) rows.items → IfErr r (IsVain rows.items)
          → IfErr r (λ e. Beside e ⊎ FailsTrying tries state a b e)
      badly goes (Ok y) it bad = tt
      badly goes (Err e) it (inl memory) = inr (inl memory)
      badly goes (Err e) it (inr none) = inr (fails_here state tries one a b e (own (tables_of (state a))) goes (inr (record { told = none.0; vain = inr (rows.items, it, none.1) })))

  pub and_named : {Beside : Error → Type 0} {one : Statement} {B : Type 0} {Q : B → Tables → Tables → Type 0} {r : Result B Error}
      → (HasCleanDisk (state b) → IsShown one (state a) (state b) rows.items)
      → (Steps (Finds (λ t. rows.items ≡ answer t)) (state a) (state b) → IfOk r (λ y. Steps (Q y) (state a) (state b)))
      → ((t : Tables) → rows.items ≡ answer t → IfErr r (IsVain rows.items))
      → AnswersUnless Beside lender state Q a b r
  and_named shown f vain = and_named_by {tries = Anything} (λ _. tt) shown f vain

  -- a call after it fails, but not for what the rows rule out
  pub then_fails_apart_by : {Bad : Type 0} {Beside : Error → Type 0} {tries more : Tries} {B C : Type 0} {Q : B → Tables → Tables → Type 0} {R : C → Tables → Tables → Type 0} {c : T} {e : Error}
      → AnswersUnlessTrying (λ _. Bad) tries lender state Q b c (Err e) → ((t : Tables) → rows.items ≡ answer t → ¬ Bad)
      → ((t : Tables) (tried : Statement) (at : Tables) → rows.items ≡ answer t → tries t tried at → more t tried at)
      → (r : Result C Error) → IsErrAnd r (λ d. d ≡ e) → AnswersUnlessTrying Beside more lender state R a c r
  then_fails_apart_by q apart own (Ok z) failed = absurd failed
  then_fails_apart_by {Bad} {Beside} {tries} {more} {c = c} {e = e} q apart own (Err d) failed = record {
    stays = stays_then p.stays (λ inside clean. (p.made inside clean).inside) q.stays;
    made = λ inside clean. tt;
    failed = λ inside clean typed.
        let one = p.made inside (clean_before q.stays clean) in
        let done = one.made typed in
        subst (λ (d : Error). Beside d ⊎ FailsTrying more state a c d) (sym failed)
        (go (apart (tables_of (state a)) done.1.0)
        (λ tried at it. own (tables_of (state a)) tried at done.1.0 (subst (λ (t : Tables). tries t tried at) done.1.1 it)) (q.failed one.inside clean done.0));
  }
    where
      go : ¬ Bad → ((tried : Statement) (at : Tables) → tries (tables_of (state b)) tried at → more (tables_of (state a)) tried at)
          → Bad ⊎ FailsTrying tries state b c e → Beside e ⊎ FailsTrying more state a c e
      go none so (inl bad) = absurd (none bad)
      go none so (inr it) = inr (fails_behind_by state more a b c e so p.stays.survives it)

-- nothing is told beside its causes
pub beside_none : {T A : Type 0} {lender : T → ℕ × ℕ} {state : T → State} {Beside : Error → Type 0} {tries : Tries} {P : A → Tables → Tables → Type 0} {a b : T} {r : Result A Error}
    → AnswersUnlessTrying (λ _. ⊥) tries lender state P a b r → AnswersUnlessTrying Beside tries lender state P a b r
beside_none {state = state} {Beside = Beside} {tries = tries} {a = a} {b = b} {r = r} it = record { stays = it.stays; made = it.made; failed = λ inside clean typed. go r (it.failed inside clean typed) }
  where
    go : {A : Type 0} (r : Result A Error) → IfErr r (λ e. ⊥ ⊎ FailsTrying tries state a b e) → IfErr r (λ e. Beside e ⊎ FailsTrying tries state a b e)
    go (Ok x) bad = tt
    go (Err e) (inl none) = absurd none
    go (Err e) (inr why) = inr why

-- ---- a look-up, and a step that is given what was found

module _ {T A B : Type 0} {lender : T → ℕ × ℕ} {state : T → State} {Kept Beside : Error → Type 0} {found tries : Tries} (N : A → Tables → Type 0) {step : Tables → Tables → Type 0} {a b c : T} {x : A}
    {s : Result B Error} where
  pub and_given_by : {more : Tries} → ((before mid : Tables) (tried : Statement) (at : Tables) → Finds (N x) before mid → tries mid tried at → more before tried at)
      → AnswersUnlessTrying Kept found lender state (λ one. Finds (N one)) a b (Ok x) → AnswersUnlessTrying Beside tries lender state (λ _. MadeFrom (N x) step) b c s
      → AnswersUnlessTrying Beside more lender state (λ _. step) a c s
  and_given_by {more} own p q = and_its_by p q {more = more} own (λ there does. if_then s (λ _. found_then (N x) step (state a) (state b) (state c) there) does)

  pub and_given : AnswersUnlessTrying Kept found lender state (λ one. Finds (N one)) a b (Ok x) → AnswersUnlessTrying Beside tries lender state (λ _. MadeFrom (N x) step) b c s
      → AnswersUnless Beside lender state (λ _. step) a c s
  and_given p q = and_its p q (λ there does. if_then s (λ _. found_then (N x) step (state a) (state b) (state c) there) does)

  pub and_known : (K : Tables → Type 0) → AnswersUnlessTrying Kept found lender state (λ one. Finds (λ t. K t → N one t)) a b (Ok x)
      → AnswersUnlessTrying Beside tries lender state (λ _. MadeFrom (N x) step) b c s → AnswersUnless Beside lender state (λ _. MadeFrom K step) a c s
  and_known K p q = and_its p q (λ there does. if_then s (λ _. known_then K (N x) step (state a) (state b) (state c) there) does)

-- ---- calls in turn, for the items of a list

module _ {T A B : Type 0} {lender : T → ℕ × ℕ} {state : T → State} {Beside : Error → Type 0} {tries : Tries} (step : A → Tables → Tables → Type 0) where
  pub turns_begun : (a : T) (x : B) → AnswersUnlessTrying Beside tries lender state (λ _. InTurn step []) a a (Ok x)
  turns_begun a x = nothing_asked a (λ inside. turns_none step (state a) inside)

  module _ (xs : List A) (i : ℕ) {a b : T} {x : B} {Kept : Error → Type 0} {found : Tries} (p : AnswersUnlessTrying Kept found lender state (λ (_ : B). InTurn step (take i xs)) a b (Ok x)) where
    -- one item more
    pub turns_on : {Other : Error → Type 0} {later : Tries} {C : Type 0} {c : T} {y : C} (one : A) → one ≡ get_or xs i one → i < length xs → AnswersUnlessTrying Other later lender state (λ (_ : C). step one) b c (Ok y)
        → AnswersUnlessTrying Beside tries lender state (λ (_ : B). InTurn step (take (i + 1) xs)) a c (Ok x)
    turns_on {c = c} one is within q =
        and_then p q (λ so_far more. turns_more step xs i one within (state a) (state b) (state c) so_far
        (subst (λ (k : A). Steps (step k) (state b) (state c)) is more))

    pub turns_ended : length xs ≤ i → AnswersUnlessTrying Beside tries lender state (λ (_ : B). InTurn step xs) a b (Ok x)
    turns_ended all = and_so p (λ so_far. subst (λ (l : List A). Steps (InTurn step l) (state a) (state b)) (take_all i xs all) so_far)
