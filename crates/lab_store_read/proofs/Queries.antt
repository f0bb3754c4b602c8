-- What a query leaves, however it ends and whatever the schema of the file is: all as it was.
use Rattle.std.proofs.Common.{◌≡◌, ◌⊎◌, inl, inr, ℕ, List, ◌+◌, Bool, true, false, Some, None, Option, Ok, Err, Result, IfOk, IfErr, OnOk, IsTrue, refl, sym, ap, subst, ◌∙◌}
use Rattle.std.specs.Prelude.{Vec, if◌then◌else◌}
use Rattle.std.specs.declared.alloc.Global.{Global}
use Rattle.sqlite_value.specs.Order.{Row}
use Rattle.sqlite_trees.specs.Tree.{Trees}
use Rattle.sqlite_ast.specs.declared.Select.{Select}
use Rattle.sqlite_ast.specs.declared.Statement.{Statement}
use Rattle.sqlite_ast.specs.declared.Statement.TheVariants as written
use Rattle.sqlite_syntax.specs.declared.statement.Parsed.{Parsed}
use Rattle.sqlite_schema.specs.declared.command.Command.{Command}
use Rattle.sqlite_schema.specs.declared.command.Returning.{Returning}
use Rattle.sqlite_schema.specs.declared.schema.Schema.{Schema}
use Rattle.sqlite_resolve.specs.declared.compiled.Compiled.{Compiled}
use Rattle.sqlite_resolve.specs.declared.error.CompileError.TheVariants.{NoSuchTable}
use Rattle.sqlite_resolve.specs.Lowering.{Checked, and_then}
use Rattle.sqlite_resolve.specs.Compile.{first, compiled, planned, meaning, returning, timed, command, small, with_command}
use Rattle.sqlite.specs.declared.error.Error.{Error}
use Rattle.sqlite.specs.Clock as clock
use Rattle.sqlite.specs.Listing.{understood, if_select, is_select, listing_schema, reads_listing}
use Rattle.sqlite.specs.State.{State, HasCleanDisk, IsUnchanged, IsRolledBack, IsNotRun, Shown, ShowsRows, FailsToQuery, FailsToShow, Survives, CommitsShowing}
use Rattle.lab_forms_texts.specs.declared.refusals.Fault.{Fault}
use Rattle.lab_records_keeper.specs.declared.faults.BadStore.{BadStore}
use Rattle.lab_store_tables.specs.Ready.{IsAtRest, IsKept, PassesBy}
use Rattle.lab_store_tables.proofs.Shutting.{shuts_by}
use Rattle.lab_store_read.specs.Reads.{FailsToAsk}

-- ---- the text is a query without RETURNING, under any schema

abbrev pub IsRead : Checked Parsed → Type 0
IsRead (Ok p) = (it : Select) × (p.statement ≡ written.Select it)
IsRead (Err e) = ⊥

abbrev IsBare : Compiled → Type 0
IsBare c = c.returning ≡ None

-- what a statement is planned as, whose command is this
abbrev plan_by : Parsed → List (List ℕ) → Checked Command → Checked Compiled
plan_by p formats x = and_then (and_then (and_then x (λ k. Ok (k, None))) (λ found. Ok (formats, found))) (λ plan. Ok (with_command p plan))

bare_by : (p : Parsed) (formats : List (List ℕ)) (x : Checked Command) (c : Compiled) → plan_by p formats x ≡ Ok c → IsBare c
bare_by p formats (Ok k) c h = let same : with_command p (formats, (k, None)) ≡ c = cc in sym (ap (λ (it : Compiled). it.returning) same)
bare_by p formats (Err e) c h = absurd cc

abbrev plan_of : Schema → Parsed → Statement → Checked Compiled
plan_of s p st =
    let times = timed s p.formats st in
    and_then (and_then (and_then (returning s (small p.names + small times) st) (λ shown. and_then (command s p.formats (small p.names + small times) st) (λ k. Ok (k, shown)))) (λ found. Ok (times, found)))
    (λ plan. Ok (with_command p plan))

plan_is : (s : Schema) (p : Parsed) → and_then (planned s p) (λ plan. Ok (with_command p plan)) ≡ plan_of s p p.statement
unfolding planned meaning
plan_is s p = refl

query_plan_is : (s : Schema) (p : Parsed) (it : Select) → plan_of s p (written.Select it) ≡ plan_by p p.formats (command s p.formats (small p.names + small p.formats) (written.Select it))
unfolding returning timed
query_plan_is s p it = refl

bare_of : (s : Schema) (r : Checked Parsed) → IsRead r → (c : Compiled) → and_then r (λ p. and_then (planned s p) (λ plan. Ok (with_command p plan))) ≡ Ok c → IsBare c
bare_of s (Ok p) read c h = bare_by p p.formats (command s p.formats (small p.names + small p.formats) (written.Select read.0)) c (sym (plan_is s p ∙ ap (plan_of s p) read.1 ∙ query_plan_is s p read.0) ∙ h)
bare_of s (Err e) read c h = absurd read

compiled_bare : (sql : List ℕ) → IsRead (first sql) → (s : Schema) (c : Compiled) → compiled s sql ≡ Ok c → IsBare c
unfolding compiled
compiled_bare sql read s c h = bare_of s (first sql) read c h

selected : (r : Checked Compiled) (c : Compiled) → if_select r ≡ Ok c → r ≡ Ok c
selected (Ok it) c h = go (is_select it.command) h
  where
    go : (b : Bool) → ◌≡◌ {A = Checked Compiled} (if b then Ok it else Err NoSuchTable) (Ok c) → ◌≡◌ {A = Checked Compiled} (Ok it) (Ok c)
    go true e = e
    go false e = absurd cc
selected (Err e) c h = absurd cc

understood_bare : (sql : List ℕ) → IsRead (first sql) → (s : Schema) (c : Compiled) → understood s sql ≡ Ok c → IsBare c
unfolding understood
understood_bare sql read s c h = go (reads_listing s sql) h
  where
    go : (b : Bool) → ◌≡◌ {A = Checked Compiled} (if b then if_select (compiled listing_schema sql) else compiled s sql) (Ok c) → IsBare c
    go true e = compiled_bare sql read listing_schema c (selected (compiled listing_schema sql) c e)
    go false e = compiled_bare sql read s c e

-- ---- what it leaves

pub shown_open : (sql : List ℕ) (params : Row) (old new : State) (rows : List Row) → Shown sql params old new rows → IsTrue old.is_open
unfolding Shown
shown_open sql params old new rows h = go h.0.returning h.2
  where
    go : (what : Option Returning) → ShowsRows old new sql h.0 (clock.timed params h.0.formats h.1.now) rows what → IsTrue old.is_open
    go None it = it.3.0.was_open
    go (Some what) it = it.1.shown.was_open

fails_kept : (sql : List ℕ) (params : Row) (old new : State) (e : Error) → FailsToQuery sql params old new e → IsUnchanged old new ⊎ IsRolledBack old new
unfolding FailsToQuery IsNotRun
fails_kept sql params old new e (inl (inl it)) = inl it.1
fails_kept sql params old new e (inl (inr it)) = inr it.3
fails_kept sql params old new e (inr h) = go h.0.returning h.2
  where
    go : (what : Option Returning) → FailsToShow old new sql h.0 (clock.timed params h.0.formats h.1.now) e what → IsUnchanged old new ⊎ IsRolledBack old new
    go None it = inl it.3
    go (Some what) (inl it) = inl it.1
    go (Some what) (inr it) = inr it.3

shown_unchanged : (sql : List ℕ) → IsRead (first sql) → (params : Row) (old new : State) (rows : List Row) → Shown sql params old new rows → IsUnchanged old new
unfolding Shown
shown_unchanged sql read params old new rows h =
    let none = understood_bare sql read old.now.schema h.0 h.1.is in
    let it = subst (ShowsRows old new sql h.0 (clock.timed params h.0.formats h.1.now) rows) none h.2 in
    it.3

never_commits : (sql : List ℕ) → IsRead (first sql) → (params : Row) (s : State) (db : Trees) → ¬ CommitsShowing sql params s db
unfolding CommitsShowing
never_commits sql read params s db h = let none : h.0.returning ≡ None = understood_bare sql read s.now.schema h.0 h.1.is in absurd (let wrong = rw none at h.2 in cc)

kept_rows : (old new : State) → (HasCleanDisk new → HasCleanDisk old) → IsAtRest old → HasCleanDisk new → IsTrue new.is_open → IsUnchanged old new ⊎ IsRolledBack old new → new.now ≡ old.now
kept_rows old new before rest clean opened (inl it) = it.0.now_is
kept_rows old new before rest clean opened (inr it) = (it.undone opened).0 ∙ sym (rest.settled (before clean) (it.was_open opened))

kept_settled : (old new : State) → (HasCleanDisk new → HasCleanDisk old) → IsAtRest old → HasCleanDisk new → IsTrue new.is_open → IsUnchanged old new ⊎ IsRolledBack old new → new.now ≡ new.committed
kept_settled old new before rest clean opened (inl it) = it.0.now_is ∙ rest.settled (before clean) it.0.was_open ∙ sym it.0.committed_is
kept_settled old new before rest clean opened (inr it) = (it.undone opened).0 ∙ sym (it.undone opened).1

kept_open : (old new : State) → IsTrue new.is_open → IsUnchanged old new ⊎ IsRolledBack old new → IsTrue old.is_open
kept_open old new opened (inl it) = it.0.was_open
kept_open old new opened (inr it) = it.was_open opened

module _ (sql : List ℕ) (read : IsRead (first sql)) (params : Row) (old new : State) (before : HasCleanDisk new → HasCleanDisk old) where
  -- at Ok nothing has changed
  pub same : (r : Result (Vec Row Global) (Fault BadStore)) → IfOk r (λ rows. Shown sql params old new rows.items) → OnOk r (IsUnchanged old new)
  same (Ok rows) h = shown_unchanged sql read params old new rows.items h
  same (Err e) h = tt

  pub ends : (r : Result (Vec Row Global) (Fault BadStore)) → IfOk r (λ rows. Shown sql params old new rows.items) → IfErr r (FailsToAsk sql params old new)
      → IsUnchanged old new ⊎ IsRolledBack old new
  ends (Ok rows) ok err = inl (shown_unchanged sql read params old new rows.items ok)
  ends (Err fault) ok err = fails_kept sql params old new err.0 err.1

  pub passes : (r : Result (Vec Row Global) (Fault BadStore)) → (old.in_transaction ≡ false → new.in_transaction ≡ false)
      → (HasCleanDisk new → IfOk r (λ rows. Shown sql params old new rows.items)) → (HasCleanDisk new → IfErr r (FailsToAsk sql params old new))
      → Survives old new (CommitsShowing sql params old) → PassesBy old new
  passes r alone ok err survives = record {
    at_rest = rests;
    clean = before;
    live = λ clean opened. kept_open old new opened (ended clean);
    ready = λ ready. record {
      at_rest = rests ready.at_rest;
      kept = λ clean opened. subst IsKept (sym (kept_rows old new before ready.at_rest clean opened (ended clean))) (ready.kept (before clean) (kept_open old new opened (ended clean)));
    };
    crash = λ _ clean opened trees left. elim (survives.crash clean trees left) [ inl was ↦ was | inr commits ↦ absurd (never_commits sql read params old trees commits) ];
    shuts = shuts_by old new (CommitsShowing sql params old) survives;
  }
    where
      ended : HasCleanDisk new → IsUnchanged old new ⊎ IsRolledBack old new
      ended clean = ends r (ok clean) (err clean)

      rests : IsAtRest old → IsAtRest new
      rests rest = record { alone = alone rest.alone; settled = λ clean opened. kept_settled old new before rest clean opened (ended clean) }

pub if_then : {A E : Type 0} {P Q : A → Type 0} (r : Result A E) → ((a : A) → P a → Q a) → IfOk r P → IfOk r Q
if_then (Ok a) f h = f a h
if_then (Err e) f h = tt
