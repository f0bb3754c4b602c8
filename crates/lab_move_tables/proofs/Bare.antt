-- A query commits nothing, whatever the schema of the file is, and what it leaves is what was there.
use Rattle.std.proofs.Common.{◌≡◌, ◌⊎◌, inl, inr, ℕ, List, ◌+◌, Bool, true, false, None, Ok, Err, Result, IfOk, IfErr, IsTrue, refl, sym, ap, ◌∙◌}
use Rattle.std.specs.Prelude.{Vec, if◌then◌else◌}
use Rattle.std.specs.declared.alloc.Global.{Global}
use Rattle.sqlite_value.specs.Order.{Row}
use Rattle.sqlite_trees.specs.Tree.{Trees}
use Rattle.sqlite_ast.specs.declared.Select.{Select}
use Rattle.sqlite_ast.specs.declared.Statement.{Statement}
use Rattle.sqlite_ast.specs.declared.Statement.TheVariants as written
use Rattle.sqlite_syntax.specs.declared.statement.Parsed.{Parsed}
use Rattle.sqlite_schema.specs.declared.command.Command.{Command}
use Rattle.sqlite_schema.specs.declared.schema.Schema.{Schema}
use Rattle.sqlite_resolve.specs.declared.compiled.Compiled.{Compiled}
use Rattle.sqlite_resolve.specs.declared.error.CompileError.TheVariants.{NoSuchTable}
use Rattle.sqlite_resolve.specs.Lowering.{Checked, and_then}
use Rattle.sqlite_resolve.specs.Compile.{first, compiled, planned, meaning, returning, timed, command, small, with_command}
use Rattle.sqlite.specs.Listing.{understood, if_select, is_select, listing_schema, reads_listing}
use Rattle.sqlite.specs.State.{State, HasCleanDisk, IsUnchanged, IsRolledBack, Shown, Survives, CommitsShowing}
use Rattle.lab_forms_texts.specs.declared.refusals.Fault.{Fault}
use Rattle.lab_records_keeper.specs.declared.faults.BadStore.{BadStore}
use Rattle.lab_store_tables.specs.Ready.{IsAtRest}
use Rattle.lab_store_read.specs.Reads.{FailsToAsk}
use Rattle.lab_store_read.proofs.Queries.{IsRead, ends}
use Rattle.lab_move_tables.specs.Reading.{PassesOver}
use Rattle.lab_move_tables.specs.Showing.{ShowsOf}

abbrev IsBare : Compiled → Type 0
IsBare c = c.returning ≡ None

-- what a statement is planned as, whose command is this
abbrev plan_by : Parsed → List (List ℕ) → Checked Command → Checked Compiled
plan_by p formats x = and_then (and_then (and_then x (λ k. Ok (k, None))) (λ found. Ok (formats, found))) (λ plan. Ok (with_command p plan))

bare_by : (p : Parsed) (formats : List (List ℕ)) (x : Checked Command) (c : Compiled) → plan_by p formats x ≡ Ok c → IsBare c
bare_by p formats (Ok k) c h = let same : with_command p (formats, (k, None)) ≡ c = cc in sym (ap (λ (it : Compiled). it.returning) same)
bare_by p formats (Err e) c h = absurd cc

abbrev plan_of : Schema → Parsed → Statement → Checked Compiled
plan_of s p st =
    let times = timed s p.formats st in
    and_then (and_then (and_then (returning s (small p.names + small times) st) (λ shown. and_then (command s p.formats (small p.names + small times) st) (λ k. Ok (k, shown)))) (λ found. Ok (times, found)))
    (λ plan. Ok (with_command p plan))

plan_is : (s : Schema) (p : Parsed) → and_then (planned s p) (λ plan. Ok (with_command p plan)) ≡ plan_of s p p.statement
unfolding planned meaning
plan_is s p = refl

query_plan_is : (s : Schema) (p : Parsed) (it : Select) → plan_of s p (written.Select it) ≡ plan_by p p.formats (command s p.formats (small p.names + small p.formats) (written.Select it))
unfolding returning timed
query_plan_is s p it = refl

bare_of : (s : Schema) (r : Checked Parsed) → IsRead r → (c : Compiled) → and_then r (λ p. and_then (planned s p) (λ plan. Ok (with_command p plan))) ≡ Ok c → IsBare c
bare_of s (Ok p) read c h = bare_by p p.formats (command s p.formats (small p.names + small p.formats) (written.Select read.0)) c (sym (plan_is s p ∙ ap (plan_of s p) read.1 ∙ query_plan_is s p read.0) ∙ h)
bare_of s (Err e) read c h = absurd read

compiled_bare : (sql : List ℕ) → IsRead (first sql) → (s : Schema) (c : Compiled) → compiled s sql ≡ Ok c → IsBare c
unfolding compiled
compiled_bare sql read s c h = bare_of s (first sql) read c h

selected : (r : Checked Compiled) (c : Compiled) → if_select r ≡ Ok c → r ≡ Ok c
selected (Ok it) c h = go (is_select it.command) h
  where
    go : (b : Bool) → ◌≡◌ {A = Checked Compiled} (if b then Ok it else Err NoSuchTable) (Ok c) → ◌≡◌ {A = Checked Compiled} (Ok it) (Ok c)
    go true e = e
    go false e = absurd cc
selected (Err e) c h = absurd cc

pub understood_bare : (sql : List ℕ) → IsRead (first sql) → (s : Schema) (c : Compiled) → understood s sql ≡ Ok c → IsBare c
unfolding understood
understood_bare sql read s c h = go (reads_listing s sql) h
  where
    go : (b : Bool) → ◌≡◌ {A = Checked Compiled} (if b then if_select (compiled listing_schema sql) else compiled s sql) (Ok c) → IsBare c
    go true e = compiled_bare sql read listing_schema c (selected (compiled listing_schema sql) c e)
    go false e = compiled_bare sql read s c e

-- what a connection shows is what the question shows of its file, under any schema
pub shows_of : (sql : List ℕ) → IsRead (first sql) → (params : Row) (old new : State) (rows : List Row) → Shown sql params old new rows → ShowsOf old.now sql params rows
unfolding Shown
shows_of sql read params old new rows h =
    let bare : h.0.returning ≡ None = understood_bare sql read old.now.schema h.0 h.1.is in
    let it = rw bare at h.2 in
    record { read = h.0; is = h.1.is; source = it.0; from = it.1; moment = h.1.now; shown = it.2 }

never_commits : (sql : List ℕ) → IsRead (first sql) → (params : Row) (s : State) (db : Trees) → ¬ CommitsShowing sql params s db
unfolding CommitsShowing
never_commits sql read params s db h = let none : h.0.returning ≡ None = understood_bare sql read s.now.schema h.0 h.1.is in absurd (let wrong = rw none at h.2 in cc)

kept_rows : (old new : State) → (HasCleanDisk new → HasCleanDisk old) → IsAtRest old → HasCleanDisk new → IsTrue new.is_open → IsUnchanged old new ⊎ IsRolledBack old new → new.now ≡ old.now
kept_rows old new before rest clean opened (inl it) = it.0.now_is
kept_rows old new before rest clean opened (inr it) = (it.undone opened).0 ∙ sym (rest.settled (before clean) (it.was_open opened))

kept_settled : (old new : State) → (HasCleanDisk new → HasCleanDisk old) → IsAtRest old → HasCleanDisk new → IsTrue new.is_open → IsUnchanged old new ⊎ IsRolledBack old new → new.now ≡ new.committed
kept_settled old new before rest clean opened (inl it) = it.0.now_is ∙ rest.settled (before clean) it.0.was_open ∙ sym it.0.committed_is
kept_settled old new before rest clean opened (inr it) = (it.undone opened).0 ∙ sym (it.undone opened).1

kept_open : (old new : State) → IsTrue new.is_open → IsUnchanged old new ⊎ IsRolledBack old new → IsTrue old.is_open
kept_open old new opened (inl it) = it.0.was_open
kept_open old new opened (inr it) = it.was_open opened

-- however a query ends
pub passes : (sql : List ℕ) → IsRead (first sql) → (params : Row) (old new : State) → (HasCleanDisk new → HasCleanDisk old) → (r : Result (Vec Row Global) (Fault BadStore))
    → (old.in_transaction ≡ false → new.in_transaction ≡ false)
    → (HasCleanDisk new → IfOk r (λ rows. Shown sql params old new rows.items)) → (HasCleanDisk new → IfErr r (FailsToAsk sql params old new))
    → Survives old new (CommitsShowing sql params old) → PassesOver old new
passes sql read params old new before r alone ok err survives = record {
  at_rest = λ rest. record { alone = alone rest.alone; settled = λ clean opened. kept_settled old new before rest clean opened (ended clean) };
  clean = before;
  live = λ clean opened. kept_open old new opened (ended clean);
  shows = λ rest clean opened. kept_rows old new before rest clean opened (ended clean);
  crash = λ clean opened trees left. elim (survives.crash clean trees left) [ inl was ↦ was | inr commits ↦ absurd (never_commits sql read params old trees commits) ];
  counts = survives.counts;
  limit = survives.limit;
}
  where
    ended : HasCleanDisk new → IsUnchanged old new ⊎ IsRolledBack old new
    ended clean = ends sql read params old new before r (ok clean) (err clean)
