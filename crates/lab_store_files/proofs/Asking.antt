-- The question for the number of a schema: it only reads, whatever the schema of the file is, and in a
-- file of ours it shows one row with the number.
use Rattle.std.proofs.Common.{◌≡◌, ◌⊎◌, ◌≤◌, inl, inr, ℕ, List, [], ◌∷◌, map, filter, length, ◌+◌, Bool, true, false, ◌==◌, Some, None, Option, Ok, Err, Result, IfOk, IfErr, OnOk, IsTrue, refl, sym, ap, ap₂, subst, ◌∙◌, arith}
use Rattle.std.specs.Prelude.{Vec, if◌then◌else◌}
use Rattle.std.specs.declared.alloc.Global.{Global}
use Rattle.std.specs.List.{list_all}
use Rattle.std.specs.List.Sorted.{IsPermutation}
use Rattle.std.proofs.lemmas.Bool.{eqb-true}
use Rattle.std.proofs.lemmas.List.{length-map}
use Rattle.std.proofs.lemmas.List.Sorted.{length_permutation}
use Rattle.sqlite_value.specs.declared.value.Value.TheVariants.{Null}
use Rattle.sqlite_value.specs.Order.{Row}
use Rattle.sqlite_trees.specs.Tree.{Trees}
use Rattle.sqlite_ast.specs.declared.Select.{Select}
use Rattle.sqlite_ast.specs.declared.Statement.{Statement}
use Rattle.sqlite_ast.specs.declared.Statement.TheVariants as written
use Rattle.sqlite_syntax.specs.declared.statement.Parsed.{Parsed}
use Rattle.sqlite_sql.specs.Program.{overlay}
use Rattle.sqlite_sql.specs.Term.{eval_all, holds}
use Rattle.sqlite_sql.specs.Group.{IsGrouped}
use Rattle.sqlite_sql.specs.Query.{Query, matches, Output, output, page, IsKept as IsDistinct, IsAnswer}
use Rattle.sqlite_schema.specs.declared.command.Command.{Command}
use Rattle.sqlite_schema.specs.declared.command.Returning.{Returning}
use Rattle.sqlite_schema.specs.declared.schema.Schema.{Schema}
use Rattle.sqlite_schema.specs.Names.{same_name}
use Rattle.sqlite_resolve.specs.declared.compiled.Compiled.{Compiled}
use Rattle.sqlite_resolve.specs.declared.error.CompileError.TheVariants.{NoSuchTable}
use Rattle.sqlite_resolve.specs.Lowering.{Checked, and_then}
use Rattle.sqlite_resolve.specs.Compile.{first, compiled, planned, meaning, returning, timed, command, small, with_command}
use Rattle.sqlite_keyed.proofs.ListLemmas.{map-map}
use Rattle.sqlite_typed.proofs.AnswerLemmas.{Source, matches_are, last_table, at_end}
use Rattle.sqlite_tied.specs.Compute.{everything}
use Rattle.sqlite.specs.declared.error.Error.{Error}
use Rattle.sqlite.specs.Effect.{Database}
use Rattle.sqlite.specs.Clock as clock
use Rattle.sqlite.specs.Listing.{understood, if_select, is_select, listing_schema, reads_listing}
use Rattle.sqlite.specs.State.{State, HasCleanDisk, IsUnchanged, IsRolledBack, IsNotRun, Shown, ShowsRows, FailsToQuery, FailsToShow, Survives, CommitsShowing}
use Rattle.sqlite.proofs.Callers.{reads_as, one_permutation}
use Rattle.lab_store_tables.specs.Schema.{schema_number, lab_schema}
use Rattle.lab_store_tables.specs.Rows.{DeskRow, desk_id, tables_in, number}
use Rattle.lab_store_tables.proofs.RowWords.{desk_row}
use Rattle.lab_store_tables.specs.WellKept.{is_desk}
use Rattle.lab_store_tables.specs.Ready.{IsAtRest, IsKept, LeavesNoMore, PassesBy, WhereShown}
use Rattle.lab_store_tables.specs.Family.{Desk}
use Rattle.lab_store_tables.proofs.Shutting.{shuts_by, shuts_none}
use Rattle.lab_store_files.specs.declared.faults.FileFault.{FileFault}
use Rattle.lab_store_files.specs.Schemas.{is_whole, has_number}
use Rattle.lab_store_files.specs.Verdicts.{number_query, number_shown, shown_verdict, file_verdict}
use Rattle.lab_store_files.proofs.Statements.{desk_query, query_is, query_unlisted, query_plain}

-- ---- the text is a query without RETURNING, under any schema

abbrev IsRead : Checked Parsed → Type 0
IsRead (Ok p) = (it : Select) × (p.statement ≡ written.Select it)
IsRead (Err e) = ⊥

query_read : IsRead (first number_query)
unfolding understood everything
query_read = (_, refl)

abbrev pub IsBare : Compiled → Type 0
IsBare c = c.returning ≡ None

-- what a statement is planned as, whose command is this
abbrev plan_by : Parsed → List (List ℕ) → Checked Command → Checked Compiled
plan_by p formats x = and_then (and_then (and_then x (λ k. Ok (k, None))) (λ found. Ok (formats, found))) (λ plan. Ok (with_command p plan))

bare_by : (p : Parsed) (formats : List (List ℕ)) (x : Checked Command) (c : Compiled) → plan_by p formats x ≡ Ok c → IsBare c
bare_by p formats (Ok k) c h = let same : with_command p (formats, (k, None)) ≡ c = cc in sym (ap (λ (it : Compiled). it.returning) same)
bare_by p formats (Err e) c h = absurd cc

abbrev plan_of : Schema → Parsed → Statement → Checked Compiled
plan_of s p st =
    let times = timed s p.formats st in
    and_then (and_then (and_then (returning s (small p.names + small times) st) (λ shown. and_then (command s p.formats (small p.names + small times) st) (λ k. Ok (k, shown)))) (λ found. Ok (times, found)))
    (λ plan. Ok (with_command p plan))

plan_is : (s : Schema) (p : Parsed) → and_then (planned s p) (λ plan. Ok (with_command p plan)) ≡ plan_of s p p.statement
unfolding planned meaning
plan_is s p = refl

query_plan_is : (s : Schema) (p : Parsed) (it : Select) → plan_of s p (written.Select it) ≡ plan_by p p.formats (command s p.formats (small p.names + small p.formats) (written.Select it))
unfolding returning timed
query_plan_is s p it = refl

bare_of : (s : Schema) (r : Checked Parsed) → IsRead r → (c : Compiled) → and_then r (λ p. and_then (planned s p) (λ plan. Ok (with_command p plan))) ≡ Ok c → IsBare c
bare_of s (Ok p) read c h = bare_by p p.formats (command s p.formats (small p.names + small p.formats) (written.Select read.0)) c (sym (plan_is s p ∙ ap (plan_of s p) read.1 ∙ query_plan_is s p read.0) ∙ h)
bare_of s (Err e) read c h = absurd read

compiled_bare : (s : Schema) (c : Compiled) → compiled s number_query ≡ Ok c → IsBare c
unfolding compiled
compiled_bare s c h = bare_of s (first number_query) query_read c h

selected : (r : Checked Compiled) (c : Compiled) → if_select r ≡ Ok c → r ≡ Ok c
selected (Ok it) c h = go (is_select it.command) h
  where
    go : (b : Bool) → ◌≡◌ {A = Checked Compiled} (if b then Ok it else Err NoSuchTable) (Ok c) → ◌≡◌ {A = Checked Compiled} (Ok it) (Ok c)
    go true e = e
    go false e = absurd cc
selected (Err e) c h = absurd cc

pub understood_bare : (s : Schema) (c : Compiled) → understood s number_query ≡ Ok c → IsBare c
unfolding understood
understood_bare s c h = go (reads_listing s number_query) h
  where
    go : (b : Bool) → ◌≡◌ {A = Checked Compiled} (if b then if_select (compiled listing_schema number_query) else compiled s number_query) (Ok c) → IsBare c
    go true e = compiled_bare listing_schema c (selected (compiled listing_schema number_query) c e)
    go false e = compiled_bare s c e

-- ---- what it leaves

shown_unchanged : (old new : State) (rows : List Row) → Shown number_query [] old new rows → IsUnchanged old new
unfolding Shown
shown_unchanged old new rows h =
    let none = understood_bare old.now.schema h.0 h.1.is in
    let it = subst (ShowsRows old new number_query h.0 (clock.timed [] h.0.formats h.1.now) rows) none h.2 in
    it.3

fails_kept : (sql : List ℕ) (params : Row) (old new : State) (e : Error) → FailsToQuery sql params old new e → IsUnchanged old new ⊎ IsRolledBack old new
unfolding FailsToQuery IsNotRun
fails_kept sql params old new e (inl (inl it)) = inl it.1
fails_kept sql params old new e (inl (inr it)) = inr it.3
fails_kept sql params old new e (inr h) = go h.0.returning h.2
  where
    go : (what : Option Returning) → FailsToShow old new sql h.0 (clock.timed params h.0.formats h.1.now) e what → IsUnchanged old new ⊎ IsRolledBack old new
    go None it = inl it.3
    go (Some what) (inl it) = inl it.1
    go (Some what) (inr it) = inr it.3

never_commits : (s : State) (db : Trees) → ¬ CommitsShowing number_query [] s db
unfolding CommitsShowing
never_commits s db h = let none : h.0.returning ≡ None = understood_bare s.now.schema h.0 h.1.is in absurd (let wrong = rw none at h.2 in cc)

pub asked_same : (old new : State) (r : Result (Vec Row Global) Error) → IfOk r (λ rows. Shown number_query [] old new rows.items) → OnOk r (IsUnchanged old new)
asked_same old new (Ok rows) h = shown_unchanged old new rows.items h
asked_same old new (Err e) h = tt

asked_ends : (old new : State) (r : Result (Vec Row Global) Error) → IfOk r (λ rows. Shown number_query [] old new rows.items) → IfErr r (FailsToQuery number_query [] old new) → IsUnchanged old new ⊎ IsRolledBack old new
asked_ends old new (Ok rows) ok err = inl (shown_unchanged old new rows.items ok)
asked_ends old new (Err e) ok err = fails_kept number_query [] old new e err

module _ (old new : State) (before : HasCleanDisk new → HasCleanDisk old) (alone : old.in_transaction ≡ false → new.in_transaction ≡ false)
    (ended : HasCleanDisk new → IsUnchanged old new ⊎ IsRolledBack old new) where
  pub kept_rows : IsAtRest old → WhereShown new (new.now ≡ old.now)
  kept_rows rest clean opened = go (ended clean)
    where
      go : IsUnchanged old new ⊎ IsRolledBack old new → new.now ≡ old.now
      go (inl it) = it.0.now_is
      go (inr it) = (it.undone opened).0 ∙ sym (rest.settled (before clean) (it.was_open opened))

  kept_settled : IsAtRest old → WhereShown new (new.now ≡ new.committed)
  kept_settled rest clean opened = go (ended clean)
    where
      go : IsUnchanged old new ⊎ IsRolledBack old new → new.now ≡ new.committed
      go (inl it) = it.0.now_is ∙ rest.settled (before clean) it.0.was_open ∙ sym it.0.committed_is
      go (inr it) = (it.undone opened).0 ∙ sym (it.undone opened).1

  was_open : HasCleanDisk new → IsTrue new.is_open → IsTrue old.is_open
  was_open clean opened = go (ended clean)
    where
      go : IsUnchanged old new ⊎ IsRolledBack old new → IsTrue old.is_open
      go (inl it) = it.0.was_open
      go (inr it) = it.was_open opened

  kept_rest : IsAtRest old → IsAtRest new
  kept_rest rest = record { alone = alone rest.alone; settled = kept_settled rest }

  module _ (survives : Survives old new (CommitsShowing number_query [] old)) where
    pub kept_crash : LeavesNoMore old new
    kept_crash clean opened trees left = elim (survives.crash clean trees left) [ inl was ↦ was | inr commits ↦ absurd (never_commits old trees commits) ]

    pub kept_passes : PassesBy old new
    kept_passes = record {
      at_rest = kept_rest;
      clean = before;
      live = was_open;
      ready = λ ready. record {
        at_rest = kept_rest ready.at_rest;
        kept = λ clean opened. subst IsKept (sym (kept_rows ready.at_rest clean opened)) (ready.kept (before clean) (was_open clean opened));
      };
      crash = λ _. kept_crash;
      shuts = shuts_by old new (CommitsShowing number_query [] old) survives;
    }

-- a call that asked nothing
pub passes_none : (s : State) → PassesBy s s
passes_none s = record { at_rest = λ rest. rest; clean = λ clean. clean; live = λ _ opened. opened; ready = λ ready. ready; crash = λ _ clean opened trees left. left; shuts = shuts_none s }

pub asked_kept : (old new : State) (r : Result (Vec Row Global) Error) → (HasCleanDisk new → IfOk r (λ rows. Shown number_query [] old new rows.items)) → (HasCleanDisk new → IfErr r (FailsToQuery number_query [] old new))
    → HasCleanDisk new → IsUnchanged old new ⊎ IsRolledBack old new
asked_kept old new r ok err clean = asked_ends old new r (ok clean) (err clean)

-- ---- what it shows in a file of ours

nothing : {X : Type 0} (zs : List X) → length zs ≡ 0 → zs ≡ []
nothing [] len = refl
nothing (z ∷ zs) len = absurd (omega arith)

-- a permutation of a list that has one element at most
short_permutation : {X : Type 0} (xs ys : List X) → length xs ≤ 1 → IsPermutation xs ys → ys ≡ xs
short_permutation [] ys short h = nothing ys (length_permutation [] ys h)
short_permutation (x ∷ []) ys short h = one_permutation x ys h
short_permutation (x ∷ y ∷ more) ys short h = absurd (omega arith)

module _ {A : Type 0} (q : Query) (db : Trees) (params : Row) (source : Source db q.from A) (p : A → Bool)
    (tests : (a : A) → list_all (holds (params ∷ source.env (params ∷ []) a)) q.filter ≡ p a) (no_group : q.group ≡ None) (no_distinct : q.distinct ≡ false) where
  abbrev out : A → Output
  out a = output q (params ∷ source.env (params ∷ []) a)

  arranged : (rows : List Row) (answer : IsAnswer q db params rows) → IsPermutation (map out (filter p source.rows)) answer.ordered
  arranged rows answer =
      let staged = subst (λ g. IsGrouped g params (matches db q.filter q.from (params ∷ [])) answer.staged) no_group answer.grouped in
      let kept = subst (λ d. IsDistinct d q.collations (map (output q) answer.staged) answer.kept) no_distinct answer.distinct in
      subst (λ l. IsPermutation l answer.ordered) (kept ∙ ap (map (output q)) (staged ∙ matches_are q db params source p tests) ∙ map-map (output q) _ _) answer.same

  shown : (rows : List Row) (answer : IsAnswer q db params rows) (all : List A) → answer.ordered ≡ map out all
      → rows ≡ page q params (map (λ a. eval_all q.project (params ∷ source.env (params ∷ []) a)) all)
  shown rows answer all is = answer.shown ∙ ap (λ l. page q params (map (λ (o : Output). o.1) l)) is ∙ ap (page q params) (map-map (λ (o : Output). o.1) out all)

  -- one row at most passes
  only_answer : length (filter p source.rows) ≤ 1
      → (rows : List Row) → IsAnswer q db params rows → rows ≡ page q params (map (λ a. eval_all q.project (params ∷ source.env (params ∷ []) a)) (filter p source.rows))
  only_answer short rows answer =
      shown rows answer _ (short_permutation (map out (filter p source.rows)) answer.ordered (rw (length-map (filter p source.rows) out) short) (arranged rows answer))

-- a whole file's `desk` has one row, with the number
desk_short : (desk : List DeskRow) → IsTrue (is_desk desk) → length (filter (λ _. true) desk) ≤ 1
desk_short [] h = absurd cc
desk_short (one ∷ []) h = omega arith
desk_short (one ∷ other ∷ others) h = absurd cc

abbrev number_row : DeskRow → Row
number_row one = number one.number ∷ []

same_number : (n m : ℕ) → (n == m) ≡ true → n ≡ m
same_number n m h = eqb-true n m h

desk_shown : (desk : List DeskRow) → IsTrue (is_desk desk) → map number_row (filter (λ _. true) desk) ≡ (number schema_number ∷ []) ∷ []
desk_shown [] h = absurd cc
desk_shown (one ∷ []) h = ap (λ n. (number n ∷ []) ∷ []) (same_number one.number schema_number h)
desk_shown (one ∷ other ∷ others) h = absurd cc

number_read : (old new : State) (rows : List Row) → IsKept old.now → Shown number_query [] old new rows → rows ≡ (number schema_number ∷ []) ∷ []
number_read old new rows kept h =
    let typed = kept.typed in
    let db = overlay old.now.trees [] in
    let xs = (tables_in old.now.trees).desk in
    let read = reads_as number_query [] old new lab_schema typed.schema _ query_is query_plain query_unlisted rows h in
    only_answer desk_query db [] (last_table db 0 desk_row desk_id xs (typed.stored.at Desk) (typed.rising.at Desk) (at_end db)) (λ _. true) (λ x. refl) refl refl
    (desk_short xs kept.rows.desk) rows (read.answer Null)
    ∙ desk_shown xs kept.rows.desk

whole_here : is_whole lab_schema ≡ true
unfolding same_name
whole_here = refl

pub number_here : has_number lab_schema ≡ true
unfolding same_name
number_here = refl

verdict_here : file_verdict lab_schema ((number schema_number ∷ []) ∷ []) ≡ Ok tt
verdict_here = ap (λ whole. shown_verdict whole (number_shown ((number schema_number ∷ []) ∷ []))) whole_here

-- so it is taken
pub ours_taken : (old new : State) (rows : List Row) → IsKept old.now → Shown number_query [] old new rows → file_verdict old.now.schema rows ≡ Ok tt
ours_taken old new rows kept h = ap₂ file_verdict kept.typed.schema (number_read old new rows kept h) ∙ verdict_here

pub ours_named : (s : State) → IsKept s.now → has_number s.now.schema ≡ true
ours_named s kept = ap has_number kept.typed.schema ∙ number_here

-- the schema after the question is the one before it
pub verdict_at : (old new : State) (rows : List Row) (answer : Result (Unit {0}) FileFault) → IsUnchanged old new → answer ≡ file_verdict new.now.schema rows → answer ≡ file_verdict old.now.schema rows
verdict_at old new rows answer same is = is ∙ ap (λ (d : Database). file_verdict d.schema rows) same.0.now_is
