-- What each statement makes of a new file.
use Rattle.std.proofs.Common.{◌≡◌, ◌≢◌, ◌⊎◌, inl, inr, ℕ, zero, suc, ◌+◌, ◌<◌, ℤ, pos, List, [], ◌∷◌, ◌++◌, take, fold, length, get_or, Bool, true, false, cond, ◌==◌, None, Ok, Err, Result, OnOk, refl, sym, ap, subst, ◌∙◌, arith}
use Rattle.std.specs.List.{AllByRecursion}
use Rattle.std.proofs.lemmas.List.{take_more}
use Rattle.std.proofs.lemmas.List.Sums.{fold-append}
use Rattle.sqlite_value.specs.declared.value.Value.{Value}
use Rattle.sqlite_value.specs.declared.value.Value.TheVariants.{Null, Int}
use Rattle.sqlite_value.specs.Order.{Row}
use Rattle.sqlite_trees.specs.Tree.{Trees}
use Rattle.sqlite_sql.specs.Ops.{unary}
use Rattle.sqlite_schema.specs.declared.schema.Schema.{Schema}
use Rattle.sqlite_schema.specs.declared.schema.Table.{Table}
use Rattle.sqlite_schema.specs.declared.schema.Index.{Index}
use Rattle.sqlite_schema.specs.declared.schema.Kind.TheVariants.{Integer}
use Rattle.sqlite_schema.specs.declared.schema.Keys.TheVariants.{Enforced}
use Rattle.sqlite_schema.specs.declared.command.Command.TheVariants.{Insert, CreateTable, CreateIndex}
use Rattle.sqlite_schema.specs.declared.command.Source.TheVariants.{Values}
use Rattle.sqlite_rules.specs.declared.error.Rowids.TheVariants.{Chosen}
use Rattle.sqlite_rules.specs.Cast.{cast}
use Rattle.sqlite_rules.specs.Edit.{edit_of, edited, taken_by}
use Rattle.sqlite_rules.specs.Action.{works}
use Rattle.sqlite_keyed.proofs.ListLemmas.{all_both}
use Rattle.sqlite_catalog.specs.Change.{created, indexed, next_tree, KeepsRows}
use Rattle.sqlite.specs.declared.error.Error.{Error}
use Rattle.sqlite.specs.Effect.{Database}
use Rattle.sqlite.specs.Rows.{Written}
use Rattle.sqlite.specs.Does.{Tally, Does, lacks_sequence}
use Rattle.sqlite.specs.Listing.{understood}
use Rattle.sqlite.specs.State.{State, mode_of, Writes, Executes, ExecutesInside}
use Rattle.sqlite.proofs.Callers.{runs_as, one_step, statement_of}
use Rattle.lab_store_tables.specs.Schema.{desk, sessions, sessions_of_person, lab_schema}
use Rattle.lab_store_tables.proofs.SchemaWords.{sessions_of_person_text}
use Rattle.lab_store_tables.proofs.RowWords.{desk_row}
use Rattle.lab_store_tables.specs.Family.{Desk, empty_tables}
use Rattle.lab_store_tables.specs.WellKept.{IsWellKept}
use Rattle.lab_store_tables.specs.Ready.{IsKept}
use Rattle.lab_store_tables.proofs.Tests.{kept_by_tests}
use Rattle.lab_store_tables.proofs.Tables.{AreSpared, stored_with, rising_with, none_stored, none_rising, held_if_stored}
use Rattle.lab_store_files.specs.declared.tables.LabTable.{LabTable}
use Rattle.lab_store_files.specs.Tables.{own_table, all_tables}
use Rattle.lab_store_files.specs.Private.Tables.{table_text}
use Rattle.lab_store_files.specs.NewFiles.{no_schema, IsEmptyUnder, IsNewFile, schema_row, new_tables}
use Rattle.lab_store_files.specs.Private.NewFiles.{schema_of, schema_before, schema_with, place_in}
use Rattle.lab_store_files.proofs.Statements.{makes_table, table_is, index_makes, index_text, index_plain, index_is, whole_is, row_text, row_terms, row_makes, row_plain}

-- a part that gave a value did not stop on the way
went : {B E R : Type 0} {b : B} {Stops : E → Type 0} → ((stop : E) × Stops stop × (Ok b ≡ Err stop)) ⊎ R → R
went (inl stopped) = absurd (let e = stopped.2 in cc)
went (inr on) = on

same_value : {B E : Type 0} {a b : B} → ◌≡◌ {A = Result B E} (Ok a) (Ok b) → a ≡ b
same_value e = cc

all_with : {X : Type 0} (P : X → Type 0) (xs : List X) (x : X) → AllByRecursion P xs → P x → AllByRecursion P (xs ++ x ∷ [])
all_with P [] x h p = (p, tt)
all_with P (y ∷ ys) x h p = (h.0, all_with P ys x h.1 p)

-- tables that had no row and kept their rows have none
still_empty : (before after : Trees) (tables : List Table) → KeepsRows tables before after → AllByRecursion (λ (t : Table). before t.tree ≡ []) tables
    → AllByRecursion (λ (t : Table). after t.tree ≡ []) tables
still_empty before after tables kept empty =
    all_both (λ (t : Table). after t.tree ≡ before t.tree) (λ (t : Table). before t.tree ≡ []) (λ (t : Table). after t.tree ≡ []) (λ t same none. same ∙ none) tables kept empty

-- ---- a table

table_made : (one : LabTable) (old new : State) (count : ℕ) → IsEmptyUnder (schema_before one) old.now → Executes (table_text one) [] old new (Ok count) → IsEmptyUnder (schema_with one) new.now
table_made one old new count was h =
    let schema = schema_before one in
    let text = table_text one in
    let it = makes_table one in
    let w = subst (λ t. Writes old new None CreateTable t [] count) it.text (runs_as text [] old new schema was.schema_is CreateTable it.command it.plain count h) in
    let all = went w.changed in
    let first = went all.1 in
    let made = first.1 in
    let plain_table : Table = record (own_table one) { tree = 0 } in
    let same : made.table ≡ plain_table = same_value (sym made.defined ∙ table_is one) in
    let schema_new : first.0.schema ≡ schema_with one = made.is ∙ ap (λ s. created s made.table) was.schema_is ∙ ap (created schema) same in
    let uncounted : lacks_sequence first.0.schema ≡ false = ap lacks_sequence schema_new ∙ it.uncounted in
    let now : new.now ≡ first.0 = ap (λ (p : Tally × Database). p.1) (same_value all.2) ∙ same_value (rw uncounted at first.2) in
    let kept = subst (λ (s : Schema). KeepsRows s.tables old.now.trees first.0.trees) was.schema_is made.others in
    let none : first.0.trees (next_tree schema) ≡ [] = subst (λ (s : Schema). first.0.trees (next_tree s) ≡ []) was.schema_is made.empty in
    let new_table : Table = record (own_table one) { tree = next_tree schema } in
    let empty = all_with (λ (t : Table). first.0.trees t.tree ≡ []) schema.tables new_table (still_empty old.now.trees first.0.trees schema.tables kept was.empty) none in
    subst (IsEmptyUnder (schema_with one)) (sym now) (record { schema_is = schema_new; empty = empty })

pub table_done : (one : LabTable) (old new : State) (r : Result ℕ Error) → ExecutesInside 0 (table_text one) [] old new r → IsEmptyUnder (schema_before one) old.now → OnOk r (IsEmptyUnder (schema_with one) new.now)
table_done one old new (Ok count) h was = table_made one old new count was h.0
table_done one old new (Err e) h was = tt

-- ---- the tables, one after the other

-- each table stands at its place, from a place on
abbrev ArePlaced : ℕ → List LabTable → Type 0
ArePlaced n [] = Unit {0}
ArePlaced n (one ∷ others) = (place_in one ≡ n) × ArePlaced (suc n) others

placed_from : (n : ℕ) (ones : List LabTable) → ArePlaced n ones → (i : ℕ) (d : LabTable) → i < length ones → place_in (get_or ones i d) ≡ n + i
placed_from n [] are i d within = absurd (omega arith)
placed_from n (one ∷ others) are zero d within = are.0 ∙ omega arith
placed_from n (one ∷ others) are (suc i) d within = placed_from (suc n) others are.1 i d (omega arith) ∙ omega arith

placed : (i : ℕ) (d : LabTable) → i < length all_tables → place_in (get_or all_tables i d) ≡ i
placed i d within = placed_from 0 all_tables (refl, (refl, (refl, (refl, (refl, (refl, (refl, (refl, (refl, (refl, (refl, (refl, tt)))))))))))) i d within ∙ omega arith

pub before_is : (i : ℕ) (d : LabTable) → i < length all_tables → schema_before (get_or all_tables i d) ≡ schema_of (take i all_tables)
before_is i d within = ap (λ n. schema_of (take n all_tables)) (placed i d within)

pub with_is : (i : ℕ) (d : LabTable) → i < length all_tables → schema_with (get_or all_tables i d) ≡ schema_of (take (i + 1) all_tables)
with_is i d within =
    let one = get_or all_tables i d in
    ap (λ s. created s (own_table one)) (before_is i d within)
    ∙ sym (ap schema_of (take_more all_tables i d within) ∙ fold-append (λ schema one. created schema (own_table one)) no_schema (take i all_tables) (one ∷ []))

-- ---- the index

index_made : (old new : State) (count : ℕ) → IsEmptyUnder (schema_of all_tables) old.now → Executes sessions_of_person_text [] old new (Ok count) → IsEmptyUnder lab_schema new.now
index_made old new count was h =
    let schema = schema_of all_tables in
    let text = sessions_of_person_text in
    let w = subst (λ t. Writes old new None (CreateIndex 3) t [] count) index_text (runs_as text [] old new schema was.schema_is (CreateIndex 3) index_makes index_plain count h) in
    let all = went (subst (λ s. Does old.step_limit (mode_of old) [] (record old.now { schema = s }) text None (CreateIndex 3) (Ok (w.tally, new.now))) was.schema_is w.changed) in
    let made = all.1 in
    let bare : Index = record sessions_of_person { tree = 0 } in
    let same : made.index ≡ bare = same_value (sym made.defined ∙ index_is) in
    let schema_new : all.0.schema ≡ lab_schema = made.is ∙ ap (indexed schema sessions) same ∙ whole_is in
    let now : new.now ≡ all.0 = ap (λ (p : Tally × Database). p.1) (same_value all.2) in
    subst (IsEmptyUnder lab_schema) (sym now) (record { schema_is = schema_new; empty = still_empty old.now.trees all.0.trees lab_schema.tables made.rows was.empty })

pub index_done : (old new : State) (r : Result ℕ Error) → ExecutesInside 0 sessions_of_person_text [] old new r → IsEmptyUnder (schema_of all_tables) old.now → OnOk r (IsEmptyUnder lab_schema new.now)
index_done old new (Ok count) h was = index_made old new count was h.0
index_done old new (Err e) h was = tt

-- ---- the row that names the schema

no_works : (b : Bool) (olds news : List Row) → (length news == 0) ≡ b → works lab_schema Enforced 0 0 olds news ≡ []
no_works true olds news e = rw e
no_works false olds news e = rw e

either : (b : Bool) (x : Value) → cond b x x ≡ x
either true x = refl
either false x = refl

cast_int : (n : ℤ) → cast Integer (Int n) ≡ Int n
unfolding unary
cast_int n = either _ (Int n)

cast_null : cast Integer Null ≡ Null
unfolding unary
cast_null = either _ Null

row_made : (old new : State) (count : ℕ) → IsEmptyUnder lab_schema old.now → Executes row_text [] old new (Ok count) → IsNewFile new.now
row_made old new count was h =
    let db = old.now.trees in
    let command = Insert 0 (Values row_terms 3) in
    let w = runs_as row_text [] old new lab_schema was.schema_is command row_makes row_plain count h in
    let text = statement_of row_text (understood lab_schema row_text) in
    let done = went (subst (λ s. Does old.step_limit (mode_of old) [] (record old.now { schema = s }) text None command (Ok (w.tally, new.now))) was.schema_is w.changed) in
    let now = ap (λ (p : Tally × Database). p.1) (same_value (went (went done.2).2).2) in
    let got = went done.1 in
    let written = went (went got.2).2 in
    let counted = went written.2 in
    let trees : done.0.trees ≡ written.0 = ap (λ (it : Written). it.trees) (same_value counted.2) ∙ same_value counted.1 in
    let edit = edit_of db desk [] Chosen 0 got.0 in
    let step = one_step lab_schema Enforced db written.0 edit (no_works _ (taken_by db edit) edit.news refl) written.1 in
    let row : edited db (edit_of db desk [] Chosen 0 got.0) ≡ desk_row schema_row ∷ [] = ap (λ all. edited db (edit_of db desk [] Chosen 0 all)) got.1.1 ∙ rw (was.empty.0, cast_null, cast_int (pos 3)) in
    let at_now : new.now.trees ≡ written.0 = ap (λ (d : Database). d.trees) now ∙ trees in
    let spared : AreSpared 0 db new.now.trees = subst (AreSpared 0 db) (sym at_now) step.tables in
    held_if_stored new.now new_tables (ap (λ (d : Database). d.schema) now)
    (stored_with Desk db new.now.trees empty_tables (schema_row ∷ []) (none_stored db was.empty) spared (ap (λ (tr : Trees). tr 0) at_now ∙ step.rows ∙ row))
    (rising_with Desk empty_tables (schema_row ∷ []) none_rising (tt, tt))

pub row_done : (old new : State) (r : Result ℕ Error) → ExecutesInside 0 row_text [] old new r → IsEmptyUnder lab_schema old.now → OnOk r (IsNewFile new.now)
row_done old new (Ok count) h was = row_made old new count was h.0
row_done old new (Err e) h was = tt

-- ---- a new file is well kept

new_is_kept : IsWellKept new_tables
new_is_kept = kept_by_tests new_tables refl refl refl refl refl refl refl refl refl refl refl refl refl refl

pub file_is_kept : (db : Database) → IsNewFile db → IsKept db
file_is_kept db h = record { typed = h.typed; rows = subst IsWellKept (sym h.tables) new_is_kept }
