-- What an INSERT of one row and an UPDATE make of a table of typed rows.
use Rattle.std.proofs.Common.{◌≡◌, ◌⊎◌, inl, inr, ℕ, ℤ, ◌<ℤ◌, pos, negsuc, List, [], ◌∷◌, ◌+ℤ◌, ◌/◌, map, filter, fold, drop, length, slice_get, Bool, true, false, cond, not, ◌==◌, None, Some, unwrap_or, Ok, Err, Result, refl, sym, ap, ap₂, subst, ◌∙◌, arith, int_cmp, Greater}
use Rattle.std.specs.Ordering.{match_ordering}
use Rattle.std.specs.List.{AllByRecursion}
use Rattle.std.proofs.lemmas.Int.{ints}
use Rattle.std.proofs.lemmas.List.{length-map}
use Rattle.std.proofs.lemmas.List.Folds.{fold-map}
use Rattle.sqlite_value.specs.declared.value.Value.{Value}
use Rattle.sqlite_value.specs.declared.value.Value.TheVariants.{Null, Int}
use Rattle.sqlite_value.specs.Order.{Row}
use Rattle.sqlite_trees.specs.Tree.{Trees, rowid, put_row}
use Rattle.sqlite_sql.specs.Ops.{unary}
use Rattle.sqlite_sql.specs.Program.{overlay}
use Rattle.sqlite_sql.specs.Query.{Query, inner, end, IsAnswer}
use Rattle.sqlite_sql.specs.Term.{Term, lit}
use Rattle.sqlite_schema.specs.declared.schema.Keys.TheVariants.{Enforced}
use Rattle.sqlite_schema.specs.declared.schema.Kind.TheVariants.{Integer}
use Rattle.sqlite_schema.specs.declared.schema.Table.{Table}
use Rattle.sqlite_schema.specs.declared.command.Command.TheVariants.{Update, Insert}
use Rattle.sqlite_schema.specs.declared.command.Source.TheVariants.{Values}
use Rattle.sqlite_rules.specs.declared.error.Rowids.TheVariants.{Given, Chosen}
use Rattle.sqlite_rules.specs.Cast.{cast, cast_row}
use Rattle.sqlite_rules.specs.Edit.{edit_of, edited, left_by, put_all, without_all, id_in, next_rowid, taken_by, with_rowid}
use Rattle.sqlite_rules.specs.Action.{works}
use Rattle.sqlite_rules.specs.Calls.{ids_of}
use Rattle.sqlite_rules.specs.Lists.{Has}
use Rattle.sqlite_rules.proofs.PlaceLemmas.{given}
use Rattle.sqlite_rules.proofs.ProbeLemmas.{mapped_has}
use Rattle.sqlite_rules.proofs.TableLemmas.{put_all_adds}
use Rattle.sqlite_keyed.specs.Keyed.{IsKeyedBy, next_key, insert_by}
use Rattle.sqlite_keyed.specs.Lists.{update_where, delete_where}
use Rattle.sqlite_keyed.proofs.ListLemmas.{map-map, all-filter, all_map, all_weaker}
use Rattle.sqlite_keyed.proofs.KeyedLemmas.{Less-from_lt}
use Rattle.sqlite_keyed.proofs.WriteLemmas.{removes_delete}
use Rattle.sqlite_typed.proofs.RowLemmas.{puts-map, deletes-map}
use Rattle.sqlite.specs.Effect.{Database, IsDatabase, value_rows}
use Rattle.sqlite.specs.Rows.{Written, Task, stamped, last_id}
use Rattle.sqlite.specs.Does.{Tally, Does, AtPlace, OnRows}
use Rattle.sqlite.specs.Listing.{understood}
use Rattle.sqlite.specs.State.{State, mode_of, Executes}
use Rattle.sqlite.proofs.Callers.{IsPlain, command_of, runs_as, one_step, statement_of}
use Rattle.lab_store_tables.specs.Schema.{lab_schema}
use Rattle.lab_store_tables.proofs.Tables.{AreSpared}

-- a part that gave a value did not stop on the way
went : {B E R : Type 0} {b : B} {Stops : E → Type 0} → ((stop : E) × Stops stop × (Ok b ≡ Err stop)) ⊎ R → R
went (inl stopped) = absurd (let e = stopped.2 in cc)
went (inr on) = on

same_value : {B E : Type 0} {a b : B} → ◌≡◌ {A = Result B E} (Ok a) (Ok b) → a ≡ b
same_value e = cc

no_works : (tree : ℕ) (b : Bool) (olds news : List Row) → (length news == 0) ≡ b → works lab_schema Enforced 0 tree olds news ≡ []
no_works tree true olds news e = rw e
no_works tree false olds news e = rw e

-- ---- values as they are stored

either : (b : Bool) (x : Value) → cond b x x ≡ x
either true x = refl
either false x = refl

pub cast_int : (n : ℤ) → cast Integer (Int n) ≡ Int n
unfolding unary
cast_int n = either _ (Int n)

pub cast_null : cast Integer Null ≡ Null
unfolding unary
cast_null = either _ Null

-- ---- a row more

module _ {X : Type 0} (key : X → ℤ) (to_row : X → Row) (keyed : (x : X) → rowid (to_row x) ≡ Int (key x)) where
  next_is : (xs : List X) → next_rowid (map to_row xs) ≡ next_key key xs
  next_is xs = fold-map (λ _ r. id_in (rowid r) +ℤ pos 1) to_row (pos 1) xs ∙ (λ i. fold (λ _ x. id_in (keyed x i) +ℤ pos 1) (pos 1) xs)

  pub put_next : (xs : List X) (new : X) (tail : Row) → key new ≡ next_key key xs → to_row new ≡ Int (key new) ∷ tail
      → put_row (Int (next_rowid (map to_row xs)) ∷ tail) (map to_row xs) ≡ map to_row (insert_by key xs new)
  put_next xs new tail is row =
      ap (λ n. put_row (Int n ∷ tail) (map to_row xs)) (next_is xs ∙ sym is) ∙ ap (λ r. put_row r (map to_row xs)) (sym row) ∙ puts-map key to_row keyed (new ∷ []) xs

-- ---- rows that are taken out and put back at their keys

module _ {X : Type 0} (key : X → ℤ) where
  puts_past : (news : List X) (x : X) (xs : List X) → AllByRecursion (λ n. key x <ℤ key n) news → fold (insert_by key) (x ∷ xs) news ≡ x ∷ fold (insert_by key) xs news
  puts_past [] x xs above = refl
  puts_past (n ∷ news) x xs above = rw (Less-from_lt (key x) (key n) above.0) (puts_past news x (insert_by key xs n) above.1)

  puts_first : (new : X) (xs : List X) → AllByRecursion (λ x. key new <ℤ key x) xs → insert_by key xs new ≡ new ∷ xs
  puts_first new [] above = refl
  puts_first new (x ∷ xs) above =
      let k = above.0 in
      let o : int_cmp (key x) (key new) ≡ Greater = grind (arith, ints) in
      ap (λ o. match_ordering o (x ∷ insert_by key xs new) (new ∷ xs) (new ∷ x ∷ xs)) o

  puts_back : (p : X → Bool) (f : X → X) → ((x : X) → key (f x) ≡ key x) → (xs : List X) → IsKeyedBy key xs
      → fold (insert_by key) (delete_where p xs) (map f (filter p xs)) ≡ update_where p f xs
  puts_back p f keeps [] up = refl
  puts_back p f keeps (x ∷ xs) up = go (p x) (puts_back p f keeps xs up.1)
    where
      above : (y : X) → key y ≡ key x → AllByRecursion (λ n. key y <ℤ key n) (map f (filter p xs))
      above y same = all_map _ f _ (all-filter _ p xs (all_weaker _ (λ n. key y <ℤ key (f n)) (λ n h. rw (same, keeps n) h) xs up.0))

      first : AllByRecursion (λ y. key (f x) <ℤ key y) (delete_where p xs)
      first = all-filter _ (λ y. not (p y)) xs (rw (keeps x) up.0)

      go : (b : Bool) → fold (insert_by key) (delete_where p xs) (map f (filter p xs)) ≡ update_where p f xs
          → fold (insert_by key) (cond (not b) (x ∷ delete_where p xs) (delete_where p xs)) (map f (cond b (x ∷ filter p xs) (filter p xs))) ≡ cond b (f x) x ∷ update_where p f xs
      go true more = ap (λ l. fold (insert_by key) l (map f (filter p xs))) (puts_first (f x) _ first) ∙ puts_past _ (f x) _ (above (f x) (keeps x)) ∙ ap (λ l. f x ∷ l) more
      go false more = puts_past _ x _ (above x refl) ∙ ap (λ l. x ∷ l) more

module _ {X : Type 0} (key : X → ℤ) (to_row : X → Row) (keyed : (x : X) → rowid (to_row x) ≡ Int (key x)) where
  stored_back : (p : X → Bool) (f : X → X) → ((x : X) → key (f x) ≡ key x) → (xs : List X) → IsKeyedBy key xs
      → put_all (without_all (map to_row xs) (map key (filter p xs))) (map to_row (map f (filter p xs))) ≡ map to_row (update_where p f xs)
  stored_back p f keeps xs up =
      let found = filter p xs in
      ap (λ l. put_all l (map to_row (map f found))) (deletes-map key to_row keyed (map key found) xs ∙ ap (map to_row) (removes_delete key p xs up))
      ∙ fold-map (λ rows r. put_row r rows) to_row (map to_row (delete_where p xs)) (map f found)
      ∙ puts-map key to_row keyed (map f found) (delete_where p xs)
      ∙ ap (map to_row) (puts_back key p f keeps xs up)

  -- an update, by what its query shows of each row
  pub update_edit : (db : Trees) (table : Table) (p : X → Bool) (source : X → Row) (next : X → X) → ((x : X) → cast_row table (drop 1 (source x)) ≡ to_row (next x))
      → ((x : X) → id_in (rowid (source x)) ≡ key x) → ((x : X) → key (next x) ≡ key x) → (xs : List X) → IsKeyedBy key xs → db table.tree ≡ map to_row xs
      → (let found = map source (filter p xs) in edited db (edit_of db table (ids_of found) Given 1 found) ≡ map to_row (update_where p next xs))
  update_edit db table p source next casts ids keeps xs up stored =
      let found = filter p xs in
      let sources = map source found in
      let gone : ids_of sources ≡ map key found = map-map (λ r. id_in (rowid r)) source found ∙ (λ i. map (λ x. ids x i) found) in
      let news : map (λ s. cast_row table (drop 1 s)) sources ≡ map to_row (map next found) =
      map-map (λ s. cast_row table (drop 1 s)) source found ∙ (λ i. map (λ x. casts x i) found) ∙ sym (map-map to_row next found) in
      let all : edited db (edit_of db table (ids_of sources) Given 1 sources) ≡ put_all (without_all (db table.tree) (ids_of sources)) (map to_row (map next found)) =
      ap (put_all (without_all (db table.tree) (ids_of sources))) (given _ _ ∙ news) in
      all ∙ ap₂ (λ l g. put_all (without_all l g) (map to_row (map next found))) stored gone ∙ stored_back p next keeps xs up

-- two updates that agree on the rows that they set
pub update_same : {X : Type 0} (p : X → Bool) (f g : X → X) → ((x : X) → p x ≡ true → f x ≡ g x) → (xs : List X) → update_where p f xs ≡ update_where p g xs
update_same p f g same [] = refl
update_same p f g same (x ∷ xs) = ap₂ ◌∷◌ (go (p x) refl) (update_same p f g same xs)
  where
    go : (b : Bool) → p x ≡ b → cond b (f x) x ≡ cond b (g x) x
    go true here = same x here
    go false here = refl

-- ---- what a statement did

-- the table has these rows, every other table is as it was, and the database obeys its own rules
pub record Replaces (table : Table) (all : List Row) (old new : Database) : Type 0 where
  pub schema : new.schema ≡ lab_schema
  pub rows : new.trees table.tree ≡ all
  pub spared : AreSpared table.tree old.trees new.trees
  pub sound : IsDatabase new

abbrev pub uncounted : Table → Table
uncounted table = record table { is_counted = false }

-- an update, by the rows that its query answered: each row that it made of these is there afterwards, and the statement returned their number
pub record Updates (table : Table) (q : Query) (params : Row) (old new : Database) (count : ℕ) : Type 0 where
  pub sources : List Row
  pub answer : IsAnswer q (overlay old.trees []) params sources
  pub replaced : Replaces table (edited old.trees (edit_of old.trees (uncounted table) (ids_of sources) Given 1 sources)) old new
  pub puts : (source : Row) → Has sources source → Has (new.trees table.tree) (cast_row (uncounted table) (drop 1 source))
  pub counted : count ≡ length sources

module _ (at : ℕ) (table : Table) (there : slice_get lab_schema.tables at ≡ Some (uncounted table)) (sql : List ℕ) (params : Row) (old new : State) (count : ℕ)
    (schema : old.now.schema ≡ lab_schema) (plain : IsPlain (understood lab_schema sql)) (did : Executes sql params old new (Ok count)) where
  task : Task
  task = record { limit = old.step_limit; keys = Enforced; schema = lab_schema; table = uncounted table; params = params }

  pub inserted : (terms : List Term) (width : ℕ) → command_of (understood lab_schema sql) ≡ Insert at (Values terms width)
      → (sources : List Row) → value_rows (stamped (uncounted table) params) width (length terms / width) terms ≡ sources
      → Replaces table (edited old.now.trees (edit_of old.now.trees (uncounted table) [] Chosen 0 sources)) old.now new.now
  inserted terms width is sources shown =
      let db = old.now.trees in
      let command = Insert at (Values terms width) in
      let w = runs_as sql params old new lab_schema schema command is plain count did in
      let text = statement_of sql (understood lab_schema sql) in
      let does = subst (λ s. Does old.step_limit (mode_of old) params (record old.now { schema = s }) text None command (Ok (w.tally, new.now))) schema w.changed in
      let done = went (subst (λ found. AtPlace (λ one. OnRows (record { limit = old.step_limit; keys = Enforced; schema = lab_schema; table = one; params = params }) (mode_of old) None command db) found (Ok (w.tally, new.now))) there does) in
      let now = ap (λ (p : Tally × Database). p.1) (same_value (went (went done.2).2).2) in
      let got = went done.1 in
      let written = went (went got.2).2 in
      let counted = went written.2 in
      let trees : done.0.trees ≡ written.0 = ap (λ (it : Written). it.trees) (same_value counted.2) ∙ same_value counted.1 in
      let edit = edit_of db (uncounted table) [] Chosen 0 got.0 in
      let step = one_step lab_schema Enforced db written.0 edit (no_works table.tree _ (taken_by db edit) edit.news refl) written.1 in
      let at_now : new.now.trees ≡ written.0 = ap (λ (d : Database). d.trees) now ∙ trees in
      record {
        schema = ap (λ (d : Database). d.schema) now;
        rows = ap (λ (tr : Trees). tr table.tree) at_now ∙ step.rows ∙ ap (λ l. edited db (edit_of db (uncounted table) [] Chosen 0 l)) (got.1.1 ∙ shown);
        spared = subst (λ tr. AreSpared table.tree db tr) (sym at_now) step.tables;
        sound = w.sound;
      }

  -- the id that the connection tells then
  pub inserted_id : (terms : List Term) (width : ℕ) → command_of (understood lab_schema sql) ≡ Insert at (Values terms width)
      → (sources : List Row) → value_rows (stamped (uncounted table) params) width (length terms / width) terms ≡ sources
      → new.last_rowid ≡ unwrap_or (last_id (edit_of old.now.trees (uncounted table) [] Chosen 0 sources).news) old.last_rowid
  inserted_id terms width is sources shown =
      let db = old.now.trees in
      let command = Insert at (Values terms width) in
      let w = runs_as sql params old new lab_schema schema command is plain count did in
      let text = statement_of sql (understood lab_schema sql) in
      let does = subst (λ s. Does old.step_limit (mode_of old) params (record old.now { schema = s }) text None command (Ok (w.tally, new.now))) schema w.changed in
      let done = went (subst (λ found. AtPlace (λ one. OnRows (record { limit = old.step_limit; keys = Enforced; schema = lab_schema; table = one; params = params }) (mode_of old) None command db) found (Ok (w.tally, new.now))) there does) in
      let result = same_value (went (went done.2).2).2 in
      let got = went done.1 in
      let written = went (went got.2).2 in
      let counted = went written.2 in
      let edit = edit_of db (uncounted table) [] Chosen 0 got.0 in
      w.last_rowid ∙ ap (λ (p : Tally × Database). unwrap_or p.0.last old.last_rowid) result ∙ ap (λ (it : Written). unwrap_or it.last old.last_rowid) (same_value counted.2)
      ∙ ap (λ l. unwrap_or (last_id (edit_of db (uncounted table) [] Chosen 0 l).news) old.last_rowid) (got.1.1 ∙ shown)

  -- an update, whatever the order in which its query answers rows
  pub answered : (q : Query) → command_of (understood lab_schema sql) ≡ Update at (record { lets = []; body = q }) → Updates table q params old.now new.now count
  answered q is =
      let db = old.now.trees in
      let command = Update at (record { lets = []; body = q }) in
      let w = runs_as sql params old new lab_schema schema command is plain count did in
      let text = statement_of sql (understood lab_schema sql) in
      let does = subst (λ s. Does old.step_limit (mode_of old) params (record old.now { schema = s }) text None command (Ok (w.tally, new.now))) schema w.changed in
      let done = went (subst (λ found. AtPlace (λ one. OnRows (record { limit = old.step_limit; keys = Enforced; schema = lab_schema; table = one; params = params }) (mode_of old) None command db) found (Ok (w.tally, new.now))) there does) in
      let result = same_value (went (went done.2).2).2 in
      let got = went done.1 in
      let put = went got.2 in
      let written = same_value put.2 in
      let edit = edit_of db (uncounted table) (ids_of got.0) Given 1 got.0 in
      let news : edit.news ≡ map (λ s. cast_row (uncounted table) (drop 1 s)) got.0 = given _ _ in
      let step = one_step lab_schema Enforced db put.0 edit (no_works table.tree _ (taken_by db edit) edit.news refl) put.1 in
      let at_now : new.now.trees ≡ put.0 = ap (λ (p : Tally × Database). p.1.trees) result ∙ ap (λ (it : Written). it.trees) written in
      let rows = ap (λ (tr : Trees). tr table.tree) at_now ∙ step.rows in
      record {
        sources = got.0;
        answer = got.1.answer Null;
        replaced = record {
          schema = ap (λ (p : Tally × Database). p.1.schema) result;
          rows = rows;
          spared = subst (λ tr. AreSpared table.tree db tr) (sym at_now) step.tables;
          sound = w.sound;
        };
        puts = λ source has.
            subst (λ l. Has l (cast_row (uncounted table) (drop 1 source))) (sym rows)
            (put_all_adds edit.news (left_by db edit) _ step.fresh
            (subst (λ l. Has l (cast_row (uncounted table) (drop 1 source))) (sym news) (mapped_has (λ s. cast_row (uncounted table) (drop 1 s)) got.0 source has)));
        counted = w.counted ∙ ap (λ (p : Tally × Database). unwrap_or p.0.rows 0) result ∙ ap (λ (it : Written). length it.rows) written ∙ ap length news ∙ length-map _ _;
      }

-- ---- the query of an update

abbrev pub by_tests_query : ℕ → List Term → List Term → Query
by_tests_query tree tests shown = record {
  from = inner tree end;
  filter = tests;
  group = None;
  project = shown;
  distinct = false;
  collations = [];
  order = [];
  limit = lit (Int (negsuc 0));
  offset = lit (Int (pos 0));
}

-- a row more under the next id: what the statement does of a table of typed rows
module _ {X : Type 0} (table : Table) (key : X → ℤ) (to_row : X → Row) (keyed : (x : X) → rowid (to_row x) ≡ Int (key x)) (at : ℕ) (there : slice_get lab_schema.tables at ≡ Some (uncounted table))
    (sql : List ℕ) (terms : List Term) (width : ℕ) (plain : IsPlain (understood lab_schema sql)) (is : command_of (understood lab_schema sql) ≡ Insert at (Values terms width)) where
  pub add_next : (params tail : Row) (new_row : X) (old new : State) (count : ℕ) (xs : List X) → key new_row ≡ next_key key xs → to_row new_row ≡ Int (key new_row) ∷ tail
      → value_rows (stamped (uncounted table) params) width (length terms / width) terms ≡ (Null ∷ tail) ∷ []
      → cast_row (uncounted table) (Null ∷ tail) ≡ Null ∷ tail
      → old.now.schema ≡ lab_schema → old.now.trees table.tree ≡ map to_row xs → IsKeyedBy key xs
      → Executes sql params old new (Ok count) → Replaces table (map to_row (insert_by key xs new_row)) old.now new.now
  add_next params tail new_row old new count xs next row shows cast schema stored rise did =
      let it = inserted at table there sql params old new count schema plain did terms width is ((Null ∷ tail) ∷ []) shows in
      let db = old.now.trees in
      let put : edited db (edit_of db (uncounted table) [] Chosen 0 ((Null ∷ tail) ∷ [])) ≡ put_row (Int (next_rowid (db table.tree)) ∷ tail) (db table.tree) =
      ap (λ one. put_row (with_rowid Chosen (db table.tree) one) (db table.tree)) cast in
      record {
        schema = it.schema;
        rows = it.rows ∙ put ∙ ap (λ l. put_row (Int (next_rowid l) ∷ tail) l) stored ∙ put_next key to_row keyed xs new_row tail next row;
        spared = it.spared;
        sound = it.sound;
      }

  pub next_id : (params tail : Row) (old new : State) (count : ℕ) (xs : List X) → value_rows (stamped (uncounted table) params) width (length terms / width) terms ≡ (Null ∷ tail) ∷ []
      → cast_row (uncounted table) (Null ∷ tail) ≡ Null ∷ tail → old.now.schema ≡ lab_schema → old.now.trees table.tree ≡ map to_row xs
      → Executes sql params old new (Ok count) → new.last_rowid ≡ next_key key xs
  next_id params tail old new count xs shows cast schema stored did =
      let db = old.now.trees in
      inserted_id at table there sql params old new count schema plain did terms width is ((Null ∷ tail) ∷ []) shows
      ∙ ap (λ one. unwrap_or (last_id (with_rowid Chosen (db table.tree) one ∷ [])) old.last_rowid) cast ∙ ap next_rowid stored ∙ next_is key to_row keyed xs
