-- What an UPDATE of rows makes, for every table: by a key which no two rows have, as the database then obeys its own rules,
-- it sets the one row that has it, or none; and by an id the row that has it.
use Rattle.std.proofs.Common.{◌≡◌, ◌<◌, ◌≤◌, inl, inr, ℕ, ◌+◌, ℤ, ◌<ℤ◌, Bool, true, List, [], ◌∷◌, map, filter, length, Ok, refl, sym, ap, subst, ◌∙◌, arith, int_eq, bytes_eq}
use Rattle.std.specs.Prelude.{if◌then◌else◌}
use Rattle.std.specs.List.{list_all}
use Rattle.std.specs.List.Sorted.{IsPermutation}
use Rattle.std.specs.Int.Signed.{<ℤ_irrefl}
use Rattle.std.proofs.lemmas.List.{length-map}
use Rattle.std.proofs.lemmas.List.Sorted.{IsPermutation-map, Contains-permutation}
use Rattle.sqlite_value.specs.declared.value.Value.TheVariants.{Null, Int}
use Rattle.sqlite_value.specs.Order.{Row, column}
use Rattle.sqlite_trees.specs.Tree.{Trees}
use Rattle.sqlite_sql.specs.Program.{overlay}
use Rattle.sqlite_sql.specs.Query.{Output, IsAnswer, output}
use Rattle.sqlite_sql.specs.Term.{Term, lit, col, eval_all, holds}
use Rattle.sqlite_schema.specs.declared.command.Command.TheVariants.{Update}
use Rattle.sqlite_rules.specs.Edit.{edit_of, edited}
use Rattle.sqlite_rules.specs.declared.error.Rowids.TheVariants.{Given}
use Rattle.sqlite_rules.specs.Calls.{ids_of}
use Rattle.sqlite_rules.specs.Lists.{Has}
use Rattle.sqlite_rules.proofs.ListLemmas.{has_contained, contains_had, has_filtered}
use Rattle.sqlite_rules.proofs.ProbeLemmas.{mapped_has}
use Rattle.sqlite_keyed.specs.Keyed.{IsKeyedBy}
use Rattle.sqlite_keyed.specs.Lists.{update_where}
use Rattle.sqlite_keyed.proofs.ListLemmas.{map-map, map_same, ascending-filter}
use Rattle.sqlite_keyed.proofs.KeyedLemmas.{IsKeyedBy-update_where, same_int}
use Rattle.sqlite_typed.proofs.AnswerLemmas.{last_table, at_end, matches_are}
use Rattle.sqlite.specs.Effect.{Database, IsDatabase}
use Rattle.sqlite.specs.Listing.{understood}
use Rattle.sqlite.specs.State.{State, Executes}
use Rattle.sqlite.proofs.Callers.{IsPlain, command_of}
use Rattle.lab_store_tables.specs.Schema.{lab_schema}
use Rattle.lab_store_tables.specs.RowRecords.{Tables}
use Rattle.lab_store_tables.specs.Sheets.{names}
use Rattle.lab_store_tables.specs.Family.{Name, RowOf, kept, id_of, rows, tables_in}
use Rattle.lab_store_tables.proofs.FamilyWords.{table_in, tree_of, stored_row, with_rows}
use Rattle.lab_store_tables.specs.Held.{IsTyped}
use Rattle.lab_store_tables.proofs.Tables.{stored_with, rising_with, held_if_stored}
use Rattle.lab_store_read.proofs.Texts.{is_param}
use Rattle.lab_store_read.proofs.Sorted.{short_permutation, and_true}
use Rattle.lab_store_write.proofs.Columns.{stays}
use Rattle.lab_store_write.proofs.Writes.{uncounted, answered, by_tests_query, update_edit}
use Rattle.lab_store_write.proofs.Inserts.{place, there, lies}
use Rattle.lab_store_write.proofs.Inside.{Wrote}
use Rattle.lab_store_tables.proofs.Comparing.{equal_ints}

-- ---- rows that pass tests, in whatever order they come

module _ {X : Type 0} (tree : ℕ) (key : X → ℤ) (to_row : X → Row) (keyed : (x : X) → column (to_row x) 0 ≡ Int (key x)) (xs : List X) (db : Trees) (stored : db tree ≡ map to_row xs) (rise : IsKeyedBy key xs) where
  shown_by_tests : (tests shown : List Term) (params : Row) (mine : X → Bool) (source : X → Row) → ((x : X) → list_all (holds (params ∷ to_row x ∷ [])) tests ≡ mine x)
      → ((x : X) → eval_all shown (params ∷ to_row x ∷ []) ≡ source x) → (rows : List Row) → IsAnswer (by_tests_query tree tests shown) db params rows
      → IsPermutation (map source (filter mine xs)) rows
  shown_by_tests tests shown params mine source passes shows rows answer =
      let q = by_tests_query tree tests shown in
      let out = λ (x : X). output q (params ∷ to_row x ∷ []) in
      let found = filter mine xs in
      let kept : answer.kept ≡ map out found =
      answer.distinct ∙ ap (map (output q)) (answer.grouped ∙ matches_are q db params (last_table db tree to_row key xs stored rise (at_end db)) mine passes) ∙ map-map (output q) _ found in
      let all : map (λ (o : Output). o.1) (map out found) ≡ map source found = map-map (λ (o : Output). o.1) out found ∙ map_same _ source shows found in
      subst (λ l. IsPermutation (map source found) l) (sym answer.shown)
      (subst (λ l. IsPermutation l (map (λ (o : Output). o.1) answer.ordered)) all
      (IsPermutation-map (λ (o : Output). o.1) (map out found) answer.ordered (subst (λ l. IsPermutation l answer.ordered) kept answer.same)))

-- ---- a list of which no two items differ

alone : {X : Type 0} (key : X → ℤ) (xs : List X) → IsKeyedBy key xs → ((a b : X) → Has xs a → Has xs b → key a <ℤ key b → ⊥) → length xs ≤ 1
alone key [] up never = omega arith
alone key (x ∷ []) up never = omega arith
alone key (x ∷ y ∷ more) up never = absurd (never x y (inl refl) (inr (inl refl)) up.0.0)

only : {X : Type 0} (xs : List X) → length xs ≤ 1 → 0 < length xs → (x : X) × (xs ≡ x ∷ [])
only [] short some = absurd (omega arith)
only (x ∷ []) short some = (x, refl)
only (x ∷ y ∷ more) short some = absurd (omega arith)

-- ---- what a statement sets

-- columns by their names, each with the term that it is set to; every other column stays
abbrev set_at : List (List ℕ × Term) → List ℕ → ℕ → Term
set_at [] name at = col 1 at
set_at (one ∷ others) name at = if bytes_eq one.0 name then one.1 else set_at others name at

abbrev terms_from : List (List ℕ × Term) → List (List ℕ) → ℕ → List Term
terms_from set [] at = []
terms_from set (name ∷ others) at = set_at set name at ∷ terms_from set others (at + 1)

-- the row's id for the table's own, and then the new row
abbrev pub shown_by : (k : Name) → List (List ℕ × Term) → List Term
shown_by k set = col 1 0 ∷ col 1 0 ∷ lit Null ∷ terms_from set (names (kept k).sheet.columns) 2

-- columns that are set to one parameter after the other
abbrev pub given : ℕ → List (List ℕ) → List (List ℕ × Term)
given at [] = []
given at (name ∷ others) = (name, col 0 at) ∷ given (at + 1) others

-- the text sets these columns of the rows of the table that pass the tests
abbrev pub IsUpdate : (k : Name) → List Term → List (List ℕ × Term) → List ℕ → Type 0
IsUpdate k tests set sql =
    IsPlain (understood lab_schema sql)
    × (command_of (understood lab_schema sql) ≡ Update (place k) (record { lets = []; body = by_tests_query (tree_of k) tests (shown_by k set) }))

-- ---- the update

-- the rows that have the key are set; where the statement returned more than none, there is one
pub record SetsWhere (k : Name) (mine : RowOf k → Bool) (next : RowOf k → RowOf k) (t : Tables) (new : Database) (count : ℕ) : Type 0 where
  pub wrote : Wrote (with_rows k (update_where mine next (rows k t)) t) new
  pub one : 0 < count → (x : RowOf k) × (filter mine (rows k t) ≡ x ∷ [])

pub sets_where : (k : Name) (tests : List Term) (set : List (List ℕ × Term)) (sql : List ℕ) → IsUpdate k tests set sql
    → (params : Row) (mine : RowOf k → Bool) (next : RowOf k → RowOf k) → ((x : RowOf k) → list_all (holds (params ∷ stored_row k x ∷ [])) tests ≡ mine x)
    → ((x : RowOf k) → id_of k (next x) ≡ id_of k x) → ((x : RowOf k) → eval_all (shown_by k set) (params ∷ stored_row k x ∷ []) ≡ Int (id_of k x) ∷ stored_row k (next x))
    → ((db : Database) → db.schema ≡ lab_schema → IsDatabase db → (a b : RowOf k) → mine a ≡ true → mine b ≡ true → id_of k a <ℤ id_of k b
    → Has (db.trees (tree_of k)) (stored_row k (next a)) → Has (db.trees (tree_of k)) (stored_row k (next b)) → ⊥)
    → (old new : State) (count : ℕ) → IsTyped old.now → Executes sql params old new (Ok count) → SetsWhere k mine next (tables_in old.now.trees) new.now count
sets_where k tests set sql is params mine next passes keeps shows never old new count typed did =
    let t = tables_in old.now.trees in
    let xs = rows k t in
    let key = id_of k in
    let to_row = stored_row k in
    let stored = typed.stored.at k in
    let rise = typed.rising.at k in
    let source = λ (x : RowOf k). Int (key x) ∷ to_row (next x) in
    let found = filter mine xs in
    let it = answered (place k) (table_in k) (there k) sql params old new count typed.schema is.0 did (by_tests_query (tree_of k) tests (shown_by k set)) is.1 in
    let same : IsPermutation (map source found) it.sources =
    shown_by_tests (tree_of k) key to_row (λ x. refl) xs (overlay old.now.trees []) (lies k old.now.trees ∙ stored) rise tests (shown_by k set) params mine source passes shows it.sources it.answer in
    let put : (x : RowOf k) → Has found x → Has (new.now.trees (tree_of k)) (to_row (next x)) =
    λ x has. subst (Has (new.now.trees (tree_of k))) (stays k (next x))
    (it.puts (source x) (has_contained it.sources (source x) (Contains-permutation (map source found) it.sources (source x) same (contains_had (map source found) (source x) (mapped_has source found x has))))) in
    let short : length found ≤ 1 =
    alone key found (ascending-filter (λ a b. key a <ℤ key b) mine xs rise)
    (λ a b ha hb low. never new.now it.replaced.schema it.replaced.sound a b (has_filtered mine xs a ha).1 (has_filtered mine xs b hb).1 low (put a ha) (put b hb)) in
    let long : length (map source found) ≡ length found = length-map found source in
    let exact : it.sources ≡ map source found = short_permutation (map source found) it.sources (rw long short) same in
    let told : count ≡ length found = it.counted ∙ ap length exact ∙ long in
    let all = update_where mine next xs in
    let made = it.replaced.rows ∙ ap (λ l. edited old.now.trees (edit_of old.now.trees (uncounted (table_in k)) (ids_of l) Given 1 l)) exact
    ∙ update_edit key to_row (λ x. refl) old.now.trees (uncounted (table_in k)) mine source next (λ x. stays k (next x)) (λ x. refl) keeps xs rise stored in
    record {
      wrote = record {
        held = held_if_stored new.now (with_rows k all t) it.replaced.schema (stored_with k old.now.trees new.now.trees t all typed.stored it.replaced.spared made)
            (rising_with k t all typed.rising (IsKeyedBy-update_where key mine next keeps xs rise));
        sound = it.replaced.sound;
      };
      one = λ some. only found short (subst (λ n. 0 < n) told some);
    }

-- ---- by an id

abbrev pub by_id : List Term
by_id = is_param 0 0 ∷ []

pub sets : (k : Name) (set : List (List ℕ × Term)) (sql : List ℕ) → IsUpdate k by_id set sql → (id : ℤ) (others : Row) (next : RowOf k → RowOf k)
    → ((x : RowOf k) → id_of k (next x) ≡ id_of k x) → ((x : RowOf k) → eval_all (shown_by k set) ((Int id ∷ others) ∷ stored_row k x ∷ []) ≡ Int (id_of k x) ∷ stored_row k (next x))
    → (old new : State) (count : ℕ) → IsTyped old.now → Executes sql (Int id ∷ others) old new (Ok count)
    → Wrote (with_rows k (update_where (λ x. int_eq (id_of k x) id) next (rows k (tables_in old.now.trees))) (tables_in old.now.trees)) new.now
sets k set sql is id others next keeps shows old new count typed did =
    (sets_where k by_id set sql is (Int id ∷ others) (λ x. int_eq (id_of k x) id) next (λ x. and_true _ ∙ equal_ints (id_of k x) id) keeps shows
    (λ db schema rules a b is_a is_b low has_a has_b. <ℤ_irrefl (subst (λ x. id_of k a <ℤ x) (same_int (id_of k b) id is_b ∙ sym (same_int (id_of k a) id is_a)) low))
    old new count typed did).wrote
