-- A look-up inside a transaction: what its query answers over typed rows, in the order of their ids, and what it leaves.
use Rattle.std.proofs.Common.{◌≡◌, ◌⊎◌, inl, inr, ℕ, ℤ, ◌<ℤ◌, pos, negsuc, Bool, false, List, [], ◌∷◌, map, filter, find, slice_get, Option, Some, None, option_map, Ok, Err, Result, IfOk, IfErr, IsTrue, refl, sym, ap, subst, ◌∙◌, Ordering, Less, Equal, Greater, int_cmp}
use Rattle.std.specs.Prelude.{Vec}
use Rattle.std.specs.declared.alloc.Global.{Global}
use Rattle.std.specs.List.{AllByRecursion, list_all}
use Rattle.std.specs.Ordering.{is_eq, ordering_then}
use Rattle.sqlite_value.specs.declared.value.Value.TheVariants.{Null, Int}
use Rattle.sqlite_value.specs.declared.keys.Collation.TheVariants.{Binary}
use Rattle.sqlite_value.specs.Keys.{ascending}
use Rattle.sqlite_value.specs.Order.{Row, column, value_cmp}
use Rattle.sqlite_value.proofs.OrderLemmas.{value_cmp-Int}
use Rattle.sqlite_trees.specs.Tree.{Trees}
use Rattle.sqlite_sql.specs.Program.{overlay}
use Rattle.sqlite_sql.specs.Query.{Query, inner, end, IsAnswer, output, output_cmp}
use Rattle.sqlite_sql.specs.Term.{Term, lit, col, eval_all, holds}
use Rattle.sqlite_schema.specs.declared.command.Returning.{Returning}
use Rattle.sqlite_resolve.specs.Compile.{first}
use Rattle.sqlite_keyed.specs.Keyed.{IsKeyedBy}
use Rattle.sqlite_keyed.specs.Lists.{sort_by, insert_sorted}
use Rattle.sqlite_keyed.proofs.ListLemmas.{map_same, ascending-filter, ascending_weaker, slice_get-filter}
use Rattle.sqlite_keyed.proofs.KeyedLemmas.{Less-from_lt}
use Rattle.sqlite_typed.proofs.AnswerLemmas.{last_table, at_end}
use Rattle.sqlite.specs.declared.error.Error.{Error}
use Rattle.sqlite.specs.Clock as clock
use Rattle.sqlite.specs.Effect.{Database, IsDatabase}
use Rattle.sqlite.specs.State.{State, HasCleanDisk, IsUnchanged, IsRolledBack, KeepsCommit, Shown, FailsToQuery, FailsToShow, IsNotRun, IsTooLate}
use Rattle.sqlite.proofs.Callers.{reads_as}
use Rattle.lab_store_tables.specs.Schema.{lab_schema}
use Rattle.lab_store_tables.specs.Rows.{Tables, tables_in}
use Rattle.lab_store_tables.specs.Held.{IsTyped}
use Rattle.lab_store_tables.specs.Ready.{tables_of}
use Rattle.lab_store_read.proofs.Queries.{IsRead, same}
use Rattle.lab_store_read.proofs.Texts.{Means}
use Rattle.lab_store_read.proofs.Sorted.{sorted_answer}
use Rattle.lab_store_write.specs.Calls.{Steps, Finds}
use Rattle.lab_store_write.specs.Ids.{id_read}
use Rattle.lab_store_write.proofs.Inside.{ended_keeps}

-- ---- rows in the order of their ids

then_equal : (o : Ordering) → ordering_then o Equal ≡ o
then_equal Less = refl
then_equal Equal = refl
then_equal Greater = refl

by_id : (a b : ℤ) → ordering_then (value_cmp (Int a) (Int b)) Equal ≡ int_cmp a b
by_id a b = then_equal _ ∙ value_cmp-Int a b

module _ {X : Type 0} (key : X → ℤ) where
  abbrev by_key : X → X → Ordering
  by_key a b = int_cmp (key a) (key b)

  sort_rising : (xs : List X) → IsKeyedBy key xs → sort_by by_key xs ≡ xs
  sort_rising [] up = refl
  sort_rising (x ∷ xs) up = ap (insert_sorted by_key x) (sort_rising xs up.1) ∙ least xs up.0
    where
      least : (ys : List X) → AllByRecursion (λ y. key x <ℤ key y) ys → insert_sorted by_key x ys ≡ x ∷ ys
      least [] above = refl
      least (y ∷ ys) above = rw (Less-from_lt (key x) (key y) above.0) refl

-- the rows of a table that pass, in the order of their ids
abbrev pub by_key_query : ℕ → List Term → List Term → Query
by_key_query tree tests shown = record {
  from = inner tree end;
  filter = tests;
  group = None;
  project = shown;
  distinct = false;
  collations = [];
  order = (col 1 0, ascending Binary) ∷ [];
  limit = lit (Int (negsuc 0));
  offset = lit (Int (pos 0));
}

module _ {X : Type 0} (tree : ℕ) (key : X → ℤ) (to_row : X → Row) (keyed : (x : X) → column (to_row x) 0 ≡ Int (key x)) (xs : List X) (db : Trees) (stored : db tree ≡ map to_row xs) (rise : IsKeyedBy key xs) where
  pub shown_by_key : (tests shown : List Term) (params : Row) (p : X → Bool) (show : X → Row) → ((x : X) → list_all (holds (params ∷ to_row x ∷ [])) tests ≡ p x)
      → ((x : X) → eval_all shown (params ∷ to_row x ∷ []) ≡ show x) → (rows : List Row) → IsAnswer (by_key_query tree tests shown) db params rows → rows ≡ map show (filter p xs)
  shown_by_key tests shown params p show passes shows rows answer =
      let q = by_key_query tree tests shown in
      let by : (a b : X) → output_cmp q (output q (params ∷ to_row a ∷ [])) (output q (params ∷ to_row b ∷ [])) ≡ by_key key a b =
      λ a b. rw (keyed a, keyed b) (by_id (key a) (key b)) in
      let up = ascending-filter (λ a b. key a <ℤ key b) p xs rise in
      sorted_answer q db params (last_table db tree to_row key xs stored rise (at_end db)) p passes refl refl (by_key key) by
      (ascending_weaker (λ a b. key a <ℤ key b) (λ a b. is_eq (by_key key a b) ≡ false) (λ a b low. ap is_eq (Less-from_lt (key a) (key b) low)) (filter p xs) up) rows answer
      ∙ ap (map (λ x. eval_all shown (params ∷ to_row x ∷ []))) (sort_rising key (filter p xs) up) ∙ map_same _ _ shows _

  -- the same of a text that means such a query
  pub rows_by_key : (sql : List ℕ) (tests shown : List Term) (names : List (List ℕ)) → Means sql (by_key_query tree tests shown) names
      → (params : Row) (p : X → Bool) (show : X → Row) → ((x : X) → list_all (holds (params ∷ to_row x ∷ [])) tests ≡ p x) → ((x : X) → eval_all shown (params ∷ to_row x ∷ []) ≡ show x)
      → (old new : State) → old.now.schema ≡ lab_schema → overlay old.now.trees [] ≡ db → (rows : List Row) → Shown sql params old new rows → rows ≡ map show (filter p xs)
  rows_by_key sql tests shown names means params p show passes shows old new schema lies rows h =
      let read = reads_as sql params old new lab_schema schema _ means.command means.plain means.unlisted rows h in
      shown_by_key tests shown params p show passes shows rows (subst (λ (d : Trees). IsAnswer (by_key_query tree tests shown) d params rows) lies (read.answer Null))

-- the id that the first row shows is that of the row that is found
pub first_key : {X : Type 0} (key : X → ℤ) (p : X → Bool) (xs : List X) → option_map id_read (slice_get (map (λ x. Int (key x) ∷ []) (filter p xs)) 0) ≡ option_map key (find p xs)
first_key {X} key p xs = go (filter p xs) ∙ ap (option_map key) (slice_get-filter p xs)
  where
    go : (found : List X) → option_map id_read (slice_get (map (λ (x : X). Int (key x) ∷ []) found) 0) ≡ option_map key (slice_get found 0)
    go [] = refl
    go (x ∷ more) = refl

-- ---- what a query leaves

fails_kept : (sql : List ℕ) (params : Row) (old new : State) (e : Error) → FailsToQuery sql params old new e → IsUnchanged old new ⊎ IsRolledBack old new
unfolding FailsToQuery IsNotRun
fails_kept sql params old new e (inl (inl it)) = inl it.1
fails_kept sql params old new e (inl (inr it)) = inr it.3
fails_kept sql params old new e (inr h) = go h.0.returning h.2
  where
    go : (what : Option Returning) → FailsToShow old new sql h.0 (clock.timed params h.0.formats h.1.now) e what → IsUnchanged old new ⊎ IsRolledBack old new
    go None it = inl it.3
    go (Some what) (inl it) = inl it.1
    go (Some what) (inr it) = inr it.3

module _ (sql : List ℕ) (read : IsRead (first sql)) (params : Row) (old new : State) (before : HasCleanDisk new → HasCleanDisk old) where
  -- however it ends, nothing is committed
  pub looked_keeps : (r : Result (Vec Row Global) Error) → IfOk r (λ rows. Shown sql params old new rows.items)
      → IfErr r (λ e. FailsToQuery sql params old new e ⊎ IsTooLate sql params old new e) → KeepsCommit old new
  looked_keeps (Ok rows) ok err = ended_keeps old new (inl (same sql read params old new before (Ok rows) ok))
  looked_keeps (Err e) ok (inl fails) = ended_keeps old new (fails_kept sql params old new e fails)
  looked_keeps (Err e) ok (inr late) = ended_keeps old new (inl late.5)

  -- at Ok the rows are those of the tables, which stay
  pub looked : (r : Result (Vec Row Global) Error) (answer : Tables → List Row) → IsTrue old.in_transaction
      → ((rows : List Row) → IsTyped old.now → Shown sql params old new rows → rows ≡ answer (tables_of old))
      → IfOk r (λ rows. Shown sql params old new rows.items) → IfOk r (λ rows. Steps (Finds (λ t. rows.items ≡ answer t)) old new)
  looked (Ok rows) answer inside exact h =
      let it = same sql read params old new before (Ok rows) h in
      record {
        inside = it.0.mode ∙ inside;
        made = λ typed. (subst IsTyped (sym it.0.now_is) typed, (exact rows.items typed h, ap (λ (db : Database). tables_in db.trees) it.0.now_is));
        sound = λ _ rules. subst IsDatabase (sym it.0.now_is) rules;
      }
  looked (Err e) answer inside exact h = tt
