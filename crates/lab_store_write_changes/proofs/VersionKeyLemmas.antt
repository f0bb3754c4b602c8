-- A version of the record of a number, by one statement over both tables: what the look-up means, and what it finds.
-- A record that has no such version is shown too, with NULL: so the first row is the first record's, whatever the keys are.
use Rattle.std.proofs.Common.{◌≡◌, ℕ, ℤ, pos, negsuc, ◌<ℤ◌, Bool, true, false, cond, ◌&&◌, List, [], ◌∷◌, ◌++◌, map, filter, flat_map, codes, slice_get, Option, Some, None, option_map, option_and_then, refl, sym, ap, ap₂, ◌∙◌, subst, Ordering, Less, Equal, lit≤}
use Rattle.std.specs.List.{list_all, AllByRecursion}
use Rattle.std.specs.List.Sorted.{IsPermutation}
use Rattle.std.specs.Ordering.{ordering_then}
use Rattle.std.proofs.lemmas.Cmp.{tied_itself, int_cmp_total}
use Rattle.sqlite_value.specs.declared.value.Value.TheVariants.{Null, Int}
use Rattle.sqlite_value.specs.declared.keys.Collation.TheVariants.{Binary}
use Rattle.sqlite_value.specs.Keys.{ascending}
use Rattle.sqlite_value.specs.Order.{Row, value_cmp}
use Rattle.sqlite_value.proofs.OrderLemmas.{value_cmp-Int}
use Rattle.sqlite_trees.specs.Tree.{Trees, IsAscending}
use Rattle.sqlite_sql.specs.Program.{overlay}
use Rattle.sqlite_sql.specs.Term.{Term, Env, lit, col, op2, eval_all, holds}
use Rattle.sqlite_sql.specs.Query.{Query, inner, left, end, matches, or_nulls, IsAnswer, Output, output, output_cmp}
use Rattle.sqlite_sql.specs.declared.ops.BinaryOp.TheVariants.{Compare}
use Rattle.sqlite_sql.specs.declared.ops.CompareOp.TheVariants.{Eq}
use Rattle.sqlite_sql.proofs.QueryLemmas.{output_cmp_total}
use Rattle.sqlite_keyed.specs.Keyed.{IsKeyedBy}
use Rattle.sqlite_keyed.proofs.ListLemmas.{map-map, map-flat_map, flat_map-map, flat_map_same_on, flat_map_none, filter-map, filter_same, all_weaker, all-map, all-flat_map, ascending-map, ascending-filter, ascending-append, ascending_weaker, slice_get-filter}
use Rattle.sqlite_keyed.proofs.KeyedLemmas.{Less-from_lt}
use Rattle.sqlite_keyed.proofs.SortLemmas.{sorted_unique}
use Rattle.sqlite_tied.specs.Compute.{everything}
use Rattle.sqlite.specs.Listing.{understood}
use Rattle.sqlite.specs.State.{State, Shown}
use Rattle.sqlite.proofs.Callers.{reads_as}
use Rattle.lab_store_tables.specs.Schema.{lab_schema}
use Rattle.lab_store_tables.specs.Rows.{RecordRow, VersionRow, Tables, tables_in, record_id, version_id, number}
use Rattle.lab_store_tables.proofs.RowWords.{record_row, version_row}
use Rattle.lab_store_tables.specs.Changes.{is_record_row, is_version_row, version_named}
use Rattle.lab_store_tables.specs.Held.{IsTyped}
use Rattle.lab_store_tables.specs.Family.{Records, Versions}
use Rattle.lab_store_read.proofs.Texts.{Means, is_param}
use Rattle.lab_store_read.proofs.Sorted.{equal_numbers, and_true}
use Rattle.lab_store_write.specs.Calls.{Steps, Finds}
use Rattle.lab_store_write.specs.Causes.{is_reading, IsOurs}
use Rattle.lab_store_write.proofs.Inside.{steps_weaker}
use Rattle.lab_store_write.proofs.Ours.{ours}
use Rattle.lab_store_write_changes.specs.VersionsShown.{current_of, version_in_record}
use Rattle.lab_store_write_changes.specs.Private.VersionsShown.{ids_or_null, versions_shown, first_value}
use Rattle.lab_store_tables.proofs.Comparing.{equal_ints}
pub use Rattle.lab_store_write_changes.specs.Statements.{current_text, version_text}

-- ---- rows beside others, in the order of both

module _ {X Y : Type 0} (key : X → ℤ) (beside : X → List Y) where
  abbrev pairs : X → List (X × Y)
  pairs x = map (λ y. (x, y)) (beside x)

  pairs_rise : (R : X × Y → X × Y → Type 0) → ((x z : X) (y w : Y) → key x <ℤ key z → R (x, y) (z, w)) → ((x : X) → IsAscending (λ y w. R (x, y) (x, w)) (beside x))
      → (xs : List X) → IsKeyedBy key xs → IsAscending R (flat_map pairs xs)
  pairs_rise R apart own [] up = tt
  pairs_rise R apart own (x ∷ xs) up =
      ascending-append R (pairs x) (flat_map pairs xs) (ascending-map R (λ y. (x, y)) (beside x) (own x)) (pairs_rise R apart own xs up.1)
      (all-map (λ a. AllByRecursion (R a) (flat_map pairs xs)) (λ y. (x, y)) (λ y. all-flat_map (R (x, y)) pairs xs
      (all_weaker (λ z. key x <ℤ key z) (λ z. AllByRecursion (R (x, y)) (pairs z)) (λ z low. all-map (R (x, y)) (λ w. (z, w)) (λ w. apart x z y w low) (beside z)) xs up.0)) (beside x))

flat_map_kept : {A B : Type 0} (p : A → Bool) (f : A → List B) (xs : List A) → flat_map (λ x. cond (p x) (f x) []) xs ≡ flat_map f (filter p xs)
flat_map_kept p f [] = refl
flat_map_kept {A} {B} p f (x ∷ xs) = go (p x) (flat_map_kept p f xs)
  where
    go : (b : Bool) → flat_map (λ y. cond (p y) (f y) []) xs ≡ flat_map f (filter p xs)
        → cond b (f x) [] ++ flat_map (λ y. cond (p y) (f y) []) xs ≡ flat_map f (cond b (x ∷ filter p xs) (filter p xs))
    go true more = ap (λ l. f x ++ l) more
    go false more = more

each_alone : {A B : Type 0} (f : A → B) (xs : List A) → flat_map (λ x. f x ∷ []) xs ≡ map f xs
each_alone f [] = refl
each_alone f (x ∷ xs) = ap (λ l. f x ∷ l) (each_alone f xs)

-- ---- a record beside its versions, or beside nothing

abbrev or_none : List VersionRow → List (Option VersionRow)
or_none [] = None ∷ []
or_none (one ∷ others) = map Some (one ∷ others)

abbrev row_beside : Option VersionRow → Row
row_beside None = []
row_beside (Some one) = version_row one

rows_beside : (found : List VersionRow) → or_nulls (map version_row found) ≡ map row_beside (or_none found)
rows_beside [] = refl
rows_beside (one ∷ others) = sym (map-map row_beside Some (one ∷ others))

abbrev record_tests : List Term
record_tests = is_param 2 0 ∷ is_param 3 1 ∷ []

abbrev pub beside_query : List Term → Query
beside_query on = record {
  from = inner 15 (left 18 on end);
  filter = record_tests;
  group = None;
  project = col 2 0 ∷ [];
  distinct = false;
  collations = [];
  order = (col 1 0, ascending Binary) ∷ (col 2 0, ascending Binary) ∷ [];
  limit = lit (Int (negsuc 0));
  offset = lit (Int (pos 0));
}

below : (a b : ℤ) (o : Ordering) → a <ℤ b → ordering_then (value_cmp (Int a) (Int b)) o ≡ Less
below a b o low = ap (λ (p : Ordering). ordering_then p o) (value_cmp-Int a b ∙ Less-from_lt a b low)

tied : (a : ℤ) (o : Ordering) → ordering_then (value_cmp (Int a) (Int a)) o ≡ o
tied a o = ap (λ (p : Ordering). ordering_then p o) (value_cmp-Int a a ∙ tied_itself int_cmp_total a)

module _ (on : List Term) (params : Row) (db : Trees) (xs : List RecordRow) (ys : List VersionRow) (records : db 15 ≡ map record_row xs) (versions : db 18 ≡ map version_row ys)
    (up : IsKeyedBy record_id xs) (rise : IsKeyedBy version_id ys) (mine : RecordRow → Bool) (its : RecordRow → VersionRow → Bool)
    (asks : (x : RecordRow) (r : Row) → list_all (holds (params ∷ record_row x ∷ r ∷ [])) record_tests ≡ mine x)
    (leads : (x : RecordRow) (y : VersionRow) → list_all (holds (params ∷ record_row x ∷ version_row y ∷ [])) on ≡ its x y) where
  abbrev beside : RecordRow → List (Option VersionRow)
  beside x = or_none (filter (its x) ys)

  abbrev env : RecordRow × Option VersionRow → Env
  env a = params ∷ record_row a.0 ∷ row_beside a.1 ∷ []

  abbrev both : RecordRow → List (RecordRow × Option VersionRow)
  both x = map (λ o. (x, o)) (beside x)

  abbrev all : List (RecordRow × Option VersionRow)
  all = flat_map both (filter mine xs)

  found_beside : (x : RecordRow) → or_nulls (filter (λ r. list_all (holds (params ∷ record_row x ∷ r ∷ [])) on) (db 18)) ≡ map row_beside (beside x)
  found_beside x =
      ap or_nulls (ap (filter (λ r. list_all (holds (params ∷ record_row x ∷ r ∷ [])) on)) versions ∙ filter-map _ version_row ys
      ∙ ap (map version_row) (filter_same _ (its x) (leads x) ys))
      ∙ rows_beside (filter (its x) ys)

  -- the record passes, or nothing beside it does
  passes : (x : RecordRow) (found : List (Option VersionRow)) (b : Bool)
      → flat_map (λ o. cond b (env (x, o) ∷ []) []) found ≡ cond b (map env (map (λ o. (x, o)) found)) []
  passes x found true = each_alone (λ o. env (x, o)) found ∙ sym (map-map env (λ o. (x, o)) found)
  passes x found false = flat_map_none _ (λ o. refl) found

  of_record : (x : RecordRow) → matches db record_tests (left 18 on end) (params ∷ record_row x ∷ []) ≡ cond (mine x) (map env (both x)) []
  of_record x =
      let kept = λ (r : Row). let e : List Env = cond (list_all (holds (params ∷ record_row x ∷ r ∷ [])) record_tests) ((params ∷ record_row x ∷ r ∷ []) ∷ []) [] in e in
      ap (flat_map kept) (found_beside x) ∙ flat_map-map kept row_beside (beside x)
      ∙ flat_map_same_on _ (λ o. cond (mine x) (env (x, o) ∷ []) []) (λ o. ap (λ (b : Bool). cond b (env (x, o) ∷ []) []) (asks x (row_beside o))) (beside x)
      ∙ passes x (beside x) (mine x)

  matches_beside : matches db record_tests (inner 15 (left 18 on end)) (params ∷ []) ≡ map env all
  matches_beside =
      let of_row = λ (r : Row). matches db record_tests (left 18 on end) (params ∷ r ∷ []) in
      ap (flat_map of_row) records ∙ flat_map-map of_row record_row xs
      ∙ flat_map_same_on _ (λ x. cond (mine x) (map env (both x)) []) of_record xs
      ∙ flat_map_kept mine (λ x. map env (both x)) xs
      ∙ sym (map-flat_map env both (filter mine xs))

  abbrev out : RecordRow × Option VersionRow → Output
  out a = output (beside_query on) (env a)

  abbrev Rises : RecordRow × Option VersionRow → RecordRow × Option VersionRow → Type 0
  Rises a b = output_cmp (beside_query on) (out a) (out b) ≡ Less

  own_rise : (x : RecordRow) (found : List VersionRow) → IsKeyedBy version_id found → IsAscending (λ o p. Rises (x, o) (x, p)) (or_none found)
  own_rise x [] low = (tt, tt)
  own_rise x (one ∷ others) low =
      ascending-map (λ o p. Rises (x, o) (x, p)) Some (one ∷ others)
      (ascending_weaker _ (λ a b. Rises (x, Some a) (x, Some b)) (λ a b less. tied x.id _ ∙ below a.id b.id Equal less) (one ∷ others) low)

  all_rise : IsAscending Rises all
  all_rise = pairs_rise record_id beside Rises (λ x z o p low. below x.id z.id _ low)
      (λ x. own_rise x (filter (its x) ys) (ascending-filter (λ a b. version_id a <ℤ version_id b) (its x) ys rise))
      (filter mine xs) (ascending-filter (λ a b. record_id a <ℤ record_id b) mine xs up)

  ids_beside : (x : RecordRow) (found : List VersionRow) → map (λ a. eval_all (col 2 0 ∷ []) (env a)) (map (λ o. (x, o)) (or_none found)) ≡ ids_or_null found
  ids_beside x [] = refl
  ids_beside x (one ∷ others) =
      map-map (λ a. eval_all (col 2 0 ∷ []) (env a)) (λ o. (x, o)) (or_none (one ∷ others))
      ∙ map-map (λ o. eval_all (col 2 0 ∷ []) (env (x, o))) Some (one ∷ others)

  shown_beside : (rows : List Row) → IsAnswer (beside_query on) db params rows → rows ≡ flat_map (λ x. ids_or_null (filter (its x) ys)) (filter mine xs)
  shown_beside rows answer =
      let q = beside_query on in
      let arranged : IsPermutation (map out all) answer.ordered =
      subst (λ (l : List Output). IsPermutation l answer.ordered) (answer.distinct ∙ ap (map (output q)) (answer.grouped ∙ matches_beside) ∙ map-map (output q) env all) answer.same in
      let ordered = sorted_unique (output_cmp q) (output_cmp_total q) (map out all) answer.ordered (ascending-map (λ a b. output_cmp q a b ≡ Less) out all all_rise) arranged answer.sorted in
      answer.shown ∙ ap (map (λ (o : Output). o.1)) ordered ∙ map-map (λ (o : Output). o.1) out all
      ∙ map-flat_map (λ a. eval_all (col 2 0 ∷ []) (env a)) both (filter mine xs)
      ∙ flat_map_same_on _ (λ x. ids_or_null (filter (its x) ys)) (λ x. ids_beside x (filter (its x) ys)) (filter mine xs)

-- ---- the texts

-- which version it is stands in the record or in a parameter
module _ (sql : List ℕ) (on : List Term) (means : Means sql (beside_query on) (codes "id" ∷ [])) (which : RecordRow → ℕ) (lab : ℤ) (wanted : ℕ) (more : Row)
    (leads : (x : RecordRow) (y : VersionRow) → list_all (holds ((Int lab ∷ number wanted ∷ more) ∷ record_row x ∷ version_row y ∷ [])) on ≡ is_version_row x.id (which x) y) where
  versions_read : (old new : State) (rows : List Row) → IsTyped old.now → Shown sql (Int lab ∷ number wanted ∷ more) old new rows
      → rows ≡ versions_shown which lab wanted (tables_in old.now.trees)
  versions_read old new rows typed h =
      let params = Int lab ∷ number wanted ∷ more in
      let t = tables_in old.now.trees in
      let read = reads_as sql params old new lab_schema typed.schema _ means.command means.plain means.unlisted rows h in
      shown_beside on params (overlay old.now.trees []) t.records t.versions (typed.stored.at Records) (typed.stored.at Versions) (typed.rising.at Records) (typed.rising.at Versions)
      (is_record_row lab wanted) (λ x. is_version_row x.id (which x))
      (λ x r. ap₂ ◌&&◌ (equal_ints x.lab lab) (and_true _ ∙ equal_numbers x.number wanted)) leads rows (read.answer Null)

abbrev current_tests : List Term
current_tests = op2 (Compare Eq Binary) (col 2 2) (col 1 0) ∷ op2 (Compare Eq Binary) (col 2 3) (col 1 7) ∷ []

pub current_means : Means current_text (beside_query current_tests) (codes "id" ∷ [])
unfolding understood everything
current_means = record { read = (_, refl); command = refl; unlisted = refl; plain = (refl, refl) }

pub current_ours : (lab : ℤ) (wanted : ℕ) → IsOurs is_reading current_text (Int lab ∷ number wanted ∷ [])
unfolding understood everything
current_ours lab wanted = ours _ _ (lit≤ tt, refl, refl, refl, refl) current_means.unlisted

pub current_read : (old new : State) (lab : ℤ) (wanted : ℕ) (rows : List Row) → IsTyped old.now → Shown current_text (Int lab ∷ number wanted ∷ []) old new rows
    → rows ≡ versions_shown current_of lab wanted (tables_in old.now.trees)
current_read old new lab wanted =
    versions_read current_text current_tests current_means current_of lab wanted []
    (λ x y. ap₂ ◌&&◌ (equal_ints y.kept x.id) (and_true _ ∙ equal_numbers y.number x.current)) old new

abbrev version_tests : List Term
version_tests = op2 (Compare Eq Binary) (col 2 2) (col 1 0) ∷ op2 (Compare Eq Binary) (col 2 3) (col 0 2) ∷ []

pub version_means : Means version_text (beside_query version_tests) (codes "id" ∷ [])
unfolding understood everything
version_means = record { read = (_, refl); command = refl; unlisted = refl; plain = (refl, refl) }

pub version_ours : (lab : ℤ) (wanted version : ℕ) → IsOurs is_reading version_text (Int lab ∷ number wanted ∷ number version ∷ [])
unfolding understood everything
version_ours lab wanted version = ours _ _ (lit≤ tt, refl, refl, refl, refl) version_means.unlisted

pub version_read : (old new : State) (lab : ℤ) (wanted version : ℕ) (rows : List Row) → IsTyped old.now
    → Shown version_text (Int lab ∷ number wanted ∷ number version ∷ []) old new rows → rows ≡ versions_shown (λ _. version) lab wanted (tables_in old.now.trees)
version_read old new lab wanted version =
    versions_read version_text version_tests version_means (λ _. version) lab wanted (number version ∷ [])
    (λ x y. ap₂ ◌&&◌ (equal_ints y.kept x.id) (and_true _ ∙ equal_numbers y.number version)) old new

-- ---- what is found

module _ (which : RecordRow → ℕ) (lab : ℤ) (wanted : ℕ) (id : ℤ) where
  first_id : (found : List VersionRow) (more : List Row) → option_map first_value (slice_get (ids_or_null found ++ more) 0) ≡ Some (Int id)
      → option_map version_id (slice_get found 0) ≡ Some id
  first_id [] more h = absurd cc
  first_id (one ∷ others) more h = let same : one.id ≡ id = cc in ap Some same

  first_version : (t : Tables) → option_map first_value (slice_get (versions_shown which lab wanted t) 0) ≡ Some (Int id)
      → version_in_record which t lab wanted ≡ Some id
  first_version t h = ap (option_and_then named) (sym (slice_get-filter (is_record_row lab wanted) t.records)) ∙ go (filter (is_record_row lab wanted) t.records) h
    where
      named : RecordRow → Option ℤ
      named kept = version_named t kept.id (which kept)

      ids : RecordRow → List Row
      ids kept = ids_or_null (filter (is_version_row kept.id (which kept)) t.versions)

      go : (found : List RecordRow) → option_map first_value (slice_get (flat_map ids found) 0) ≡ Some (Int id) → option_and_then named (slice_get found 0) ≡ Some id
      go [] k = absurd cc
      go (kept ∷ more) k =
          ap (option_map version_id) (sym (slice_get-filter (is_version_row kept.id (which kept)) t.versions))
          ∙ first_id (filter (is_version_row kept.id (which kept)) t.versions) (flat_map ids more) k

  pub version_found : (shown rows : List Row) (old new : State) → shown ≡ rows → Steps (Finds (λ t. rows ≡ versions_shown which lab wanted t)) old new
      → option_map first_value (slice_get shown 0) ≡ Some (Int id) → Steps (Finds (λ t. version_in_record which t lab wanted ≡ Some id)) old new
  version_found shown rows old new slice it first =
      steps_weaker (Finds (λ t. rows ≡ versions_shown which lab wanted t)) (Finds (λ t. version_in_record which t lab wanted ≡ Some id)) old new
      (λ before after found. (
        first_version before (ap (λ (l : List Row). option_map first_value (slice_get l 0)) (sym (slice ∙ found.0)) ∙ first),
        found.1,
      ))
      it
