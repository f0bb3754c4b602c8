-- What a query of a number answers: how many rows pass; and what is read of it.
use Rattle.std.proofs.Common.{◌≡◌, inl, inr, ℕ, ℤ, ◌<◌, List, [], ◌∷◌, filter, map, length, slice_get, Some, Bool, false, sym, ap, ◌∙◌, int_eq, arith}
use Rattle.std.specs.Prelude.{min, option_and_then}
use Rattle.std.specs.List.{list_all, AllZip}
use Rattle.std.specs.Cmp.{on_total}
use Rattle.std.specs.Cmp.Lexicographic.{nat_list_cmp_total}
use Rattle.std.proofs.lemmas.List.{length-map}
use Rattle.std.proofs.lemmas.List.Sorted.{length_permutation}
use Rattle.std.proofs.Math.Nat.{min-eq_left, min-eq_right}
use Rattle.std.proofs.lemmas.Bool.{cases_lt}
use Rattle.sqlite_value.specs.declared.value.Value.TheVariants.{Null}
use Rattle.sqlite_value.specs.declared.keys.Collation.TheVariants.{Binary}
use Rattle.sqlite_value.specs.Order.{Row}
use Rattle.sqlite_trees.specs.Tree.{Trees}
use Rattle.sqlite_keyed.proofs.SortLemmas.{IsPermutation-sort_by}
use Rattle.sqlite_sql.specs.Aggregate.{count}
use Rattle.sqlite_sql.specs.declared.aggregate.AggregateOp.TheVariants.{CountRows}
use Rattle.sqlite_sql.specs.Group.{Aggregate, Grouping, value_over, IsSummary}
use Rattle.sqlite_sql.specs.Query.{Query, page, IsAnswer}
use Rattle.sqlite_sql.specs.Term.{Env, eval, holds, lit}
use Rattle.sqlite_tied.specs.Listing.{count_rows, first_column}
use Rattle.sqlite_typed.proofs.AnswerLemmas.{Source, count_is}
use Rattle.sqlite.proofs.Callers.{one_permutation}
use Rattle.lab_store_tables.specs.Rows.{PersonRow, Tables, number}
use Rattle.lab_store_tables.specs.Meaning.{persons_of, by_code}
use Rattle.lab_store_read_people.specs.Private.CountsShown.{count_shown}

abbrev pub rows_counted : Aggregate
rows_counted = record { op = CountRows; distinct = false; collation = Binary; argument = lit Null }

abbrev all_counted : Grouping
all_counted = record { keys = []; collations = []; aggregates = rows_counted ∷ []; having = [] }

one_value : (group : List Env) (values : Row) → AllZip (λ a v. value_over group a ≡ Some v) (rows_counted ∷ []) values → values ≡ count (length group) ∷ []
one_value group [] k = absurd k
one_value group (v ∷ u ∷ more) k = absurd k.1
one_value group (v ∷ []) k =
    let is : count (length (map (eval (lit Null)) group)) ≡ v = (let e = k.0 in cc) in
    ap (λ y. y ∷ []) (sym is ∙ ap count (length-map group (eval (lit Null))))

one_row : (rows : List Row) (group : List Env) → AllZip (IsSummary all_counted) (group ∷ []) rows → rows ≡ count_shown (length group)
one_row [] group h = absurd h
one_row (r ∷ x ∷ more) group h = absurd h.1
one_row (r ∷ []) group h = ap (λ v. v ∷ []) (h.0.2 ∙ one_value group h.0.0 h.0.1)

module _ {A : Type 0} (q : Query) (db : Trees) (params : Row) (source : Source db q.from A) (p : A → Bool)
    (tests : (a : A) → list_all (holds (params ∷ source.env (params ∷ []) a)) q.filter ≡ p a)
    (grouped : q.group ≡ count_rows) (no_distinct : q.distinct ≡ false) (project : q.project ≡ first_column) where
  pub count_answer : (rows : List Row) → IsAnswer q db params rows → rows ≡ page q params (count_shown (length (filter p source.rows)))
  count_answer rows answer =
      let made = rw grouped at answer.grouped in
      let row = one_row made.rows made.grouping.0 (rw made.grouping.2 at made.summaries) in
      let many : length made.grouping.0 ≡ length (filter p source.rows) = length_permutation _ _ made.grouping.1 ∙ count_is q db params source p tests in
      let kept = rw (no_distinct, made.having, row) at answer.distinct in
      let ordered = one_permutation _ answer.ordered (rw kept at answer.same) in
      rw (ordered, project, many) at answer.shown

pub persons_counted : (t : Tables) (lab : ℤ) → length (filter (λ (one : PersonRow). int_eq one.lab lab) t.persons) ≡ length (persons_of t lab)
persons_counted t lab =
    length_permutation _ _ (IsPermutation-sort_by by_code (on_total (λ (one : PersonRow). one.code) nat_list_cmp_total) (filter (λ (one : PersonRow). int_eq one.lab lab) t.persons)) ∙ sym (length-map _ _)

-- the number that the first row shows, below 2^32, is how many there are
pub number_is : (rows : List Row) (many all : ℕ) → many < 4294967296 → option_and_then (λ (row : Row). slice_get row 0) (slice_get rows 0) ≡ Some (number many)
    → rows ≡ count_shown all → many ≡ all
number_is rows many all low shown is =
    let cell : Some (count all) ≡ Some (number many) = ap (λ (l : List Row). option_and_then (λ (row : Row). slice_get row 0) (slice_get l 0)) (sym is) ∙ shown in
    let least : min all 9223372036854775807 ≡ many = (let e = cell in cc) in
    elim (cases_lt all 9223372036854775807) [
      | inl below ↦ sym least ∙ min-eq_left (omega (arith, below))
      | inr above ↦ let most : min all 9223372036854775807 ≡ 9223372036854775807 = min-eq_right above in absurd (omega (arith, least, most, low))
    ]
