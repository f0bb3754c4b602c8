-- What the question for the numbers of rows means under today's schema, and what it shows.
use Rattle.std.proofs.Common.{◌≡◌, ◌≤◌, ℕ, pos, negsuc, true, false, cond, List, [], ◌∷◌, ◌++◌, length, flat_map, codes, None, refl, subst, ap, suc, ◌∙◌, append_assoc, Equal, arith, lit≤}
use Rattle.std.specs.List.{list_all}
use Rattle.std.proofs.lemmas.List.{length-map}
use Rattle.sqlite_value.specs.declared.value.Value.TheVariants.{Int, Null}
use Rattle.sqlite_value.specs.Order.{Row}
use Rattle.sqlite_trees.specs.Tree.{Trees}
use Rattle.sqlite_schema.specs.declared.command.Command.TheVariants.{Select}
use Rattle.sqlite_resolve.specs.Compile.{first}
use Rattle.sqlite_tied.specs.Compute.{everything}
use Rattle.sqlite.specs.Listing.{understood, reads_listing}
use Rattle.sqlite.proofs.Callers.{IsPlain, command_of, reads_as}
use Rattle.sqlite.specs.Effect.{Database}
use Rattle.sqlite.specs.State.{State, Shown}
use Rattle.sqlite_sql.specs.Program.{overlay}
use Rattle.sqlite_sql.specs.Query.{Query, Join, inner, end, counted, matches, IsAnswer}
use Rattle.sqlite_sql.specs.Term.{Term, Env, lit, col, holds}
use Rattle.sqlite_typed.proofs.AnswerLemmas.{Source, Tail, at_end}
use Rattle.lab_store_tables.specs.Rows.{Tables, tables_in}
use Rattle.lab_store_tables.specs.Held.{IsTyped}
use Rattle.lab_store_tables.specs.Ready.{tables_of}
use Rattle.lab_store_tables.specs.Schema.{lab_schema}
use Rattle.lab_store_tables.specs.Family.{Labs, Persons, Sessions, Forms, Fields, Choices, Records, Versions, Entries, Signatures, Trail}
use Rattle.lab_store_read.proofs.Queries.{IsRead}
use Rattle.lab_store_read.proofs.Sorted.{only_answer}
use Rattle.lab_move_tables.specs.Answering.{IsTaken}
use Rattle.lab_move_tables.proofs.OldTaken.{taken_so}
use Rattle.lab_move.specs.Counting.{AreAlike, AreCounts, counts_row, counts_text, shown_count}

-- ---- the question

abbrev counts_names : List (List ℕ)
counts_names =
    codes "(SELECT count(*) FROM labs)"
    ∷ codes "(SELECT count(*) FROM persons)"
    ∷ codes "(SELECT count(*) FROM sessions)"
    ∷ codes "(SELECT count(*) FROM forms)"
    ∷ codes "(SELECT count(*) FROM fields)"
    ∷ codes "(SELECT count(*) FROM choices)"
    ∷ codes "(SELECT count(*) FROM records)"
    ∷ codes "(SELECT count(*) FROM versions)"
    ∷ codes "(SELECT count(*) FROM entries)"
    ∷ codes "(SELECT count(*) FROM signatures)"
    ∷ codes "(SELECT count(*) FROM trail)"
    ∷ []

abbrev pub counts_query : Query
counts_query = record {
  from = counted 9223372036854775807 (inner 1 end) [] (counted 9223372036854775807 (inner 3 end) [] (counted 9223372036854775807 (inner 5 end) [] (counted 9223372036854775807 (inner 8 end) [] (counted 9223372036854775807 (inner 10 end) [] (counted 9223372036854775807 (inner 13 end) [] (counted 9223372036854775807 (inner 15 end) [] (counted 9223372036854775807 (inner 18 end) [] (counted 9223372036854775807 (inner 20 end) [] (counted 9223372036854775807 (inner 22 end) [] (counted 9223372036854775807 (inner 25 end) [] (end)))))))))));
  filter = [];
  group = None;
  project = col 1 0 ∷ col 2 0 ∷ col 3 0 ∷ col 4 0 ∷ col 5 0 ∷ col 6 0 ∷ col 7 0 ∷ col 8 0 ∷ col 9 0 ∷ col 10 0 ∷ col 11 0 ∷ [];
  distinct = false;
  collations = [];
  order = [];
  limit = lit (Int (negsuc 0));
  offset = lit (Int (pos 0));
}

pub counts_read : IsRead (first counts_text)
unfolding understood everything
counts_read = (_, refl)

pub counts_are : command_of (understood lab_schema counts_text) ≡ Select (record { lets = []; body = counts_query }) counts_names
unfolding understood everything
counts_are = refl

pub counts_unlisted : reads_listing lab_schema counts_text ≡ false
unfolding understood everything
counts_unlisted = refl

pub counts_plain : IsPlain (understood lab_schema counts_text)
unfolding understood everything
counts_plain = (refl, refl)

pub counts_taken : (db : Database) → db.schema ≡ lab_schema → IsTaken db counts_text []
unfolding understood everything
counts_taken db has = taken_so db has (record { read = counts_read; command = counts_are; unlisted = counts_unlisted; plain = counts_plain }) [] (lit≤ tt, refl) refl refl refl

-- ---- steps that count the rows of a table

-- each row is found once
found_once : (f : Row → Env) (rows : List Row) → length (flat_map (λ r. f r ∷ []) rows) ≡ length rows
found_once f [] = refl
found_once f (r ∷ rows) = ap (λ n. suc n) (found_once f rows)

module _ (db : Trees) (t : ℕ) {from : Join} (more : Tail db from) where
  abbrev pub counted_row : Row
  counted_row = shown_count (length (db t)) ∷ []

  pub counted_later : (terms : List Term) (before : Env) → matches db terms (counted 9223372036854775807 (inner t end) [] from) before
      ≡ cond (list_all (holds (before ++ (counted_row ∷ more.extra (before ++ counted_row ∷ [])))) terms) ((before ++ (counted_row ∷ more.extra (before ++ counted_row ∷ []))) ∷ []) []
  counted_later terms before =
      ap (λ n. matches db terms from (before ++ (shown_count n ∷ []) ∷ [])) (found_once (λ r. before ++ r ∷ []) (db t))
      ∙ more.ends terms (before ++ counted_row ∷ [])
      ∙ ap (λ e. cond (list_all (holds e) terms) (e ∷ []) []) (append_assoc before (counted_row ∷ []) (more.extra (before ++ counted_row ∷ [])))

  abbrev pub then_counted : Tail db (counted 9223372036854775807 (inner t end) [] from)
  then_counted = record { extra = λ before. counted_row ∷ more.extra (before ++ counted_row ∷ []); ends = counted_later }

-- steps alone are gone through once
abbrev of_tail : {db : Trees} {from : Join} → Tail db from → Source db from (Unit {0})
of_tail tail = record {
  rows = tt ∷ [];
  env = λ before one. tail.extra before;
  cmp = λ one other. Equal;
  covers = λ terms before. tail.ends terms before;
  rises = (tt, tt);
}

abbrev trees_row : Trees → Row
trees_row trees =
    shown_count (length (trees 1))
    ∷ shown_count (length (trees 3))
    ∷ shown_count (length (trees 5))
    ∷ shown_count (length (trees 8))
    ∷ shown_count (length (trees 10))
    ∷ shown_count (length (trees 13))
    ∷ shown_count (length (trees 15))
    ∷ shown_count (length (trees 18))
    ∷ shown_count (length (trees 20))
    ∷ shown_count (length (trees 22))
    ∷ shown_count (length (trees 25))
    ∷ []

counts_found : (db : Trees) (rows : List Row) → IsAnswer counts_query db [] rows → rows ≡ trees_row db ∷ []
counts_found db rows answer =
    let tail = then_counted db 1 (then_counted db 3 (then_counted db 5 (then_counted db 8 (then_counted db 10 (then_counted db 13 (then_counted db 15 (then_counted db 18 (then_counted db 20 (then_counted db 22 (then_counted db 25 (at_end db))))))))))) in
    let short : 1 ≤ 1 = omega arith in
    only_answer counts_query db [] (of_tail tail) (λ _. true) (λ _. refl) refl refl short rows answer

trees_counted : (db : Database) → IsTyped db → trees_row db.trees ≡ counts_row (tables_in db.trees)
trees_counted db typed =
    let many_labs : length (db.trees 1) ≡ length (tables_in db.trees).labs = ap length (typed.stored.at Labs) ∙ length-map _ _ in
    let many_persons : length (db.trees 3) ≡ length (tables_in db.trees).persons = ap length (typed.stored.at Persons) ∙ length-map _ _ in
    let many_sessions : length (db.trees 5) ≡ length (tables_in db.trees).sessions = ap length (typed.stored.at Sessions) ∙ length-map _ _ in
    let many_forms : length (db.trees 8) ≡ length (tables_in db.trees).forms = ap length (typed.stored.at Forms) ∙ length-map _ _ in
    let many_fields : length (db.trees 10) ≡ length (tables_in db.trees).fields = ap length (typed.stored.at Fields) ∙ length-map _ _ in
    let many_choices : length (db.trees 13) ≡ length (tables_in db.trees).choices = ap length (typed.stored.at Choices) ∙ length-map _ _ in
    let many_records : length (db.trees 15) ≡ length (tables_in db.trees).records = ap length (typed.stored.at Records) ∙ length-map _ _ in
    let many_versions : length (db.trees 18) ≡ length (tables_in db.trees).versions = ap length (typed.stored.at Versions) ∙ length-map _ _ in
    let many_entries : length (db.trees 20) ≡ length (tables_in db.trees).entries = ap length (typed.stored.at Entries) ∙ length-map _ _ in
    let many_signatures : length (db.trees 22) ≡ length (tables_in db.trees).signatures = ap length (typed.stored.at Signatures) ∙ length-map _ _ in
    let many_trail : length (db.trees 25) ≡ length (tables_in db.trees).trail = ap length (typed.stored.at Trail) ∙ length-map _ _ in
    λ i.
    shown_count (many_labs i)
    ∷ shown_count (many_persons i)
    ∷ shown_count (many_sessions i)
    ∷ shown_count (many_forms i)
    ∷ shown_count (many_fields i)
    ∷ shown_count (many_choices i)
    ∷ shown_count (many_records i)
    ∷ shown_count (many_versions i)
    ∷ shown_count (many_entries i)
    ∷ shown_count (many_signatures i)
    ∷ shown_count (many_trail i)
    ∷ []

pub counts_known : (old new : State) (rows : List Row) → IsTyped old.now → Shown counts_text [] old new rows → rows ≡ counts_row (tables_of old) ∷ []
counts_known old new rows typed h =
    let read = reads_as counts_text [] old new lab_schema typed.schema _ counts_are counts_plain counts_unlisted rows h in
    counts_found (overlay old.now.trees []) rows (read.answer Null) ∙ ap (λ row. row ∷ []) (trees_counted old.now typed)

-- ---- what both show

pub counts_by : (rows others : List Row) (t : Tables) → others ≡ counts_row t ∷ [] → AreAlike rows others → AreCounts rows t
counts_by rows others t is alike = subst (AreAlike rows) is alike
