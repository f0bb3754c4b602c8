-- The exact rows of each query, in a file of ours.
use Rattle.std.proofs.Common.{◌≡◌, ℕ, ℤ, pos, true, false, ◌&&◌, ◌==◌, List, [], ◌∷◌, map, filter, Option, Some, None, option_map, unwrap_or, refl, sym, ap, ap₂, subst, ◌∙◌, int_eq}
use Rattle.std.specs.List.{AllByRecursion, list_all}
use Rattle.std.specs.Ordering.{is_eq, nat_cmp}
use Rattle.sqlite_value.specs.declared.value.Value.TheVariants.{Null, Int, Text, Blob}
use Rattle.sqlite_value.specs.Order.{Row, column}
use Rattle.sqlite_trees.specs.Tree.{Trees, IsAscending}
use Rattle.sqlite_sql.specs.Program.{overlay}
use Rattle.sqlite_sql.specs.Query.{IsAnswer, output, output_cmp}
use Rattle.sqlite_sql.specs.Term.{Term, eval_all, holds}
use Rattle.sqlite_keyed.specs.Keyed.{IsKeyedBy, get_by, has_key}
use Rattle.sqlite_keyed.specs.Lists.{sort_by}
use Rattle.sqlite_keyed.specs.Rules.{AreApart}
use Rattle.sqlite_keyed.proofs.ListLemmas.{map-map, map_same, ascending-map}
use Rattle.sqlite_keyed.proofs.SortLemmas.{sort_by-map}
use Rattle.sqlite_typed.proofs.AnswerLemmas.{last_table, next_table, at_end}
use Rattle.sqlite.specs.State.{State, Shown}
use Rattle.sqlite.proofs.Callers.{reads_as}
use Rattle.lab_store_tables.specs.Schema.{lab_schema}
use Rattle.lab_store_tables.specs.Rows.{LabRow, RecordRow, PersonRow, EntryRow, tables_in, lab_id, record_id, person_id, version_id, entry_id, signature_id, number, optional}
use Rattle.lab_store_tables.proofs.RowWords.{lab_row, record_row, person_row, version_row, entry_row, signature_row, no_person}
use Rattle.lab_store_tables.specs.Meaning.{has_code, code_of}
use Rattle.lab_store_tables.specs.Ready.{IsKept}
use Rattle.lab_store_tables.specs.Family.{Labs, Persons, Records, Versions, Entries, Signatures}
use Rattle.lab_store_read_records.specs.Heads.{is_record}
use Rattle.lab_store_read_records.specs.Shown.{labs_shown, records_shown, signatures_shown, versions_shown}
use Rattle.lab_store_read_records.specs.Private.Shown.{own_entry_shown, own_entries_shown}
use Rattle.lab_store_read_records.proofs.Keys.{labs_apart, records_apart, versions_apart, entries_apart, signatures_apart, openers, signers}
use Rattle.lab_store_read_records.proofs.Texts.{lab_text, lab_query, lab_means, record_text, record_means, child_tests, entry_text, entry_columns, entry_means, signature_text, signature_columns, signature_means, version_text, version_columns, version_means}
use Rattle.lab_store_read.proofs.Texts.{record_query, children_query, is_param}
use Rattle.lab_store_read.proofs.Sorted.{equal_numbers, and_true, by_one, only_answer, sorted_answer, own_rows}
use Rattle.lab_store_read.proofs.Lists.{alone_text, alone_numbers, at_id, untied_in, joined}
use Rattle.lab_store_tables.proofs.Comparing.{equal_ints, equal_texts}

pub labs_read : (old new : State) (code : List ℕ) (rows : List Row) → IsKept old.now → Shown lab_text (Text code ∷ []) old new rows → rows ≡ labs_shown (tables_in old.now.trees) code
labs_read old new code rows kept h =
    let params = Text code ∷ [] in
    let typed = kept.typed in
    let db = overlay old.now.trees [] in
    let xs = (tables_in old.now.trees).labs in
    let read = reads_as lab_text params old new lab_schema typed.schema _ lab_means.command lab_means.plain lab_means.unlisted rows h in
    only_answer lab_query db params (last_table db 1 lab_row lab_id xs (typed.stored.at Labs) (typed.rising.at Labs) (at_end db)) (has_code code) (λ x. and_true _ ∙ equal_texts x.code code) refl refl
    (alone_text (λ (x : LabRow). x.code) code xs (labs_apart (tables_in old.now.trees) kept.rows)) rows (read.answer Null)

pub records_read : (old new : State) (lab : ℤ) (wanted : ℕ) (rows : List Row) → IsKept old.now → Shown record_text (Int lab ∷ Int (pos wanted) ∷ []) old new rows → rows ≡ records_shown (tables_in old.now.trees) lab wanted
records_read old new lab wanted rows kept h =
    let params = Int lab ∷ Int (pos wanted) ∷ [] in
    let typed = kept.typed in
    let db = overlay old.now.trees [] in
    let xs = (tables_in old.now.trees).records in
    let read = reads_as record_text params old new lab_schema typed.schema _ record_means.command record_means.plain record_means.unlisted rows h in
    only_answer record_query db params (last_table db 15 record_row record_id xs (typed.stored.at Records) (typed.rising.at Records) (at_end db)) (is_record lab wanted)
    (λ x. ap₂ ◌&&◌ (equal_ints x.lab lab) (and_true _ ∙ equal_numbers x.number wanted)) refl refl
    (alone_numbers (λ (x : RecordRow). x.lab) (λ (x : RecordRow). x.number) lab wanted xs (records_apart (tables_in old.now.trees) kept.rows)) rows (read.answer Null)

-- ---- the rows of one parent, each with the code of a person

code_or_none : (o : Option PersonRow) → (none : PersonRow) → none.code ≡ [] → (unwrap_or o none).code ≡ unwrap_or (option_map (λ (p : PersonRow). p.code) o) []
code_or_none None none h = h
code_or_none (Some p) none h = refl

module _ {X : Type 0} (db : Trees) (tree : ℕ) (encode : X → Row) (key : X → ℤ) (xs : List X) (stored : db tree ≡ map encode xs) (rise : IsKeyedBy key xs)
    (persons_stored : db 3 ≡ map person_row (tables_in db).persons) (persons_rise : IsKeyedBy person_id (tables_in db).persons)
    (parent : X → ℤ) (num : X → ℕ) (ref : X → ℤ) (apart : AreApart (λ a b. int_eq (parent a) (parent b) && (num a == num b)) xs)
    (have : AllByRecursion (λ x. has_key person_id (tables_in db).persons (ref x) ≡ true) xs) where
  children : (none : PersonRow) → none.code ≡ [] → (tests shown : List Term) (at : ℕ) (v : ℤ) (params : Row) (show : X → List ℕ → Row)
      → ((x : X) (p : PersonRow) → list_all (holds (params ∷ encode x ∷ person_row p ∷ [])) tests ≡ (int_eq (parent x) v && int_eq p.id (ref x)))
      → ((x : X) (p : PersonRow) → eval_all shown (params ∷ encode x ∷ person_row p ∷ []) ≡ show x p.code)
      → ((x : X) → column (encode x) at ≡ Int (pos (num x)))
      → (rows : List Row) → IsAnswer (children_query tree tests shown at) db params rows
      → rows ≡ map (λ x. show x (code_of (tables_in db) (ref x))) (sort_by (λ a b. nat_cmp (num a) (num b)) (filter (λ x. int_eq (parent x) v) xs))
  children none coded tests shown at v params show passes shows numbered rows answer =
      let q = children_query tree tests shown at in
      let persons = (tables_in db).persons in
      let source = next_table db tree encode key xs stored rise (last_table db 3 person_row person_id persons persons_stored persons_rise (at_end db)) in
      let mine = λ (x : X). int_eq (parent x) v in
      let lead = λ (x : X). let both : X × PersonRow = (x, at_id person_id none persons (ref x)) in both in
      let order = λ (a b : X × PersonRow). nat_cmp (num a.0) (num b.0) in
      let found = joined person_id none mine ref persons persons_rise xs have in
      let by : (a b : X × PersonRow) → output_cmp q (output q (params ∷ encode a.0 ∷ person_row a.1 ∷ [])) (output q (params ∷ encode b.0 ∷ person_row b.1 ∷ [])) ≡ order a b =
      λ a b. rw (numbered a.0, numbered b.0) (by_one (num a.0) (num b.0)) in
      let untied = ascending-map (λ a b. is_eq (order a b) ≡ false) lead (filter mine xs) (untied_in parent num v xs apart) in
      let given = sorted_answer q db params source (λ a. mine a.0 && int_eq a.1.id (ref a.0)) (λ a. passes a.0 a.1) refl refl order by (subst (IsAscending (λ a b. is_eq (order a b) ≡ false)) (sym found) untied) rows answer in
      let each = λ (a : X × PersonRow). eval_all shown (params ∷ encode a.0 ∷ person_row a.1 ∷ []) in
      given ∙ ap (λ l. map each (sort_by order l)) found ∙ ap (map each) (sort_by-map order lead (filter mine xs)) ∙ map-map each lead _
      ∙ map_same _ _ (λ x. shows x (at_id person_id none persons (ref x)) ∙ ap (show x) (code_or_none (get_by person_id persons (ref x)) none coded)) _

pub entries_read : (old new : State) (version : ℤ) (rows : List Row) → IsKept old.now → Shown entry_text (Int version ∷ []) old new rows → rows ≡ own_entries_shown (tables_in old.now.trees) version
entries_read old new version rows kept h =
    let params = Int version ∷ [] in
    let typed = kept.typed in
    let db = overlay old.now.trees [] in
    let t = tables_in old.now.trees in
    let read = reads_as entry_text params old new lab_schema typed.schema _ entry_means.command entry_means.plain entry_means.unlisted rows h in
    own_rows db 20 entry_row entry_id t.entries (typed.stored.at Entries) (typed.rising.at Entries) (λ x. int_eq x.version version) (λ one other. nat_cmp one.place other.place)
    (untied_in (λ (x : EntryRow). x.version) (λ (x : EntryRow). x.place) version t.entries (entries_apart t kept.rows))
    (is_param 2 0 ∷ []) entry_columns 3 params own_entry_shown (λ x. Int (pos x.place))
    (λ x. and_true _ ∙ equal_ints x.version version) (λ x. refl) (λ x. refl) (λ a b. by_one a.place b.place) rows (read.answer Null)

pub signatures_read : (old new : State) (version : ℤ) (rows : List Row) → IsKept old.now → Shown signature_text (Int version ∷ []) old new rows → rows ≡ signatures_shown (tables_in old.now.trees) version
signatures_read old new version rows kept h =
    let params = Int version ∷ [] in
    let typed = kept.typed in
    let db = overlay old.now.trees [] in
    let t = tables_in old.now.trees in
    let read = reads_as signature_text params old new lab_schema typed.schema _ signature_means.command signature_means.plain signature_means.unlisted rows h in
    children db 22 signature_row signature_id t.signatures (typed.stored.at Signatures) (typed.rising.at Signatures) (typed.stored.at Persons) (typed.rising.at Persons) (λ x. x.version) (λ x. x.place) (λ x. x.person)
    (signatures_apart t kept.rows) (signers t kept.rows) no_person refl (child_tests 4) signature_columns 3 version params
    (λ x code. Text code ∷ Text x.name ∷ Text x.meaning ∷ optional Text x.reason ∷ number x.moment ∷ Blob x.digest ∷ Blob x.seal ∷ [])
    (λ x p. ap₂ ◌&&◌ (equal_ints x.version version) (and_true _ ∙ equal_ints p.id x.person)) (λ x p. refl) (λ x. refl) rows (read.answer Null)

pub versions_read : (old new : State) (id : ℤ) (rows : List Row) → IsKept old.now → Shown version_text (Int id ∷ []) old new rows → rows ≡ versions_shown (tables_in old.now.trees) id
versions_read old new id rows kept h =
    let params = Int id ∷ [] in
    let typed = kept.typed in
    let db = overlay old.now.trees [] in
    let t = tables_in old.now.trees in
    let read = reads_as version_text params old new lab_schema typed.schema _ version_means.command version_means.plain version_means.unlisted rows h in
    children db 18 version_row version_id t.versions (typed.stored.at Versions) (typed.rising.at Versions) (typed.stored.at Persons) (typed.rising.at Persons) (λ x. x.kept) (λ x. x.number) (λ x. x.opener)
    (versions_apart t kept.rows) (openers t kept.rows) no_person refl (child_tests 5) version_columns 3 id params
    (λ x code. Int x.id ∷ number x.number ∷ number x.format ∷ Text code ∷ number x.opened ∷ optional Text x.reason ∷ [])
    (λ x p. ap₂ ◌&&◌ (equal_ints x.kept id) (and_true _ ∙ equal_ints p.id x.opener)) (λ x p. refl) (λ x. refl) rows (read.answer Null)
