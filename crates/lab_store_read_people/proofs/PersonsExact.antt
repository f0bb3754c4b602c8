-- The exact rows of each query, in a file of ours.
use Rattle.std.proofs.Common.{◌≡◌, ℕ, ℤ, ◌&&◌, List, [], ◌∷◌, length, refl, ap, ap₂, ◌∙◌, int_eq}
use Rattle.std.specs.Ordering.{nat_cmp}
use Rattle.std.specs.Cmp.Lexicographic.{slice_cmp}
use Rattle.sqlite_value.specs.declared.value.Value.TheVariants.{Null, Int, Text}
use Rattle.sqlite_value.specs.Order.{Row}
use Rattle.sqlite_sql.specs.Program.{overlay}
use Rattle.sqlite_typed.proofs.AnswerLemmas.{last_table, at_end}
use Rattle.sqlite.specs.State.{State, Shown}
use Rattle.sqlite.proofs.Callers.{reads_as}
use Rattle.lab_store_tables.specs.Schema.{lab_schema}
use Rattle.lab_store_tables.specs.Rows.{PersonRow, tables_in, person_id}
use Rattle.lab_store_tables.proofs.RowWords.{person_row}
use Rattle.lab_store_tables.specs.Ready.{IsKept}
use Rattle.lab_store_tables.specs.Changes.{is_person}
use Rattle.lab_store_tables.specs.Meaning.{persons_of}
use Rattle.lab_store_tables.specs.Family.{Persons}
use Rattle.lab_store_read.proofs.Texts.{is_param}
use Rattle.lab_store_read.proofs.Sorted.{and_true, only_answer, own_rows}
use Rattle.lab_store_read_people.specs.PersonsShown.{person_shown, person_shown_by, persons_shown}
use Rattle.lab_store_read_people.specs.Private.CountsShown.{count_shown}
use Rattle.lab_store_read_people.proofs.CountAnswers.{count_answer, persons_counted}
use Rattle.lab_store_read_people.proofs.PersonKeys.{persons_apart}
use Rattle.lab_store_read_people.proofs.PersonTexts.{person_text, person_query, person_means, persons_text, person_columns, persons_means, count_text, count_query, count_means}
use Rattle.lab_store_read_people.proofs.PersonLists.{by_text}
use Rattle.lab_store_read.proofs.Lists.{untied_texts, alone_texts}
use Rattle.lab_store_tables.proofs.Comparing.{equal_ints, equal_texts}

pub person_rows_read : (old new : State) (lab : ℤ) (code : List ℕ) (rows : List Row) → IsKept old.now → Shown person_text (Int lab ∷ Text code ∷ []) old new rows
    → rows ≡ person_shown_by (tables_in old.now.trees) lab code
person_rows_read old new lab code rows kept h =
    let params = Int lab ∷ Text code ∷ [] in
    let typed = kept.typed in
    let db = overlay old.now.trees [] in
    let t = tables_in old.now.trees in
    let read = reads_as person_text params old new lab_schema typed.schema _ person_means.command person_means.plain person_means.unlisted rows h in
    only_answer person_query db params (last_table db 3 person_row person_id t.persons (typed.stored.at Persons) (typed.rising.at Persons) (at_end db)) (is_person lab code)
    (λ x. ap₂ ◌&&◌ (equal_ints x.lab lab) (and_true _ ∙ equal_texts x.code code)) refl refl
    (alone_texts (λ (x : PersonRow). x.lab) (λ (x : PersonRow). x.code) lab code t.persons (persons_apart t kept.rows)) rows (read.answer Null)

pub persons_rows_read : (old new : State) (lab : ℤ) (rows : List Row) → IsKept old.now → Shown persons_text (Int lab ∷ []) old new rows → rows ≡ persons_shown (tables_in old.now.trees) lab
persons_rows_read old new lab rows kept h =
    let params = Int lab ∷ [] in
    let typed = kept.typed in
    let db = overlay old.now.trees [] in
    let t = tables_in old.now.trees in
    let read = reads_as persons_text params old new lab_schema typed.schema _ persons_means.command persons_means.plain persons_means.unlisted rows h in
    own_rows db 3 person_row person_id t.persons (typed.stored.at Persons) (typed.rising.at Persons) (λ x. int_eq x.lab lab) (λ one other. slice_cmp nat_cmp one.code other.code)
    (untied_texts (λ (x : PersonRow). x.lab) (λ (x : PersonRow). x.code) lab t.persons (persons_apart t kept.rows))
    (is_param 2 0 ∷ []) person_columns 3 params person_shown (λ x. Text x.code)
    (λ x. and_true _ ∙ equal_ints x.lab lab) (λ x. refl) (λ x. refl) (λ a b. by_text a.code b.code) rows (read.answer Null)

pub counts_read : (old new : State) (lab : ℤ) (rows : List Row) → IsKept old.now → Shown count_text (Int lab ∷ []) old new rows
    → rows ≡ count_shown (length (persons_of (tables_in old.now.trees) lab))
counts_read old new lab rows kept h =
    let params = Int lab ∷ [] in
    let typed = kept.typed in
    let db = overlay old.now.trees [] in
    let t = tables_in old.now.trees in
    let read = reads_as count_text params old new lab_schema typed.schema _ count_means.command count_means.plain count_means.unlisted rows h in
    count_answer count_query db params (last_table db 3 person_row person_id t.persons (typed.stored.at Persons) (typed.rising.at Persons) (at_end db)) (λ x. int_eq x.lab lab)
    (λ x. and_true _ ∙ equal_ints x.lab lab) refl refl refl rows (read.answer Null)
    ∙ ap count_shown (persons_counted t lab)
