-- The exact rows of each query, in a file of ours.
use Rattle.std.proofs.Common.{◌≡◌, ◌≤◌, ℕ, ℤ, ◌&&◌, List, [], ◌∷◌, map, filter, length, Option, Some, None, option_map, unwrap_or, refl, ap, ap₂, ◌∙◌, int_eq, bytes_eq, arith}
use Rattle.std.proofs.lemmas.List.{length-map}
use Rattle.sqlite_value.specs.declared.value.Value.TheVariants.{Null, Int, Text, Blob}
use Rattle.sqlite_value.specs.Order.{Row}
use Rattle.sqlite_sql.specs.Program.{overlay}
use Rattle.sqlite_sql.specs.Term.{eval_all}
use Rattle.sqlite_keyed.specs.Keyed.{get_by}
use Rattle.sqlite_keyed.specs.Lists.{pairs}
use Rattle.sqlite_keyed.proofs.ListLemmas.{map-map, map_same}
use Rattle.sqlite_typed.proofs.AnswerLemmas.{last_table, next_table, at_end}
use Rattle.sqlite.specs.State.{State, Shown}
use Rattle.sqlite.proofs.Callers.{reads_as}
use Rattle.lab_store_tables.specs.Schema.{lab_schema}
use Rattle.lab_store_tables.specs.Rows.{PersonRow, SessionRow, tables_in, person_id, session_id, number, flag}
use Rattle.lab_store_tables.proofs.RowWords.{person_row, session_row, no_person}
use Rattle.lab_store_tables.specs.Ready.{IsKept}
use Rattle.lab_store_tables.specs.Changes.{is_session}
use Rattle.lab_store_tables.specs.Family.{Persons, Sessions}
use Rattle.lab_store_read.proofs.Sorted.{and_true, only_answer}
use Rattle.lab_store_read.proofs.Lists.{at_id, joined, alone_texts}
use Rattle.lab_store_read_people.specs.SessionsShown.{sessions_shown}
use Rattle.lab_store_read_people.proofs.SessionKeys.{tokens_apart, workers}
use Rattle.lab_store_read_people.proofs.SessionTexts.{session_text, session_query, session_columns, session_means}
use Rattle.lab_store_read_people.proofs.SessionLists.{and_moved}
use Rattle.lab_store_tables.proofs.Comparing.{equal_ints, equal_blobs}

-- a session is shown with the code of its person
code_or_none : (o : Option PersonRow) → (unwrap_or o no_person).code ≡ unwrap_or (option_map (λ (p : PersonRow). p.code) o) []
code_or_none None = refl
code_or_none (Some p) = refl

abbrev session_as : SessionRow → List ℕ → Row
session_as x code = number x.number ∷ Text code ∷ Blob x.token ∷ number x.opened ∷ number x.last ∷ flag x.closed ∷ flag x.signed ∷ []

pub sessions_read : (old new : State) (lab : ℤ) (token : List ℕ) (rows : List Row) → IsKept old.now → Shown session_text (Int lab ∷ Blob token ∷ []) old new rows
    → rows ≡ sessions_shown (tables_in old.now.trees) lab token
sessions_read old new lab token rows kept h =
    let params = Int lab ∷ Blob token ∷ [] in
    let typed = kept.typed in
    let db = overlay old.now.trees [] in
    let t = tables_in old.now.trees in
    let mine = is_session lab token in
    let lead = λ (x : SessionRow). let both : SessionRow × PersonRow = (x, at_id person_id no_person t.persons x.person) in both in
    let source = next_table db 5 session_row session_id t.sessions (typed.stored.at Sessions) (typed.rising.at Sessions) (last_table db 3 person_row person_id t.persons (typed.stored.at Persons) (typed.rising.at Persons) (at_end db)) in
    let found = joined person_id no_person mine (λ x. x.person) t.persons (typed.rising.at Persons) t.sessions (workers t kept.rows) in
    let alone = alone_texts (λ (x : SessionRow). x.lab) (λ (x : SessionRow). x.token) lab token t.sessions (tokens_apart t kept.rows) in
    let short : length (filter (λ (a : SessionRow × PersonRow). mine a.0 && int_eq a.1.id a.0.person) (pairs t.sessions t.persons)) ≤ 1 =
    let same = ap length found ∙ length-map (filter mine t.sessions) lead in omega (arith, same, alone) in
    let read = reads_as session_text params old new lab_schema typed.schema _ session_means.command session_means.plain session_means.unlisted rows h in
    let given = only_answer session_query db params source (λ a. mine a.0 && int_eq a.1.id a.0.person)
    (λ a. ap₂ ◌&&◌ (equal_ints a.0.lab lab) (ap₂ ◌&&◌ (equal_blobs a.0.token token) (and_true _ ∙ equal_ints a.1.id a.0.person)) ∙ and_moved (int_eq a.0.lab lab) (bytes_eq a.0.token token) (int_eq a.1.id a.0.person)) refl refl short rows (read.answer Null) in
    let each = λ (a : SessionRow × PersonRow). eval_all session_columns (params ∷ session_row a.0 ∷ person_row a.1 ∷ []) in
    given ∙ ap (map each) found ∙ map-map each lead _ ∙ map_same _ _ (λ x. ap (session_as x) (code_or_none (get_by person_id t.persons x.person))) _
