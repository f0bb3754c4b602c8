-- The exact rows of each query, in a file of ours.
use Rattle.std.proofs.Common.{◌≡◌, ℤ, List, [], ◌∷◌, refl, ◌∙◌}
use Rattle.sqlite_value.specs.declared.value.Value.TheVariants.{Null, Int}
use Rattle.sqlite_value.specs.Order.{Row}
use Rattle.sqlite_sql.specs.Program.{overlay}
use Rattle.sqlite_typed.proofs.AnswerLemmas.{last_table, at_end}
use Rattle.sqlite.specs.State.{State, Shown}
use Rattle.sqlite.proofs.Callers.{reads_as}
use Rattle.lab_store_tables.specs.Schema.{lab_schema}
use Rattle.lab_store_tables.specs.Rows.{PersonRow, tables_in, person_id}
use Rattle.lab_store_tables.proofs.RowWords.{person_row}
use Rattle.lab_store_tables.specs.Ready.{IsKept}
use Rattle.lab_store_tables.specs.Family.{Persons}
use Rattle.std.specs.Ordering.{int_eq}
use Rattle.sqlite_keyed.proofs.RuleLemmas.{at_most_one}
use Rattle.lab_store_read.proofs.Sorted.{and_true, only_answer}
use Rattle.lab_store_read.specs.Shown.{codes_shown}
use Rattle.lab_store_read.proofs.Texts.{code_text, code_query, code_means}
use Rattle.lab_store_tables.proofs.Comparing.{equal_ints}

pub codes_read : (old new : State) (id : ℤ) (rows : List Row) → IsKept old.now → Shown code_text (Int id ∷ []) old new rows → rows ≡ codes_shown (tables_in old.now.trees) id
codes_read old new id rows kept h =
    let params = Int id ∷ [] in
    let typed = kept.typed in
    let db = overlay old.now.trees [] in
    let xs = (tables_in old.now.trees).persons in
    let mine = λ (x : PersonRow). int_eq x.id id in
    let read = reads_as code_text params old new lab_schema typed.schema _ code_means.command code_means.plain code_means.unlisted rows h in
    only_answer code_query db params (last_table db 3 person_row person_id xs (typed.stored.at Persons) (typed.rising.at Persons) (at_end db)) mine
    (λ x. and_true _ ∙ equal_ints x.id id) refl refl (at_most_one person_id id mine (λ x e. e) xs (typed.rising.at Persons)) rows (read.answer Null)
