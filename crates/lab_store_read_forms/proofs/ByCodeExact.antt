-- The exact rows of each query, in a file of ours.
use Rattle.std.proofs.Common.{◌≡◌, ℕ, ℤ, pos, ◌&&◌, List, [], ◌∷◌, refl, ap₂, ◌∙◌}
use Rattle.sqlite_value.specs.declared.value.Value.TheVariants.{Null, Int, Text}
use Rattle.sqlite_value.specs.Order.{Row}
use Rattle.sqlite_sql.specs.Program.{overlay}
use Rattle.sqlite_typed.proofs.AnswerLemmas.{last_table, at_end}
use Rattle.sqlite.specs.State.{State, Shown}
use Rattle.sqlite.proofs.Callers.{reads_as}
use Rattle.lab_store_tables.specs.Schema.{lab_schema}
use Rattle.lab_store_tables.specs.Rows.{FormRow, form_id, tables_in}
use Rattle.lab_store_tables.proofs.RowWords.{form_row}
use Rattle.lab_store_tables.specs.Ready.{IsKept}
use Rattle.lab_store_read.proofs.Sorted.{and_true, equal_numbers, only_answer, sorted_answer}
use Rattle.lab_store_read_forms.specs.FormsByCode.{is_exact, exact_shown, is_of_code, form_versions_shown}
use Rattle.lab_store_tables.specs.Meaning.{by_form}
use Rattle.lab_store_tables.specs.Family.{Forms}
use Rattle.lab_store_read_forms.proofs.ByCodeKeys.{forms_apart}
use Rattle.lab_store_read_forms.proofs.ByCodeTexts.{exact_text, exact_query, exact_means, form_versions_text, form_versions_query, form_versions_means}
use Rattle.lab_store_read_forms.proofs.Lists.{by_text_number, untied_versions, alone_version}
use Rattle.lab_store_tables.proofs.Comparing.{equal_ints, equal_texts}

pub exact_read : (old new : State) (lab : ℤ) (code : List ℕ) (version : ℕ) (rows : List Row) → IsKept old.now
    → Shown exact_text (Int lab ∷ Text code ∷ Int (pos version) ∷ []) old new rows → rows ≡ exact_shown (tables_in old.now.trees) lab code version
exact_read old new lab code version rows kept h =
    let params = Int lab ∷ Text code ∷ Int (pos version) ∷ [] in
    let typed = kept.typed in
    let db = overlay old.now.trees [] in
    let t = tables_in old.now.trees in
    let read = reads_as exact_text params old new lab_schema typed.schema _ exact_means.command exact_means.plain exact_means.unlisted rows h in
    only_answer exact_query db params (last_table db 8 form_row form_id t.forms (typed.stored.at Forms) (typed.rising.at Forms) (at_end db)) (is_exact lab code version)
    (λ x. ap₂ ◌&&◌ (equal_ints x.lab lab) (ap₂ ◌&&◌ (equal_texts x.code code) (and_true _ ∙ equal_numbers x.version version))) refl refl
    (alone_version (λ (x : FormRow). x.lab) (λ (x : FormRow). x.code) (λ (x : FormRow). x.version) lab code version t.forms (forms_apart t kept.rows)) rows (read.answer Null)

pub form_versions_read : (old new : State) (lab : ℤ) (code : List ℕ) (rows : List Row) → IsKept old.now
    → Shown form_versions_text (Int lab ∷ Text code ∷ []) old new rows → rows ≡ form_versions_shown (tables_in old.now.trees) lab code
form_versions_read old new lab code rows kept h =
    let params = Int lab ∷ Text code ∷ [] in
    let typed = kept.typed in
    let db = overlay old.now.trees [] in
    let t = tables_in old.now.trees in
    let read = reads_as form_versions_text params old new lab_schema typed.schema _ form_versions_means.command form_versions_means.plain form_versions_means.unlisted rows h in
    sorted_answer form_versions_query db params (last_table db 8 form_row form_id t.forms (typed.stored.at Forms) (typed.rising.at Forms) (at_end db)) (is_of_code lab code)
    (λ x. ap₂ ◌&&◌ (equal_ints x.lab lab) (and_true _ ∙ equal_texts x.code code)) refl refl by_form (λ a b. by_text_number a.code b.code a.version b.version)
    (untied_versions (λ (x : FormRow). x.lab) (λ (x : FormRow). x.code) (λ (x : FormRow). x.version) lab code t.forms (forms_apart t kept.rows)) rows (read.answer Null)
