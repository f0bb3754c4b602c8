-- The exact rows of each query, in a file of ours.
use Rattle.std.proofs.Common.{◌≡◌, ℤ, pos, List, [], ◌∷◌, refl, ◌∙◌}
use Rattle.sqlite_value.specs.declared.value.Value.TheVariants.{Null, Int}
use Rattle.sqlite_value.specs.Order.{Row}
use Rattle.sqlite_sql.specs.Program.{overlay}
use Rattle.sqlite_typed.proofs.AnswerLemmas.{last_table, at_end}
use Rattle.sqlite.specs.State.{State, Shown}
use Rattle.sqlite.proofs.Callers.{reads_as}
use Rattle.lab_store_tables.specs.Schema.{lab_schema}
use Rattle.lab_store_tables.specs.Rows.{FormRow, FieldRow, tables_in, form_id, field_id}
use Rattle.lab_store_tables.proofs.RowWords.{form_row, field_row}
use Rattle.lab_store_tables.specs.Ready.{IsKept}
use Rattle.lab_store_tables.specs.Family.{Forms, Fields}
use Rattle.std.specs.Ordering.{int_eq, nat_cmp}
use Rattle.sqlite_keyed.proofs.RuleLemmas.{at_most_one}
use Rattle.lab_store_read.proofs.Lists.{untied_in}
use Rattle.lab_store_read.proofs.Sorted.{and_true, by_one, only_answer, own_rows}
use Rattle.lab_store_read.proofs.Texts.{is_param}
use Rattle.lab_store_read_forms.specs.Shown.{forms_shown, field_shown, fields_shown}
use Rattle.lab_store_read_forms.proofs.Keys.{fields_apart}
use Rattle.lab_store_read_forms.proofs.Texts.{form_text, form_query, form_means, field_text, field_columns, field_means}
use Rattle.lab_store_tables.proofs.Comparing.{equal_ints}

pub forms_read : (old new : State) (id : ℤ) (rows : List Row) → IsKept old.now → Shown form_text (Int id ∷ []) old new rows → rows ≡ forms_shown (tables_in old.now.trees) id
forms_read old new id rows kept h =
    let params = Int id ∷ [] in
    let typed = kept.typed in
    let db = overlay old.now.trees [] in
    let xs = (tables_in old.now.trees).forms in
    let mine = λ (x : FormRow). int_eq x.id id in
    let read = reads_as form_text params old new lab_schema typed.schema _ form_means.command form_means.plain form_means.unlisted rows h in
    only_answer form_query db params (last_table db 8 form_row form_id xs (typed.stored.at Forms) (typed.rising.at Forms) (at_end db)) mine
    (λ x. and_true _ ∙ equal_ints x.id id) refl refl (at_most_one form_id id mine (λ x e. e) xs (typed.rising.at Forms)) rows (read.answer Null)

pub fields_read : (old new : State) (form : ℤ) (rows : List Row) → IsKept old.now → Shown field_text (Int form ∷ []) old new rows → rows ≡ fields_shown (tables_in old.now.trees) form
fields_read old new form rows kept h =
    let params = Int form ∷ [] in
    let typed = kept.typed in
    let db = overlay old.now.trees [] in
    let t = tables_in old.now.trees in
    let read = reads_as field_text params old new lab_schema typed.schema _ field_means.command field_means.plain field_means.unlisted rows h in
    own_rows db 10 field_row field_id t.fields (typed.stored.at Fields) (typed.rising.at Fields) (λ x. int_eq x.form form) (λ one other. nat_cmp one.place other.place)
    (untied_in (λ (x : FieldRow). x.form) (λ (x : FieldRow). x.place) form t.fields (fields_apart t kept.rows))
    (is_param 2 0 ∷ []) field_columns 3 params field_shown (λ x. Int (pos x.place))
    (λ x. and_true _ ∙ equal_ints x.form form) (λ x. refl) (λ x. refl) (λ a b. by_one a.place b.place) rows (read.answer Null)
