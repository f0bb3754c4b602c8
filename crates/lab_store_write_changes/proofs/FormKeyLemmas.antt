-- Rows that are named by their parents: what each look-up means, and what it finds.
use Rattle.std.proofs.Common.{◌≡◌, ℤ, List, [], ◌∷◌, codes, refl, ◌∙◌, lit≤}
use Rattle.sqlite_value.specs.declared.value.Value.TheVariants.{Int}
use Rattle.sqlite_value.specs.Order.{Row}
use Rattle.sqlite_sql.specs.Program.{overlay}
use Rattle.sqlite_sql.specs.Term.{col}
use Rattle.sqlite_tied.specs.Compute.{everything}
use Rattle.sqlite.specs.Listing.{understood}
use Rattle.sqlite.specs.State.{State, Shown}
use Rattle.lab_store_tables.specs.Rows.{FieldRow, ChoiceRow, tables_in, field_id, choice_id}
use Rattle.lab_store_tables.proofs.RowWords.{field_row, choice_row}
use Rattle.lab_store_tables.specs.Held.{IsTyped}
use Rattle.lab_store_tables.specs.Family.{Fields, Choices}
use Rattle.lab_store_read.proofs.Texts.{Means, is_param}
use Rattle.lab_store_read.proofs.Sorted.{and_true}
use Rattle.lab_store_write.specs.Causes.{is_reading, IsOurs}
use Rattle.lab_store_write.proofs.Lookups.{by_key_query, rows_by_key}
use Rattle.lab_store_write.proofs.Ours.{ours}
use Rattle.lab_store_write_changes.specs.Private.FieldsShown.{is_field_of, is_choice_of}
use Rattle.lab_store_write_changes.proofs.FieldsShownWords.{fields_shown, choices_shown}
use Rattle.lab_store_tables.proofs.Comparing.{equal_ints}
pub use Rattle.lab_store_write_changes.specs.Statements.{fields_text, choices_text}

-- ---- the place behind the fields of one parent

pub fields_means : Means fields_text (by_key_query 10 (is_param 2 0 ∷ []) (col 1 0 ∷ [])) (codes "id" ∷ [])
unfolding understood everything
fields_means = record { read = (_, refl); command = refl; unlisted = refl; plain = (refl, refl) }

pub fields_ours : (parent : ℤ) → IsOurs is_reading fields_text (Int parent ∷ [])
unfolding understood everything
fields_ours parent = ours _ _ (lit≤ tt, refl, refl, refl, refl) fields_means.unlisted

pub fields_read : (old new : State) (parent : ℤ) (rows : List Row) → IsTyped old.now → Shown fields_text (Int parent ∷ []) old new rows
    → rows ≡ fields_shown parent (tables_in old.now.trees)
fields_read old new parent rows typed h =
    let t = tables_in old.now.trees in
    rows_by_key 10 field_id field_row (λ _. refl) t.fields (overlay old.now.trees []) (typed.stored.at Fields) (typed.rising.at Fields)
    fields_text (is_param 2 0 ∷ []) (col 1 0 ∷ []) (codes "id" ∷ []) fields_means
    (Int parent ∷ []) (is_field_of parent) (λ (one : FieldRow). Int one.id ∷ []) (λ x. and_true _ ∙ equal_ints x.form parent)
    (λ x. refl) old new typed.schema refl rows h

-- ---- the place behind the choices of one parent

pub choices_means : Means choices_text (by_key_query 13 (is_param 2 0 ∷ []) (col 1 0 ∷ [])) (codes "id" ∷ [])
unfolding understood everything
choices_means = record { read = (_, refl); command = refl; unlisted = refl; plain = (refl, refl) }

pub choices_ours : (parent : ℤ) → IsOurs is_reading choices_text (Int parent ∷ [])
unfolding understood everything
choices_ours parent = ours _ _ (lit≤ tt, refl, refl, refl, refl) choices_means.unlisted

pub choices_read : (old new : State) (parent : ℤ) (rows : List Row) → IsTyped old.now → Shown choices_text (Int parent ∷ []) old new rows
    → rows ≡ choices_shown parent (tables_in old.now.trees)
choices_read old new parent rows typed h =
    let t = tables_in old.now.trees in
    rows_by_key 13 choice_id choice_row (λ _. refl) t.choices (overlay old.now.trees []) (typed.stored.at Choices) (typed.rising.at Choices)
    choices_text (is_param 2 0 ∷ []) (col 1 0 ∷ []) (codes "id" ∷ []) choices_means
    (Int parent ∷ []) (is_choice_of parent) (λ (one : ChoiceRow). Int one.id ∷ []) (λ x. and_true _ ∙ equal_ints x.field parent)
    (λ x. refl) old new typed.schema refl rows h
