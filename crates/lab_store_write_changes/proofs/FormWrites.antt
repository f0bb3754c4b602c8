-- What each statement on forms means, and what it makes of the tables.
use Rattle.std.proofs.Common.{◌≡◌, ℕ, Ok}
use Rattle.sqlite_value.specs.Order.{Row}
use Rattle.sqlite_keyed.specs.Keyed.{next_key}
use Rattle.sqlite.specs.State.{State, Executes}
use Rattle.lab_store_tables.specs.Rows.{FormRow, form_id, FieldRow, field_id, ChoiceRow, choice_id, tables_in}
use Rattle.lab_store_tables.specs.Changes.{put_form, put_field, put_choice}
use Rattle.lab_store_tables.specs.Held.{IsTyped}
use Rattle.lab_store_tables.specs.Family.{Forms, Fields, Choices}
use Rattle.lab_store_tables.proofs.FamilyWords.{values_of}
use Rattle.lab_store_write.specs.Causes.{is_writing, IsOurs}
use Rattle.lab_store_write.proofs.Inserts.{adds, adds_ours, ids}
use Rattle.lab_store_write.proofs.Inside.{Wrote}
pub use Rattle.lab_store_write_changes.specs.Statements.{add_form_text, add_field_text, add_choice_text}

-- ---- a row more of forms

-- the columns of the row but its ids
abbrev pub form_values : FormRow → Row
form_values = values_of Forms

pub adds_form : (one : FormRow) (old new : State) (count : ℕ) → IsTyped old.now → one.id ≡ next_key form_id (tables_in old.now.trees).forms
    → Executes add_form_text (form_values one) old new (Ok count)
    → Wrote (put_form one (tables_in old.now.trees)) new.now
adds_form = adds Forms

pub add_form_ours : (one : FormRow) → IsOurs is_writing add_form_text (form_values one)
add_form_ours = adds_ours Forms

-- the id that the connection tells then
pub ids_form : (one : FormRow) (old new : State) (count : ℕ) → IsTyped old.now → Executes add_form_text (form_values one) old new (Ok count)
    → new.last_rowid ≡ next_key form_id (tables_in old.now.trees).forms
ids_form = ids Forms

-- ---- a row more of fields

-- the columns of the row but its ids
abbrev pub field_values : FieldRow → Row
field_values = values_of Fields

pub adds_field : (one : FieldRow) (old new : State) (count : ℕ) → IsTyped old.now → one.id ≡ next_key field_id (tables_in old.now.trees).fields
    → Executes add_field_text (field_values one) old new (Ok count)
    → Wrote (put_field one (tables_in old.now.trees)) new.now
adds_field = adds Fields

pub add_field_ours : (one : FieldRow) → IsOurs is_writing add_field_text (field_values one)
add_field_ours = adds_ours Fields

-- the id that the connection tells then
pub ids_field : (one : FieldRow) (old new : State) (count : ℕ) → IsTyped old.now → Executes add_field_text (field_values one) old new (Ok count)
    → new.last_rowid ≡ next_key field_id (tables_in old.now.trees).fields
ids_field = ids Fields

-- ---- a row more of choices

-- the columns of the row but its ids
abbrev pub choice_values : ChoiceRow → Row
choice_values = values_of Choices

pub adds_choice : (one : ChoiceRow) (old new : State) (count : ℕ) → IsTyped old.now → one.id ≡ next_key choice_id (tables_in old.now.trees).choices
    → Executes add_choice_text (choice_values one) old new (Ok count)
    → Wrote (put_choice one (tables_in old.now.trees)) new.now
adds_choice = adds Choices

pub add_choice_ours : (one : ChoiceRow) → IsOurs is_writing add_choice_text (choice_values one)
add_choice_ours = adds_ours Choices
