-- What an INSERT of a row makes, for every table.
use Rattle.std.proofs.Common.{◌≡◌, ℕ, ◌+◌, ◌/◌, List, [], ◌∷◌, length, slice_get, false, Some, Ok, refl, lit≤}
use Rattle.sqlite_value.specs.declared.value.Value.TheVariants.{Null}
use Rattle.sqlite_trees.specs.Tree.{Trees}
use Rattle.sqlite_sql.specs.Program.{overlay}
use Rattle.sqlite_schema.specs.declared.command.Command.TheVariants.{Insert}
use Rattle.sqlite_schema.specs.declared.command.Source.TheVariants.{Values}
use Rattle.sqlite_tied.specs.Compute.{everything}
use Rattle.sqlite_keyed.specs.Keyed.{next_key}
use Rattle.sqlite_keyed.proofs.KeyedLemmas.{IsKeyedBy-insert_by}
use Rattle.sqlite.specs.Effect.{value_rows}
use Rattle.sqlite.specs.Rows.{stamped}
use Rattle.sqlite.specs.Listing.{understood, reads_listing}
use Rattle.sqlite.specs.State.{State, Executes}
use Rattle.sqlite.proofs.Callers.{IsPlain, command_of}
use Rattle.lab_store_tables.specs.Schema.{lab_schema}
use Rattle.lab_store_tables.proofs.SheetWords.{insert_text, insert_terms}
use Rattle.lab_store_tables.specs.Family.{Name, Desk, RowOf, kept, id_of, rows, tables_in, Labs, Persons, Sessions, Forms, Fields, Choices, Records, Versions, Entries, Signatures, Trail}
use Rattle.lab_store_tables.proofs.FamilyWords.{table_in, values_of, stored_row, put}
use Rattle.lab_store_tables.specs.Held.{IsTyped}
use Rattle.lab_store_tables.proofs.Tables.{stored_with, rising_with, held_if_stored}
use Rattle.lab_store_write.specs.Causes.{is_writing, IsOurs}
use Rattle.lab_store_write.proofs.Columns.{cast_new}
use Rattle.lab_store_write.proofs.Writes.{add_next, next_id, uncounted}
use Rattle.lab_store_write.proofs.Inside.{Wrote}
use Rattle.lab_store_write.proofs.Ours.{IsOnRows, ours}

-- the place of the table in the schema, and how many values a row has
abbrev pub place : Name → ℕ
place Desk = 0
place Labs = 1
place Persons = 2
place Sessions = 3
place Forms = 4
place Fields = 5
place Choices = 6
place Records = 7
place Versions = 8
place Entries = 9
place Signatures = 10
place Trail = 11

abbrev width : Name → ℕ
width k = length (kept k).sheet.columns + 2

pub there : (k : Name) → slice_get lab_schema.tables (place k) ≡ Some (uncounted (table_in k))
there Desk = refl
there _ = refl

pub lies : (k : Name) (db : Trees) → overlay db [] (table_in k).tree ≡ db (table_in k).tree
lies Desk db = refl
lies _ db = refl

abbrev pub text_of : Name → List ℕ
text_of k = insert_text (kept k).sheet

plain : (k : Name) → IsPlain (understood lab_schema (text_of k))
unfolding understood everything
plain Desk = (refl, refl)
plain _ = (refl, refl)

is : (k : Name) → command_of (understood lab_schema (text_of k)) ≡ Insert (place k) (Values (insert_terms (kept k).sheet.columns) (width k))
unfolding understood everything
is Desk = refl
is _ = refl

shows : (k : Name) (one : RowOf k) → (let terms = insert_terms (kept k).sheet.columns in value_rows (stamped (uncounted (table_in k)) (values_of k one)) (width k) (length terms / width k) terms ≡ (Null ∷ Null ∷ values_of k one) ∷ [])
shows Desk one = refl
shows _ one = refl

pub adds : (k : Name) (one : RowOf k) (old new : State) (count : ℕ) → IsTyped old.now → id_of k one ≡ next_key (id_of k) (rows k (tables_in old.now.trees))
    → Executes (text_of k) (values_of k one) old new (Ok count) → Wrote (put k one (tables_in old.now.trees)) new.now
adds k one old new count typed next did =
    let t = tables_in old.now.trees in
    let it = add_next (table_in k) (id_of k) (stored_row k) (λ _. refl) (place k) (there k)
    (text_of k) (insert_terms (kept k).sheet.columns) (width k) (plain k) (is k) (values_of k one) (Null ∷ values_of k one) one old new count (rows k t) next refl (shows k one)
    (cast_new (kept k).sheet ((kept k).cells one)) typed.schema (typed.stored.at k) (typed.rising.at k) did in
    record {
      held = held_if_stored new.now (put k one t) it.schema (stored_with k old.now.trees new.now.trees t _ typed.stored it.spared it.rows)
          (rising_with k t _ typed.rising (IsKeyedBy-insert_by (id_of k) (rows k t) one (typed.rising.at k)));
      sound = it.sound;
    }

-- it is a statement of ours
asks : (k : Name) (one : RowOf k) → IsOnRows is_writing (text_of k) (length (values_of k one)) (understood lab_schema (text_of k))
unfolding understood everything
asks Desk one = (lit≤ tt, refl, refl, refl, refl)
asks _ one = (lit≤ tt, refl, refl, refl, refl)

unlisted : (k : Name) → reads_listing lab_schema (text_of k) ≡ false
unfolding understood everything
unlisted Desk = refl
unlisted _ = refl

pub adds_ours : (k : Name) (one : RowOf k) → IsOurs is_writing (text_of k) (values_of k one)
adds_ours k one = ours (text_of k) (values_of k one) (asks k one) (unlisted k)

-- the id that the connection returns then
pub ids : (k : Name) (one : RowOf k) (old new : State) (count : ℕ) → IsTyped old.now → Executes (text_of k) (values_of k one) old new (Ok count)
    → new.last_rowid ≡ next_key (id_of k) (rows k (tables_in old.now.trees))
ids k one old new count typed did =
    next_id (table_in k) (id_of k) (stored_row k) (λ _. refl) (place k) (there k)
    (text_of k) (insert_terms (kept k).sheet.columns) (width k) (plain k) (is k) (values_of k one) (Null ∷ values_of k one) old new count (rows k (tables_in old.now.trees)) (shows k one)
    (cast_new (kept k).sheet ((kept k).cells one)) typed.schema (typed.stored.at k) did
