-- What each statement on persons means, and what it makes of the tables.
use Rattle.std.proofs.Common.{◌≡◌, ℕ, ℤ, List, ◌∷◌, Ok, refl, ap, subst, lit≤, int_eq}
use Rattle.sqlite_value.specs.declared.value.Value.TheVariants.{Int}
use Rattle.sqlite_value.specs.Order.{Row}
use Rattle.sqlite_tied.specs.Compute.{everything}
use Rattle.sqlite_keyed.specs.Keyed.{next_key}
use Rattle.sqlite_keyed.specs.Lists.{update_where}
use Rattle.sqlite_keyed.proofs.KeyedLemmas.{same_int}
use Rattle.sqlite.specs.Listing.{understood}
use Rattle.sqlite.specs.State.{State, Executes}
use Rattle.lab_store_tables.specs.Rows.{PersonRow, person_id, tables_in}
use Rattle.lab_store_tables.specs.Changes.{put_person, set_person}
use Rattle.lab_store_tables.specs.Held.{IsTyped}
use Rattle.lab_store_tables.specs.Sheets.{names}
use Rattle.lab_store_tables.specs.Family.{Persons, kept}
use Rattle.lab_store_tables.proofs.FamilyWords.{values_of}
use Rattle.lab_store_write.specs.Causes.{is_writing, IsOurs}
use Rattle.lab_store_write.proofs.Inserts.{adds, adds_ours}
use Rattle.lab_store_write.proofs.Updates.{IsUpdate, given, by_id, sets}
use Rattle.lab_store_write.proofs.Writes.{update_same}
use Rattle.lab_store_write.proofs.Inside.{Wrote}
use Rattle.lab_store_write.proofs.Ours.{ours}
pub use Rattle.lab_store_write.specs.Statements.{add_person_text, set_person_text}

-- ---- a row more of persons

-- the columns of the row but its ids
abbrev pub person_values : PersonRow → Row
person_values = values_of Persons

pub adds_person : (one : PersonRow) (old new : State) (count : ℕ) → IsTyped old.now → one.id ≡ next_key person_id (tables_in old.now.trees).persons → Executes add_person_text (person_values one) old new (Ok count)
    → Wrote (put_person one (tables_in old.now.trees)) new.now
adds_person = adds Persons

pub add_person_ours : (one : PersonRow) → IsOurs is_writing add_person_text (person_values one)
add_person_ours = adds_ours Persons

-- ---- a row of persons set, but its ids

set_person_is : IsUpdate Persons by_id (given 1 (names (kept Persons).sheet.columns)) set_person_text
unfolding understood everything
set_person_is = ((refl, refl), refl)

pub set_person_ours : (id : ℤ) (row : PersonRow) → IsOurs is_writing set_person_text (Int id ∷ person_values row)
unfolding understood everything
set_person_ours id row = ours _ _ (lit≤ tt, refl, refl, refl, refl) refl

pub sets_person : (row : PersonRow) (old new : State) (count : ℕ) → IsTyped old.now → Executes set_person_text (Int row.id ∷ person_values row) old new (Ok count)
    → Wrote (set_person row (tables_in old.now.trees)) new.now
sets_person row old new count typed did =
    let mine = λ (one : PersonRow). int_eq one.id row.id in
    let next = λ (one : PersonRow). record row { id = one.id } in
    let persons = (tables_in old.now.trees).persons in
    let same : update_where mine next persons ≡ update_where mine (λ (one : PersonRow). row) persons =
    update_same mine next (λ (one : PersonRow). row) (λ one here. ap (λ (id : ℤ). record row { id = id }) (same_int one.id row.id here)) persons in
    subst (λ (l : List PersonRow). Wrote (record (tables_in old.now.trees) { persons = l }) new.now) same
    (sets Persons (given 1 (names (kept Persons).sheet.columns)) set_person_text set_person_is row.id (person_values row) next (λ _. refl) (λ _. refl) old new count typed did)
