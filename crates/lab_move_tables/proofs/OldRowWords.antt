-- Definitions for proofs only, which belong to specs/OldRows.antt: no clause names them. A row as an older schema keeps it;
-- what each schema has of a person, of a form and of a version stands first.
use Rattle.std.specs.Prelude.{ℕ, List, [], ◌∷◌, drop, Option}
use Rattle.sqlite_value.specs.declared.value.Value.{Value}
use Rattle.sqlite_value.specs.declared.value.Value.TheVariants.{Null, Int, Text, Blob}
use Rattle.sqlite_value.specs.Order.{Row}
use Rattle.lab_store_tables.specs.Rows.{PersonRow, FormRow, VersionRow, EntryRow, SignatureRow, number}
use Rattle.lab_store_tables.specs.Family.{Name, RowOf, Persons, Forms, Versions, Entries, Signatures, row_by}
use Rattle.lab_store_tables.proofs.FamilyWords.{stored_row}
use Rattle.lab_move_tables.specs.Olders.{layout_of}
use Rattle.lab_move_tables.specs.declared.older.Older.{Older}
use Rattle.lab_move_tables.specs.declared.older.Older.TheVariants.{Two}

abbrev pub old_person_row : Older → PersonRow → Row
old_person_row older one = Int one.id ∷ Null ∷ Int one.lab ∷ Text one.code ∷ drop 4 (row_by (layout_of older) Persons one)

abbrev pub old_form_row : Older → FormRow → Row
old_form_row older one = Int one.id ∷ Null ∷ Int one.lab ∷ Text one.code ∷ number one.version ∷ drop 5 (row_by (layout_of older) Forms one)

-- ---- with a reason, however that is written

abbrev version_rest : Older → (Option (List ℕ) → Value) → VersionRow → Row
version_rest Two write one = Int one.opener ∷ number one.opened ∷ write one.reason ∷ []

abbrev pub version_by : Older → (Option (List ℕ) → Value) → VersionRow → Row
version_by older write one = Int one.id ∷ Null ∷ Int one.kept ∷ number one.number ∷ version_rest older write one

abbrev pub entry_by : (Option (List ℕ) → Value) → EntryRow → Row
entry_by write one =
    Int one.id ∷ Null ∷ Int one.version ∷ number one.place ∷ Text one.key ∷ Text one.value ∷ Text one.unit ∷ Int one.person ∷ number one.moment ∷ write one.reason ∷ []

abbrev pub signature_by : (Option (List ℕ) → Value) → SignatureRow → Row
signature_by write one =
    Int one.id ∷ Null ∷ Int one.version ∷ number one.place ∷ Int one.person ∷ Text one.name ∷ Text one.meaning ∷ number one.moment ∷ write one.reason ∷ Blob one.digest ∷ Blob one.seal ∷ []

abbrev pub old_row : Older → (Option (List ℕ) → Value) → (k : Name) → RowOf k → Row
old_row older write Persons = old_person_row older
old_row older write Forms = old_form_row older
old_row older write Versions = version_by older write
old_row older write Entries = entry_by write
old_row older write Signatures = signature_by write
old_row older write k = stored_row k
