-- Values from outside, computed on the definitions over the small file of lab_store_tables: which rows a
-- look-up shows, in the order of their ids, and the row that each call adds (docs/TABLES.md).
use Rattle.std.proofs.Common.{◌≡◌, ◌++◌, ℤ, pos, true, [], ◌∷◌, refl}
use Rattle.std.specs.Prelude.{codes}
use Rattle.sqlite_value.specs.declared.value.Value.TheVariants.{Int}
use Rattle.sqlite_value.specs.Order.{Row}
use Rattle.lab_forms.specs.declared.forms.Field.{Field}
use Rattle.lab_forms.specs.declared.kinds.Kind.TheVariants.{YesNo}
use Rattle.lab_records_kept.specs.declared.records.FormVersion.{FormVersion}
use Rattle.lab_records_kept.proofs.KnownDefaults.{bare_field, bare_form}
use Rattle.lab_store_tables.proofs.KnownFile.{file, plainly, form, field, choice}
use Rattle.lab_store_write_changes.specs.Private.FormsAdded.{with_choice, with_field}
use Rattle.lab_store_write_changes.specs.FormsAdded.{with_form}
use Rattle.lab_store_write_changes.proofs.FieldsShownWords.{fields_shown, choices_shown}

-- a row that shows an id
abbrev shown : ℤ → Row
shown id = Int id ∷ []

-- ---- look-ups

-- in the order of their ids, which isn't that of their places
pub known_parents : (fields_shown (pos 1) file ≡ shown (pos 1) ∷ shown (pos 2) ∷ shown (pos 4) ∷ [])
    × (choices_shown (pos 4) file ≡ shown (pos 1) ∷ shown (pos 2) ∷ []) × (choices_shown (pos 1) file ≡ [])
known_parents = (refl, refl, refl)

-- ---- rows more: each has the next id of its table, whichever its place is

abbrev pub wanted : Field
wanted = record bare_field { key = codes "mould"; label = codes "Mould"; required = true; kind = YesNo }

abbrev pub approved : FormVersion
approved = record bare_form { code = codes "air"; version = 2; form = record { fields = wanted ∷ []; approval = true } }

pub known_leaves :
    ((with_choice (pos 4) 3 (codes "red") file).choices ≡ file.choices ++ choice (pos 3) (pos 4) 3 (codes "red") ∷ [])
    × ((with_field (pos 4) 2 wanted file).fields
    ≡ file.fields ++ field (pos 7) (pos 4) 2 (codes "mould") (codes "Mould") true (plainly (codes "yesno")) ∷ [])
known_leaves = (refl, refl)

-- a form's fields are rows of their own
pub known_parts :
    ((with_form (pos 7) approved file).forms ≡ file.forms ++ form (pos 5) (pos 7) (codes "air") 2 true ∷ [])
    × ((with_form (pos 7) approved file).fields ≡ file.fields)
known_parts = (refl, refl)
