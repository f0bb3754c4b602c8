-- A record behind others in a list, and the version of a form by which it is filled in. Where the
-- next record takes it over, it is the one that the tables have (ISO/IEC 17025:2017, 8.4.2).
use Rattle.std.specs.Prelude.{◌≡◌, ℕ, ℤ, List, [], ◌∷◌, ◌++◌}
use Rattle.lab_records_kept.specs.declared.records.Record.{Record}
use Rattle.lab_store_tables.specs.Rows.{Tables}
use Rattle.lab_store_tables.specs.Meaning.{form_at}
use Rattle.lab_store_read_records.specs.declared.heads.RecordHead.{RecordHead}
use Rattle.lab_store_read_forms.specs.Wholes.{record_by}
use Rattle.lab_store_read_forms.specs.declared.heads.FormAt.{FormAt}

-- the version with the id
abbrev pub form_with_id : Tables → ℤ → FormAt
form_with_id t id = record { id = id; form = form_at t id }

-- the version is the one that the tables have under its id
abbrev pub IsAtItsId : Tables → FormAt → Type 0
IsAtItsId t found = found.form ≡ form_at t found.id

-- the record of the row stands behind the others, and the version is right for the next one
pub record IsFiledBehind (t : Tables) (lab : List ℕ) (head : RecordHead) (others all : List Record)
    (found : FormAt) : Type 0 where
  pub made : all ≡ others ++ record_by t lab head ∷ []
  pub form : IsAtItsId t found
