-- A laboratory of a file of an older schema, by its own row, and what a reading of it answers: the
-- laboratory that the rows mean, where they are well kept (ISO/IEC 17025:2017, 7.11.3(d)).
use Rattle.std.specs.Prelude.{◌≡◌, ℕ, true, false, List, map, find, Option, Some, None, option_map}
use Rattle.sqlite_keyed.specs.Lists.{sort_by}
use Rattle.lab_records_kept.specs.declared.labs.Lab.{Lab}
use Rattle.lab_store_tables.specs.Rows.{LabRow, Tables}
use Rattle.lab_store_tables.specs.Meaning.{has_code, lab_in}
use Rattle.lab_store_read_records.specs.declared.heads.LabHead.{LabHead}
use Rattle.lab_store_read_records.specs.Heads.{lab_head}
use Rattle.lab_move_tables.specs.KeptLabs.{is_kept_lab}
use Rattle.lab_move_tables.specs.Shown.{by_lab}

-- ---- codes

abbrev code_of_lab : LabRow → List ℕ
code_of_lab row = row.code

-- all of them, in the order of their bytes
abbrev pub codes_of : Tables → List (List ℕ)
codes_of t = map code_of_lab (sort_by by_lab t.labs)

-- ---- a laboratory

abbrev pub head_of : Tables → List ℕ → Option LabHead
head_of t code = option_map lab_head (find (has_code code) t.labs)

-- ---- what a reading of the laboratory of a code answers

-- none where there is none; else the one that its rows mean, which are well kept
abbrev pub IsLabOfRow : Tables → Option LabRow → Option Lab → Type 0
IsLabOfRow t None found = found ≡ None
IsLabOfRow t (Some row) found = (found ≡ Some (lab_in t row)) × (is_kept_lab t row ≡ true)

abbrev pub IsLabOf : Tables → List ℕ → Option Lab → Type 0
IsLabOf t code found = IsLabOfRow t (find (has_code code) t.labs) found

-- there is one, and its rows aren't well kept
abbrev pub IsRowUnkept : Tables → Option LabRow → Type 0
IsRowUnkept t None = ⊥
IsRowUnkept t (Some row) = is_kept_lab t row ≡ false

abbrev pub IsUnkept : Tables → List ℕ → Type 0
IsUnkept t code = IsRowUnkept t (find (has_code code) t.labs)
