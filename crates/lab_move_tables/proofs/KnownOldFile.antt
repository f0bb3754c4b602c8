-- Values from outside, so that a wrong rule in the definitions does not check: the small file of
-- lab_store_tables with what schema 2 had of it, and that its laboratories are well kept; and rows that are not.
use Rattle.std.proofs.Common.{◌≡◌, ℕ, pos, true, false, List, [], ◌∷◌, map, Some, None, refl}
use Rattle.std.specs.Prelude.{codes}
use Rattle.sqlite_value.specs.Order.{Row}
use Rattle.sqlite_value.specs.declared.value.Value.TheVariants.{Null, Int, Text}
use Rattle.lab_store_tables.specs.Rows.{FormRow, VersionRow, LabRow, Tables}
use Rattle.lab_store_tables.proofs.FamilyWords.{trees_by}
use Rattle.lab_store_tables.proofs.KnownFile.{file, desk, lab, session, entry, told, filled}
use Rattle.lab_move_tables.specs.declared.older.Older.TheVariants.{Two}
use Rattle.lab_move_tables.specs.OldSheets.{before}
use Rattle.lab_move_tables.specs.OldRows.{old_tables, reason_in}
use Rattle.lab_move_tables.specs.KeptLabs.{is_kept_lab}

-- without an approval, and with texts of format 1
abbrev plain_form : FormRow → FormRow
plain_form one = record one { approval = false }

abbrev old_version : VersionRow → VersionRow
old_version one = record one { format = 1 }

abbrev pub lifted : Tables
lifted = record file {
  desk = desk (pos 1) 2 ∷ [];
  forms = map plain_form file.forms;
  versions = map old_version file.versions;
}

-- each table's rows in its own tree
abbrev pub trees : ℕ → List Row
trees = trees_by before lifted

-- what is read of these rows is what they were written of
pub known_tables : old_tables Two trees ≡ lifted
known_tables = refl

-- NULL, or an empty text, is no reason
pub known_reasons : (reason_in Null ≡ None) × (reason_in (Text []) ≡ None) × (reason_in (Text (codes "x")) ≡ Some (codes "x")) × (reason_in (Int (pos 1)) ≡ None)
known_reasons = (refl, refl, refl, refl)

abbrev aqua : LabRow
aqua = lab (pos 7) (codes "aqua") (codes "Aqua Lab") 1600 2 2 2 12

abbrev brick : LabRow
brick = lab (pos 3) (codes "brick") (codes "Brick Lab") 700 0 1 2 6

pub known_kept : (is_kept_lab lifted aqua ≡ true) × (is_kept_lab lifted brick ≡ true)
known_kept = (refl, refl)

-- a session of brick's dan in aqua, a counter that is one short, a gap in the trail, a place that is missing
pub known_not_kept :
    (is_kept_lab (record lifted { sessions = session (pos 3) (pos 7) (pos 1) 1 (filled 32 41) 900 1450 false true ∷ session (pos 1) (pos 7) (pos 6) 2 (filled 32 42) 1250 1350 false true ∷ [] }) aqua ≡ false)
    × (is_kept_lab lifted (record aqua { trail = 11 }) ≡ false)
    × (is_kept_lab (record lifted { trail = told (pos 1) (pos 3) 1 0 None (codes "found") (codes "brick") ∷ told (pos 2) (pos 3) 3 300 (Some (pos 1)) (codes "record") (codes "1") ∷ [] }) (record brick { trail = 2 }) ≡ false)
    × (is_kept_lab (record lifted { entries = entry (pos 2) (pos 1) 2 (codes "lead") (codes "7.05") (codes "mg/L") (pos 2) 1100 None ∷ [] }) aqua ≡ false)
    × (is_kept_lab (record lifted { versions = [] }) brick ≡ false)
known_not_kept = (refl, refl, refl, refl, refl)
