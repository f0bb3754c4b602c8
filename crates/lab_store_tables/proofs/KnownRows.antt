-- A row of each table as the database has it, value by value in the order of the table's columns, and that
-- what is written is read back.
use Rattle.std.proofs.Common.{◌≡◌, pos, true, false, [], ◌∷◌, map, Some, None, refl}
use Rattle.std.specs.Prelude.{codes}
use Rattle.sqlite_value.specs.declared.value.Value.TheVariants.{Null, Int, Text, Blob}
use Rattle.lab_store_tables.proofs.RowWords.{desk_row, desk_from, lab_row, lab_from, person_row, person_from, session_row, session_from, form_row, form_from, field_row, field_from, choice_row, choice_from, record_row, record_from, version_row, version_from, entry_row, entry_from, signature_row, signature_from, trail_row, trail_from}
use Rattle.lab_store_tables.proofs.KnownFile.{filled, file, desk, lab, person, session, form, field, choice, filed, version, entry, signature, told, chosen, asked_by, number_of}

pub known_desk : desk_row
    (desk (pos 1) 3)
    ≡ Int (pos 1) ∷ Null ∷ Int (pos 3) ∷ []
known_desk = refl

pub known_lab : lab_row
    (lab (pos 3) (codes "brick") (codes "Brick Lab") 700 0 1 2 6)
    ≡ Int (pos 3) ∷ Null ∷ Text (codes "brick") ∷ Text (codes "Brick Lab") ∷ Int (pos 700)
    ∷ Int (pos 0) ∷ Int (pos 1) ∷ Int (pos 2) ∷ Int (pos 6) ∷ []
known_lab = refl

pub known_person : person_row
    (person (pos 6) (pos 7) (codes "eve") (codes "Eve Eden") 2 false 0 None (chosen 5 10000 6 500) (asked_by (pos 4) 1590 9 10000 10))
    ≡ Int (pos 6) ∷ Null ∷ Int (pos 7) ∷ Text (codes "eve") ∷ Text (codes "Eve Eden") ∷ Int (pos 2)
    ∷ Int (pos 0) ∷ Int (pos 0) ∷ Null ∷ Int (pos 1) ∷ Blob (filled 16 5) ∷ Int (pos 10000)
    ∷ Blob (filled 32 6) ∷ Null ∷ Null ∷ Null ∷ Int (pos 500) ∷ Int (pos 4) ∷ Int (pos 1590)
    ∷ Blob (filled 16 9) ∷ Int (pos 10000) ∷ Blob (filled 32 10) ∷ []
known_person = refl

pub known_session : session_row
    (session (pos 1) (pos 7) (pos 6) 2 (filled 32 42) 1250 1350 false true)
    ≡ Int (pos 1) ∷ Null ∷ Int (pos 7) ∷ Int (pos 6) ∷ Int (pos 2) ∷ Blob (filled 32 42)
    ∷ Int (pos 1250) ∷ Int (pos 1350) ∷ Int (pos 0) ∷ Int (pos 1) ∷ []
known_session = refl

pub known_form : form_row
    (form (pos 1) (pos 7) (codes "water") 1 false)
    ≡ Int (pos 1) ∷ Null ∷ Int (pos 7) ∷ Text (codes "water") ∷ Int (pos 1) ∷ Int (pos 0) ∷ []
known_form = refl

pub known_field : field_row
    (field (pos 2) (pos 1) 1 (codes "lead") (codes "Lead") true (number_of (codes "mg/L") 2 (Some (codes "0")) None))
    ≡ Int (pos 2) ∷ Null ∷ Int (pos 1) ∷ Int (pos 1) ∷ Text (codes "lead") ∷ Text (codes "Lead")
    ∷ Int (pos 1) ∷ Text (codes "number") ∷ Text (codes "mg/L") ∷ Int (pos 2) ∷ Text (codes "0")
    ∷ Null ∷ Null ∷ []
known_field = refl

pub known_choice : choice_row
    (choice (pos 1) (pos 4) 2 (codes "cloudy"))
    ≡ Int (pos 1) ∷ Null ∷ Int (pos 4) ∷ Int (pos 2) ∷ Text (codes "cloudy") ∷ []
known_choice = refl

pub known_record : record_row
    (filed (pos 1) (pos 7) 2 (pos 1) (codes "water") (codes "S2") 1)
    ≡ Int (pos 1) ∷ Null ∷ Int (pos 7) ∷ Int (pos 2) ∷ Int (pos 1) ∷ Text (codes "water")
    ∷ Text (codes "S2") ∷ Int (pos 1) ∷ []
known_record = refl

pub known_version : version_row
    (version (pos 3) (pos 3) 2 2 (pos 2) 1400 (Some (codes "one decimal is meant")))
    ≡ Int (pos 3) ∷ Null ∷ Int (pos 3) ∷ Int (pos 2) ∷ Int (pos 2) ∷ Int (pos 2) ∷ Int (pos 1400)
    ∷ Text (codes "one decimal is meant") ∷ []
known_version = refl

pub known_entry : entry_row
    (entry (pos 1) (pos 1) 2 (codes "lead") (codes "7.50") (codes "mg/L") (pos 2) 1200 (Some (codes "misread scale")))
    ≡ Int (pos 1) ∷ Null ∷ Int (pos 1) ∷ Int (pos 2) ∷ Text (codes "lead") ∷ Text (codes "7.50")
    ∷ Text (codes "mg/L") ∷ Int (pos 2) ∷ Int (pos 1200) ∷ Text (codes "misread scale") ∷ []
known_entry = refl

pub known_signature : signature_row
    (signature (pos 4) (pos 2) 2 (pos 5) (codes "Anna Arp") (codes "rejection") 450 (Some (codes "wrong day")) (filled 32 24) (filled 32 26))
    ≡ Int (pos 4) ∷ Null ∷ Int (pos 2) ∷ Int (pos 2) ∷ Int (pos 5) ∷ Text (codes "Anna Arp")
    ∷ Text (codes "rejection") ∷ Int (pos 450) ∷ Text (codes "wrong day") ∷ Blob (filled 32 24)
    ∷ Blob (filled 32 26) ∷ []
known_signature = refl

pub known_trail : trail_row
    (told (pos 3) (pos 3) 2 300 (Some (pos 1)) (codes "record") (codes "1"))
    ≡ Int (pos 3) ∷ Null ∷ Int (pos 3) ∷ Int (pos 2) ∷ Int (pos 300) ∷ Int (pos 1)
    ∷ Text (codes "record") ∷ Text (codes "1") ∷ []
known_trail = refl

-- every row of the file
pub known_round :
    (map desk_from (map desk_row file.desk) ≡ file.desk)
    × (map lab_from (map lab_row file.labs) ≡ file.labs)
    × (map person_from (map person_row file.persons) ≡ file.persons)
    × (map session_from (map session_row file.sessions) ≡ file.sessions)
    × (map form_from (map form_row file.forms) ≡ file.forms)
    × (map field_from (map field_row file.fields) ≡ file.fields)
    × (map choice_from (map choice_row file.choices) ≡ file.choices)
    × (map record_from (map record_row file.records) ≡ file.records)
    × (map version_from (map version_row file.versions) ≡ file.versions)
    × (map entry_from (map entry_row file.entries) ≡ file.entries)
    × (map signature_from (map signature_row file.signatures) ≡ file.signatures)
    × (map trail_from (map trail_row file.trail) ≡ file.trail)
known_round = (refl, refl, refl, refl, refl, refl, refl, refl, refl, refl, refl, refl)
