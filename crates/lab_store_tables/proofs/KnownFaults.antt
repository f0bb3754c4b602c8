-- Files that are not well kept, each by one row more than the small file has, and which test it fails, so
-- that a test that leaves something out does not check.
use Rattle.std.proofs.Common.{◌≡◌, pos, true, false, [], ◌∷◌, Some, None, refl}
use Rattle.std.specs.Prelude.{codes}
use Rattle.lab_store_tables.specs.Rows.{AskColumns, Tables}
use Rattle.lab_store_tables.specs.WellKept.{are_ids_unique, are_keys_unique, are_arrows_whole, are_all_numbered, is_said_alike, are_columns_whole}
use Rattle.lab_store_tables.proofs.KnownFile.{filled, file, lab, person, session, form, plainly, field, choice, filed, version, entry, signature, told, unset, unasked, asked_by}

-- an id that another row of the table has
pub known_ids :
    (are_ids_unique
    (record file { labs = lab (pos 7) (codes "cobalt") (codes "Cobalt Lab") 0 0 0 0 0 ∷ file.labs })
    ≡ false)
    × (are_ids_unique
    (record file { persons = person (pos 8) (pos 7) (codes "ivy") (codes "Ivy Iles") 1 false 0 None unset unasked ∷ file.persons })
    ≡ false)
    × (are_ids_unique
    (record file { sessions = session (pos 4) (pos 7) (pos 2) 3 (filled 32 44) 1600 1600 false false ∷ file.sessions })
    ≡ false)
    × (are_ids_unique
    (record file { forms = form (pos 4) (pos 7) (codes "soil") 1 false ∷ file.forms })
    ≡ false)
    × (are_ids_unique
    (record file { fields = field (pos 6) (pos 4) 2 (codes "haze") (codes "Haze") false (plainly (codes "yesno")) ∷ file.fields })
    ≡ false)
    × (are_ids_unique
    (record file { records = filed (pos 3) (pos 7) 3 (pos 1) (codes "water") (codes "S3") 1 ∷ file.records })
    ≡ false)
    × (are_ids_unique
    (record file { versions = version (pos 4) (pos 1) 2 2 (pos 2) 1500 (Some (codes "lost")) ∷ file.versions })
    ≡ false)
    × (are_ids_unique
    (record file { entries = entry (pos 5) (pos 4) 1 (codes "lead") (codes "1.00") (codes "mg/L") (pos 2) 1500 None ∷ file.entries })
    ≡ false)
    × (are_ids_unique
    (record file { signatures = signature (pos 4) (pos 3) 1 (pos 2) (codes "Dan Dale") (codes "authorship") 1500 None (filled 32 27) (filled 32 28) ∷ file.signatures })
    ≡ false)
    × (are_ids_unique
    (record file { trail = told (pos 18) (pos 7) 13 1600 (Some (pos 2)) (codes "close") (codes "1") ∷ file.trail })
    ≡ false)
known_ids = (refl, refl, refl, refl, refl, refl, refl, refl, refl, refl)

-- the same of two rows of which neither is the first
pub known_later_ids :
    (are_ids_unique
    (record file {
      choices = choice (pos 1) (pos 4) 2 (codes "cloudy") ∷ choice (pos 2) (pos 4) 1 (codes "clear")
          ∷ choice (pos 2) (pos 4) 3 (codes "red") ∷ [];
    })
    ≡ false)
    × (are_keys_unique
    (record file {
      choices = choice (pos 1) (pos 4) 2 (codes "cloudy") ∷ choice (pos 2) (pos 4) 1 (codes "clear")
          ∷ choice (pos 3) (pos 4) 1 (codes "red") ∷ [];
    })
    ≡ false)
known_later_ids = (refl, refl)

-- a key that another row has
pub known_keys :
    (are_keys_unique
    (record file { labs = lab (pos 9) (codes "aqua") (codes "Other Lab") 0 0 0 0 0 ∷ file.labs })
    ≡ false)
    × (are_keys_unique
    (record file { sessions = session (pos 9) (pos 7) (pos 2) 3 (filled 32 41) 1600 1600 false false ∷ file.sessions })
    ≡ false)
    × (are_keys_unique
    (record file { sessions = session (pos 9) (pos 7) (pos 2) 2 (filled 32 44) 1600 1600 false false ∷ file.sessions })
    ≡ false)
    × (are_keys_unique
    (record file { forms = form (pos 9) (pos 7) (codes "water") 2 false ∷ file.forms })
    ≡ false)
    × (are_keys_unique
    (record file { fields = field (pos 9) (pos 1) 3 (codes "haze") (codes "Haze") false (plainly (codes "yesno")) ∷ file.fields })
    ≡ false)
    × (are_keys_unique
    (record file { fields = field (pos 9) (pos 1) 4 (codes "lead") (codes "Lead") false (plainly (codes "yesno")) ∷ file.fields })
    ≡ false)
    × (are_keys_unique
    (record file { choices = choice (pos 9) (pos 4) 2 (codes "red") ∷ file.choices })
    ≡ false)
    × (are_keys_unique
    (record file { records = filed (pos 9) (pos 7) 2 (pos 1) (codes "water") (codes "S3") 1 ∷ file.records })
    ≡ false)
    × (are_keys_unique
    (record file { records = filed (pos 9) (pos 7) 3 (pos 1) (codes "water") (codes "S2") 1 ∷ file.records })
    ≡ false)
    × (are_keys_unique
    (record file { versions = version (pos 9) (pos 3) 2 2 (pos 2) 1500 (Some (codes "lost")) ∷ file.versions })
    ≡ false)
    × (are_keys_unique
    (record file { entries = entry (pos 9) (pos 1) 3 (codes "lead") (codes "1.00") (codes "mg/L") (pos 2) 1500 None ∷ file.entries })
    ≡ false)
    × (are_keys_unique
    (record file { signatures = signature (pos 9) (pos 1) 2 (pos 2) (codes "Dan Dale") (codes "approval") 1500 None (filled 32 27) (filled 32 28) ∷ file.signatures })
    ≡ false)
    × (are_keys_unique
    (record file { trail = told (pos 29) (pos 7) 12 1600 (Some (pos 2)) (codes "close") (codes "1") ∷ file.trail })
    ≡ false)
known_keys = (refl, refl, refl, refl, refl, refl, refl, refl, refl, refl, refl, refl, refl)

-- the same in another laboratory, form, field or version is no such key
pub known_free :
    (are_keys_unique
    (record file { sessions = session (pos 9) (pos 3) (pos 1) 3 (filled 32 42) 700 700 false false ∷ file.sessions })
    ≡ true)
    × (are_keys_unique
    (record file { forms = form (pos 9) (pos 3) (codes "water") 2 false ∷ file.forms })
    ≡ true)
    × (are_keys_unique
    (record file { fields = field (pos 9) (pos 4) 2 (codes "lead") (codes "Lead") false (plainly (codes "yesno")) ∷ file.fields })
    ≡ true)
    × (are_keys_unique
    (record file { choices = choice (pos 9) (pos 5) 2 (codes "red") ∷ file.choices })
    ≡ true)
    × (are_keys_unique
    (record file { records = filed (pos 9) (pos 7) 3 (pos 4) (codes "air") (codes "S1") 1 ∷ file.records })
    ≡ true)
    × (are_keys_unique
    (record file { signatures = signature (pos 9) (pos 3) 1 (pos 2) (codes "Dan Dale") (codes "authorship") 1500 None (filled 32 27) (filled 32 28) ∷ file.signatures })
    ≡ true)
    × (are_keys_unique
    (record file { trail = told (pos 29) (pos 3) 7 1600 (Some (pos 1)) (codes "close") (codes "1") ∷ file.trail })
    ≡ true)
known_free = (refl, refl, refl, refl, refl, refl, refl)

-- an arrow that leads nowhere
pub known_arrows :
    (are_arrows_whole
    (record file { persons = person (pos 9) (pos 99) (codes "ivy") (codes "Ivy Iles") 1 false 0 None unset unasked ∷ file.persons })
    ≡ false)
    × (are_arrows_whole
    (record file { persons = person (pos 9) (pos 7) (codes "ivy") (codes "Ivy Iles") 1 false 0 None unset (asked_by (pos 99) 1590 9 10000 10) ∷ file.persons })
    ≡ false)
    × (are_arrows_whole
    (record file { sessions = session (pos 9) (pos 99) (pos 2) 3 (filled 32 44) 1600 1600 false false ∷ file.sessions })
    ≡ false)
    × (are_arrows_whole
    (record file { sessions = session (pos 9) (pos 7) (pos 99) 3 (filled 32 44) 1600 1600 false false ∷ file.sessions })
    ≡ false)
    × (are_arrows_whole
    (record file { forms = form (pos 9) (pos 99) (codes "soil") 1 false ∷ file.forms })
    ≡ false)
    × (are_arrows_whole
    (record file { fields = field (pos 9) (pos 99) 1 (codes "haze") (codes "Haze") false (plainly (codes "yesno")) ∷ file.fields })
    ≡ false)
    × (are_arrows_whole
    (record file { choices = choice (pos 9) (pos 99) 1 (codes "red") ∷ file.choices })
    ≡ false)
    × (are_arrows_whole
    (record file { records = filed (pos 9) (pos 99) 3 (pos 1) (codes "water") (codes "S3") 1 ∷ file.records })
    ≡ false)
    × (are_arrows_whole
    (record file { records = filed (pos 9) (pos 7) 3 (pos 99) (codes "water") (codes "S3") 1 ∷ file.records })
    ≡ false)
    × (are_arrows_whole
    (record file { versions = version (pos 9) (pos 99) 1 2 (pos 2) 1500 None ∷ file.versions })
    ≡ false)
    × (are_arrows_whole
    (record file { entries = entry (pos 9) (pos 99) 1 (codes "lead") (codes "1.00") (codes "mg/L") (pos 2) 1500 None ∷ file.entries })
    ≡ false)
    × (are_arrows_whole
    (record file { entries = entry (pos 9) (pos 4) 1 (codes "lead") (codes "1.00") (codes "mg/L") (pos 99) 1500 None ∷ file.entries })
    ≡ false)
    × (are_arrows_whole
    (record file { signatures = signature (pos 9) (pos 99) 1 (pos 2) (codes "Dan Dale") (codes "authorship") 1500 None (filled 32 27) (filled 32 28) ∷ file.signatures })
    ≡ false)
    × (are_arrows_whole
    (record file { signatures = signature (pos 9) (pos 3) 1 (pos 99) (codes "Dan Dale") (codes "authorship") 1500 None (filled 32 27) (filled 32 28) ∷ file.signatures })
    ≡ false)
    × (are_arrows_whole
    (record file { trail = told (pos 29) (pos 99) 1 1600 None (codes "found") (codes "lost") ∷ file.trail })
    ≡ false)
    × (are_arrows_whole
    (record file { trail = told (pos 29) (pos 7) 13 1600 (Some (pos 99)) (codes "close") (codes "1") ∷ file.trail })
    ≡ false)
known_arrows = (refl, refl, refl, refl, refl, refl, refl, refl, refl, refl, refl, refl, refl, refl, refl, refl)

-- a number or place after a gap, and one below the first
pub known_gaps :
    (are_all_numbered
    (record file { sessions = session (pos 9) (pos 7) (pos 2) 4 (filled 32 44) 1600 1600 false false ∷ file.sessions })
    ≡ false)
    × (are_all_numbered
    (record file { forms = form (pos 9) (pos 7) (codes "water") 4 false ∷ file.forms })
    ≡ false)
    × (are_all_numbered
    (record file { fields = field (pos 9) (pos 4) 3 (codes "haze") (codes "Haze") false (plainly (codes "yesno")) ∷ file.fields })
    ≡ false)
    × (are_all_numbered
    (record file { choices = choice (pos 9) (pos 4) 4 (codes "red") ∷ file.choices })
    ≡ false)
    × (are_all_numbered
    (record file { records = filed (pos 9) (pos 7) 4 (pos 1) (codes "water") (codes "S3") 1 ∷ file.records })
    ≡ false)
    × (are_all_numbered
    (record file { versions = version (pos 9) (pos 3) 4 2 (pos 2) 1500 (Some (codes "lost")) ∷ file.versions })
    ≡ false)
    × (are_all_numbered
    (record file { entries = entry (pos 9) (pos 1) 5 (codes "lead") (codes "1.00") (codes "mg/L") (pos 2) 1500 None ∷ file.entries })
    ≡ false)
    × (are_all_numbered
    (record file { entries = entry (pos 9) (pos 4) 0 (codes "lead") (codes "1.00") (codes "mg/L") (pos 2) 1500 None ∷ file.entries })
    ≡ false)
    × (are_all_numbered
    (record file { signatures = signature (pos 9) (pos 3) 2 (pos 2) (codes "Dan Dale") (codes "authorship") 1500 None (filled 32 27) (filled 32 28) ∷ file.signatures })
    ≡ false)
known_gaps = (refl, refl, refl, refl, refl, refl, refl, refl, refl)

-- asks that have some of their columns: all but one, or one alone
abbrev whole_ask : AskColumns
whole_ask = asked_by (pos 4) 1590 9 10000 10

abbrev with_ivy : AskColumns → Tables
with_ivy ask = record file {
  persons = person (pos 9) (pos 7) (codes "ivy") (codes "Ivy Iles") 1 false 0 None unset ask ∷ file.persons;
}

pub known_asks :
    (are_columns_whole (with_ivy whole_ask) ≡ true) × (are_columns_whole (with_ivy unasked) ≡ true)
    × (are_columns_whole (with_ivy (record whole_ask { asker = None })) ≡ false)
    × (are_columns_whole (with_ivy (record whole_ask { asked = None })) ≡ false)
    × (are_columns_whole (with_ivy (record whole_ask { salt = None })) ≡ false)
    × (are_columns_whole (with_ivy (record whole_ask { rounds = None })) ≡ false)
    × (are_columns_whole (with_ivy (record whole_ask { bytes = None })) ≡ false)
    × (are_columns_whole (with_ivy (record unasked { asker = Some (pos 4) })) ≡ false)
    × (are_columns_whole (with_ivy (record unasked { asked = Some 1590 })) ≡ false)
    × (are_columns_whole (with_ivy (record unasked { salt = Some (filled 16 9) })) ≡ false)
    × (are_columns_whole (with_ivy (record unasked { rounds = Some 10000 })) ≡ false)
    × (are_columns_whole (with_ivy (record unasked { bytes = Some (filled 32 10) })) ≡ false)
known_asks = (refl, refl, refl, refl, refl, refl, refl, refl, refl, refl, refl, refl)

-- formats that there aren't, and a choice in a field of another kind
pub known_columns :
    (are_columns_whole
    (record file { versions = version (pos 9) (pos 1) 2 3 (pos 2) 1500 (Some (codes "lost")) ∷ file.versions })
    ≡ false)
    × (are_columns_whole
    (record file { versions = version (pos 9) (pos 1) 2 0 (pos 2) 1500 (Some (codes "lost")) ∷ file.versions })
    ≡ false)
    × (are_columns_whole
    (record file { choices = choice (pos 9) (pos 5) 1 (codes "red") ∷ file.choices })
    ≡ false)
known_columns = (refl, refl, refl)

-- counters that stayed behind, of records and of sessions
pub known_counters :
    (is_said_alike
    (record file {
      labs = lab (pos 3) (codes "brick") (codes "Brick Lab") 700 0 0 2 6
          ∷ lab (pos 7) (codes "aqua") (codes "Aqua Lab") 1600 2 2 2 12
          ∷ [];
    })
    ≡ false)
    × (is_said_alike
    (record file {
      labs = lab (pos 3) (codes "brick") (codes "Brick Lab") 700 0 1 1 6
          ∷ lab (pos 7) (codes "aqua") (codes "Aqua Lab") 1600 2 2 2 12
          ∷ [];
    })
    ≡ false)
known_counters = (refl, refl)
