-- Values from outside, so that a wrong rule in the definitions does not check: rows of the small file of
-- `lab_store_tables`, which of them are shown and in which order, and what they are read as.
use Rattle.std.proofs.Common.{◌≡◌, pos, [], ◌∷◌, map, refl}
use Rattle.std.specs.Prelude.{codes}
use Rattle.sqlite_value.specs.declared.value.Value.TheVariants.{Null, Int, Text}
use Rattle.lab_store_tables.specs.Meaning.{leaves_of, entries_of}
use Rattle.lab_store_tables.proofs.KnownFile.{filed, file}
use Rattle.lab_store_read_records.specs.Heads.{record_head, versions_of}
use Rattle.lab_store_read_records.specs.Private.Heads.{entry_heads_of, entry_by}
use Rattle.lab_store_read_records.specs.Leaves.{leaf_by}
use Rattle.lab_store_read_records.specs.Shown.{labs_shown, entries_shown, records_shown, record_head_of, versions_shown, version_read}
use Rattle.lab_store_read_records.specs.Private.Shown.{own_entries_shown, own_entry_read}

-- aqua's own row, and none of a code that isn't there
pub known_labs :
    (labs_shown file (codes "aqua")
    ≡ (Int (pos 7) ∷ Text (codes "aqua") ∷ Text (codes "Aqua Lab") ∷ Int (pos 1600) ∷ Int (pos 2) ∷ Int (pos 2) ∷ Int (pos 2) ∷ Int (pos 12) ∷ []) ∷ [])
    × (labs_shown file (codes "zinc") ≡ [])
known_labs = (refl, refl)

-- each laboratory has a record 1; the number is no id of a row
pub known_records :
    (map record_head_of (records_shown file (pos 3) 1)
    ≡ record_head (filed (pos 2) (pos 3) 1 (pos 2) (codes "water") (codes "S1") 1) ∷ [])
    × (map record_head_of (records_shown file (pos 7) 1)
    ≡ record_head (filed (pos 3) (pos 7) 1 (pos 1) (codes "water") (codes "S1") 2) ∷ [])
    × (records_shown file (pos 7) 3 ≡ [])
known_records = (refl, refl, refl)

-- entries in the order of their places, which isn't that of their ids; a person by the code
pub known_entries :
    entries_shown file (pos 1)
    ≡ (Text (codes "lead") ∷ Text (codes "7.05") ∷ Text (codes "mg/L") ∷ Text (codes "dan") ∷ Int (pos 1100) ∷ Null ∷ [])
    ∷ (Text (codes "lead") ∷ Text (codes "7.50") ∷ Text (codes "mg/L") ∷ Text (codes "dan") ∷ Int (pos 1200) ∷ Text (codes "misread scale") ∷ [])
    ∷ (Text (codes "look") ∷ Text (codes "clear") ∷ Text [] ∷ Text (codes "dan") ∷ Int (pos 1210) ∷ Null ∷ [])
    ∷ []
known_entries = refl

-- and each by its own row, with the id of the person's
pub known_own_entries :
    (own_entries_shown file (pos 1)
    ≡ (Text (codes "lead") ∷ Text (codes "7.05") ∷ Text (codes "mg/L") ∷ Int (pos 2) ∷ Int (pos 1100) ∷ Null ∷ [])
    ∷ (Text (codes "lead") ∷ Text (codes "7.50") ∷ Text (codes "mg/L") ∷ Int (pos 2) ∷ Int (pos 1200) ∷ Text (codes "misread scale") ∷ [])
    ∷ (Text (codes "look") ∷ Text (codes "clear") ∷ Text [] ∷ Int (pos 2) ∷ Int (pos 1210) ∷ Null ∷ [])
    ∷ [])
    × (map own_entry_read (own_entries_shown file (pos 1)) ≡ entry_heads_of file (pos 1))
    × (map (entry_by file) (entry_heads_of file (pos 1)) ≡ entries_of file (pos 1))
known_own_entries = (refl, refl, refl)

-- what is shown of a record's versions is read as they are, and each is the version that the tables mean
pub known_versions :
    (map version_read (versions_shown file (pos 3)) ≡ versions_of file (pos 3))
    × (map (leaf_by file) (versions_of file (pos 3)) ≡ leaves_of file (pos 3))
known_versions = (refl, refl)
