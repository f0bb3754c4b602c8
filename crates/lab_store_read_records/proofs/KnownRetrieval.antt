-- Values from outside, so that a wrong rule in the definitions does not check: rows of the small file of
-- `lab_store_tables` that are sought.
use Rattle.std.proofs.Common.{◌≡◌, pos, [], ◌∷◌, Some, None, refl}
use Rattle.std.specs.Prelude.{codes, filter}
use Rattle.lab_store_tables.proofs.KnownFile.{filed, file, filled}
use Rattle.lab_store_read_records.specs.Heads.{record_head}
use Rattle.lab_store_read_records.specs.Private.Chains.{origin_after}
use Rattle.lab_store_read_records.specs.Sought.{is_about, heads_within}

-- both laboratories have a record of the sample S1; one of them is sought
pub known_about :
    (filter (is_about (pos 3) (codes "water") (codes "S1")) file.records
    ≡ filed (pos 2) (pos 3) 1 (pos 2) (codes "water") (codes "S1") 1 ∷ [])
    × (filter (is_about (pos 3) (codes "water") (codes "S2")) file.records ≡ [])
known_about = (refl, refl)

-- in the order of numbers, which isn't that of ids; both ends of a range are within
pub known_within :
    (heads_within file (pos 7) 1 2
    ≡ record_head (filed (pos 3) (pos 7) 1 (pos 1) (codes "water") (codes "S1") 2)
    ∷ record_head (filed (pos 1) (pos 7) 2 (pos 1) (codes "water") (codes "S2") 1)
    ∷ [])
    × (heads_within file (pos 7) 2 2 ≡ record_head (filed (pos 1) (pos 7) 2 (pos 1) (codes "water") (codes "S2") 1) ∷ [])
    × (heads_within file (pos 7) 2 1 ≡ [])
known_within = (refl, refl, refl)

-- a first version amends nothing, whatever its reason; a later one without a reason has an empty one
pub known_origins : (origin_after 1 (Some (codes "lost")) None ≡ record { number = 1; amendment = None })
    × (origin_after 2 None (Some (filled 32 9))
    ≡ record { number = 2; amendment = Some (record { previous = filled 32 9; reason = [] }) })
known_origins = (refl, refl)
