-- Values from outside, computed on the definitions over the small file of lab_store_tables: what is shown of the trail of aqua.
use Rattle.std.proofs.Common.{◌≡◌, refl, pos, [], ◌∷◌, Some, None, map}
use Rattle.std.specs.Prelude.{codes}
use Rattle.lab_records_kept.specs.declared.trails.TrailRow.{TrailRow as Told}
use Rattle.lab_store_tables.proofs.KnownFile.{file}
use Rattle.lab_store_read_trail.specs.declared.heads.ToldHead.{ToldHead}
use Rattle.lab_store_read.specs.Private.Known.{code_among, known_by}
use Rattle.lab_store_read_trail.specs.Shown.{told_read, told_shown_within}
use Rattle.lab_store_read_trail.specs.Private.Trails.{told_by, told_heads_within}

-- by their numbers, and not as they stand in the table, both ends with them; nobody did what the machine did
pub known_trail :
    (map (λ (one : ToldHead). one.number) (told_heads_within file (pos 7) 3 5) ≡ 3 ∷ 4 ∷ 5 ∷ [])
    × (map told_read (told_shown_within file (pos 7) 3 5) ≡ told_heads_within file (pos 7) 3 5)
    × (map (λ (one : Told). one.person) (map (told_by file) (told_heads_within file (pos 7) 11 20)) ≡ Some (codes "ann") ∷ Some (codes "ann") ∷ [])
    × (map (λ (one : Told). one.person) (map (told_by file) (told_heads_within file (pos 7) 1 1)) ≡ None ∷ [])
known_trail = (refl, refl, refl, refl)

-- each code with the id of its own person, and not with that of a person of the code elsewhere; of two with an id, the last
pub known_codes :
    (map (known_by file) (pos 4 ∷ pos 2 ∷ []) ≡ record { id = pos 4; code = codes "ann" } ∷ record { id = pos 2; code = codes "dan" } ∷ [])
    × (code_among (map (known_by file) (pos 4 ∷ pos 2 ∷ pos 6 ∷ [])) (pos 2) ≡ Some (codes "dan"))
    × (code_among (map (known_by file) (pos 4 ∷ pos 2 ∷ [])) (pos 5) ≡ None)
    × (code_among (record { id = pos 4; code = codes "ann" } ∷ record { id = pos 4; code = codes "eve" } ∷ []) (pos 4) ≡ Some (codes "eve"))
known_codes = (refl, refl, refl, refl)
