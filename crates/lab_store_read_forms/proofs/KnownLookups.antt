-- Values from outside, computed on the definitions over the small file of lab_store_tables: the versions of aqua's form, which
-- the laboratory brick has too.
use Rattle.std.proofs.Common.{◌≡◌, refl, pos, []}
use Rattle.std.specs.Prelude.{codes, length}
use Rattle.lab_store_tables.proofs.KnownFile.{file}
use Rattle.lab_store_read_forms.specs.FormsByCode.{exact_shown, form_versions_shown}

-- the two versions of aqua's water in their order, and one of them by its number
pub known_forms : (length (form_versions_shown file (pos 7) (codes "water")) ≡ 2)
    × (length (exact_shown file (pos 7) (codes "water") 2) ≡ 1)
    × (exact_shown file (pos 7) (codes "water") 3 ≡ [])
    × (exact_shown file (pos 3) (codes "air") 1 ≡ [])
known_forms = (refl, refl, refl, refl)
