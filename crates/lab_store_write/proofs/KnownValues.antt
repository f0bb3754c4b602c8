-- Values from outside, computed on the definitions over the small file of lab_store_tables, in which two
-- laboratories have a dan: whose row a look-up shows (docs/TABLES.md).
use Rattle.std.proofs.Common.{◌≡◌, ℤ, pos, List, [], ◌∷◌, refl, ◌++◌, None}
use Rattle.std.specs.Prelude.{codes}
use Rattle.sqlite_value.specs.declared.value.Value.TheVariants.{Int}
use Rattle.sqlite_value.specs.Order.{Row}
use Rattle.lab_store_tables.proofs.KnownFile.{file, told}
use Rattle.lab_store_write.specs.Ids.{id_read}
use Rattle.lab_store_write.specs.Private.Shown.{persons_shown}
use Rattle.lab_records_kept.specs.declared.trails.Action.TheVariants.{Lock}
use Rattle.lab_records_kept.specs.declared.trails.TrailRow.{TrailRow as Told}
use Rattle.lab_records_kept.proofs.KnownDefaults.{bare_told}
use Rattle.lab_store_write.specs.TrailAdded.{with_told}

-- one row, which shows an id
abbrev only : ℤ → List Row
only id = (Int id ∷ []) ∷ []

-- the dan of that laboratory is shown; brick has no eve
pub known_shown : (persons_shown (pos 7) (codes "dan") file ≡ only (pos 2)) × (persons_shown (pos 3) (codes "dan") file ≡ only (pos 1))
    × (persons_shown (pos 3) (codes "eve") file ≡ []) × (id_read (Int (pos 7) ∷ Int (pos 9) ∷ []) ≡ pos 7)
known_shown = (refl, refl, refl, refl)

abbrev pub locked : Told
locked = record bare_told { number = 13; moment = 1600; action = Lock; subject = codes "dan" }

-- it has the next id of its table, and stands behind the others
pub known_added :
    (with_told (pos 7) None locked file).trail
    ≡ file.trail ++ told (pos 19) (pos 7) 13 1600 None (codes "lock") (codes "dan") ∷ []
known_added = refl
