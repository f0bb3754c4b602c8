-- Values from outside, computed on the definitions over a small file of schema 2: what is shown of the laboratories aqua and brick.
use Rattle.std.proofs.Common.{◌≡◌, pos, true, false, [], ◌∷◌, length, refl}
use Rattle.std.specs.Prelude.{codes}
use Rattle.sqlite_value.specs.declared.value.Value.TheVariants.{Int, Text}
use Rattle.lab_move_tables.proofs.KnownOldFile.{lifted}
use Rattle.lab_move_tables.specs.declared.older.Older.TheVariants.{Two}
use Rattle.lab_move_tables.specs.Shown.{codes_shown, persons_shown, owners_shown, sessions_shown, forms_shown, choices_shown, versions_shown, entries_shown, signatures_shown, trail_shown}
use Rattle.lab_move_tables.specs.Checks.{are_rows_numbered, are_owned}

-- by the bytes of their codes, and not by their ids
pub known_codes : codes_shown lifted ≡ (Text (codes "aqua") ∷ []) ∷ (Text (codes "brick") ∷ []) ∷ []
known_codes = refl

pub known_counts : (length (persons_shown Two lifted (pos 7)) ≡ 4) × (length (sessions_shown lifted (pos 7)) ≡ 2) × (length (trail_shown lifted (pos 3)) ≡ 6) × (length (versions_shown Two lifted (pos 3)) ≡ 2)
known_counts = (refl, refl, refl, refl)

-- brick's dan, and nobody
pub known_owners : (owners_shown lifted (pos 1) ≡ (Text (codes "dan") ∷ Int (pos 3) ∷ []) ∷ []) × (owners_shown lifted (pos 99) ≡ [])
known_owners = (refl, refl)

pub known_forms : forms_shown Two lifted (pos 7)
    ≡ (Int (pos 4) ∷ Text (codes "air") ∷ Int (pos 1) ∷ []) ∷ (Int (pos 1) ∷ Text (codes "water") ∷ Int (pos 1) ∷ []) ∷ (Int (pos 3) ∷ Text (codes "water") ∷ Int (pos 2) ∷ []) ∷ []
known_forms = refl

-- places run from 1 on, and whoever signed is of the laboratory, and not of another
pub known_tests : (are_rows_numbered 1 (choices_shown lifted (pos 4)) ≡ true) × (are_rows_numbered 0 (trail_shown lifted (pos 7)) ≡ true) × (are_rows_numbered 0 (forms_shown Two lifted (pos 7)) ≡ false)
    × (are_rows_numbered 6 (entries_shown lifted (pos 1)) ≡ true) × (are_owned 7 (pos 7) (entries_shown lifted (pos 1)) ≡ true)
    × (are_owned 8 (pos 7) (signatures_shown lifted (pos 1)) ≡ true) × (are_owned 8 (pos 3) (signatures_shown lifted (pos 1)) ≡ false)
known_tests = (refl, refl, refl, refl, refl, refl, refl)
