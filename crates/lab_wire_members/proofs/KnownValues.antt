-- Values as the documents of the interface write them, so that a wrong rule in the definitions does not check.
use Rattle.std.proofs.Common.{◌≡◌, refl, List, ℕ, codes, Some, None, true, false}
use Rattle.serde_json.specs.Data.{Data, null, number, unsigned, string, array, no_items, item}
use Rattle.lab_wire_members.specs.Members.{ordinal_in, whole_in, roles_in}

-- a text
abbrev says : List ℕ → Data
says text = string text

pub known_numbers : (ordinal_in (number (unsigned 0)) ≡ None) × (ordinal_in (number (unsigned 1)) ≡ Some 1)
    × (ordinal_in (number (unsigned 1000000000)) ≡ Some 1000000000) × (ordinal_in (number (unsigned 1000000001)) ≡ None)
    × (ordinal_in (says (codes "1")) ≡ None)
    × (whole_in (number (unsigned 0)) ≡ Some 0) × (whole_in (number (unsigned 4294967295)) ≡ Some 4294967295)
    × (whole_in (number (unsigned 4294967296)) ≡ None)
known_numbers = (refl, refl, refl, refl, refl, refl, refl, refl)

pub known_roles : (roles_in (array (item (says (codes "reviewer")) (item (says (codes "analyst")) no_items)))
    ≡ Some (record { analyst = true; reviewer = true; manager = false; administrator = false; inspector = false }))
    × (roles_in (array no_items) ≡ Some (record { analyst = false; reviewer = false; manager = false; administrator = false; inspector = false }))
    × (roles_in (array (item (says (codes "analyst")) (item (says (codes "analyst")) no_items))) ≡ None)
    × (roles_in (array (item (says (codes "owner")) no_items)) ≡ None) × (roles_in null ≡ None)
known_roles = (refl, refl, refl, refl, refl)
