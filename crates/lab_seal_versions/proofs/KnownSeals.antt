-- Values from outside, so that a wrong rule in the definitions does not check.
use Rattle.std.proofs.Common.{◌≡◌, refl, [], ◌∷◌, true, false, Some, None}
use Rattle.std.specs.Prelude.{codes}
use Rattle.lab_seal_versions.specs.States.{state_of}
use Rattle.lab_seal_versions.specs.declared.seals.Meaning.TheVariants.{Authorship, Review, Rejection, Approval}
use Rattle.lab_seal_versions.specs.declared.states.State.TheVariants.{Open, Signed, Reviewed, Released, Rejected}

-- lists of signatures, without and with approval: each row of the table, and what stands in none
pub known_states : (state_of [] false ≡ Some Open) × (state_of [] true ≡ Some Open)
    × (state_of (Authorship ∷ []) false ≡ Some Signed) × (state_of (Authorship ∷ []) true ≡ Some Signed)
    × (state_of (Authorship ∷ Review ∷ []) false ≡ Some Released) × (state_of (Authorship ∷ Review ∷ []) true ≡ Some Reviewed)
    × (state_of (Authorship ∷ Rejection (codes "lost") ∷ []) false ≡ Some Rejected)
    × (state_of (Authorship ∷ Rejection (codes "lost") ∷ []) true ≡ Some Rejected)
    × (state_of (Authorship ∷ Review ∷ Approval ∷ []) true ≡ Some Released)
    × (state_of (Authorship ∷ Review ∷ Approval ∷ []) false ≡ None)
    × (state_of (Authorship ∷ Review ∷ Rejection (codes "lost") ∷ []) true ≡ Some Rejected)
    × (state_of (Authorship ∷ Review ∷ Rejection (codes "lost") ∷ []) false ≡ None)
    × (state_of (Review ∷ []) true ≡ None) × (state_of (Authorship ∷ Approval ∷ []) true ≡ None)
    × (state_of (Authorship ∷ Review ∷ Approval ∷ Approval ∷ []) true ≡ None)
known_states = (refl, refl, refl, refl, refl, refl, refl, refl, refl, refl, refl, refl, refl, refl, refl)
