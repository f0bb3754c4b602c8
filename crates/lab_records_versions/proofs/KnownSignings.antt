-- Values from outside, so that a wrong rule in the definitions does not check: what may be signed in which
-- state, as what.
use Rattle.std.proofs.Common.{◌≡◌, ℕ, List, refl, true, false, Some, None}
use Rattle.std.specs.Prelude.{codes}
use Rattle.lab_seal_versions.specs.declared.states.State.TheVariants.{Open, Signed, Reviewed, Released, Rejected}
use Rattle.lab_records_rules.specs.declared.outcomes.Signing.TheVariants.{Authorship, Review, Rejection, Approval}
use Rattle.lab_records_rules.specs.declared.refusals.Refusal.TheVariants.{AlreadySigned, NotSigned, ReasonWanted, ApprovalNotWanted}
use Rattle.lab_records_versions.specs.Signing.{state_refusal, approval_refusal, reason_refusal}

-- each meaning in each state
pub known_authorships : (state_refusal Authorship (Some Open) ≡ None)
    × (state_refusal Authorship (Some Signed) ≡ Some AlreadySigned)
    × (state_refusal Authorship (Some Reviewed) ≡ Some AlreadySigned)
    × (state_refusal Authorship (Some Released) ≡ Some AlreadySigned)
    × (state_refusal Authorship (Some Rejected) ≡ Some AlreadySigned)
known_authorships = (refl, refl, refl, refl, refl)

pub known_reviews : (state_refusal Review (Some Open) ≡ Some NotSigned)
    × (state_refusal Review (Some Signed) ≡ None)
    × (state_refusal Review (Some Reviewed) ≡ Some AlreadySigned)
    × (state_refusal Review (Some Released) ≡ Some AlreadySigned)
    × (state_refusal Review (Some Rejected) ≡ Some AlreadySigned)
known_reviews = (refl, refl, refl, refl, refl)

pub known_rejections : (reason : List ℕ)
    → (state_refusal (Rejection (Some reason)) (Some Open) ≡ Some NotSigned)
    × (state_refusal (Rejection (Some reason)) (Some Signed) ≡ None)
    × (state_refusal (Rejection (Some reason)) (Some Reviewed) ≡ None)
    × (state_refusal (Rejection (Some reason)) (Some Released) ≡ Some AlreadySigned)
    × (state_refusal (Rejection (Some reason)) (Some Rejected) ≡ Some AlreadySigned)
known_rejections reason = (refl, refl, refl, refl, refl)

pub known_approvals : (state_refusal Approval (Some Open) ≡ Some NotSigned)
    × (state_refusal Approval (Some Signed) ≡ Some NotSigned)
    × (state_refusal Approval (Some Reviewed) ≡ None)
    × (state_refusal Approval (Some Released) ≡ Some AlreadySigned)
    × (state_refusal Approval (Some Rejected) ≡ Some AlreadySigned)
    × (approval_refusal Approval false ≡ Some ApprovalNotWanted)
    × (approval_refusal Approval true ≡ None) × (approval_refusal Review false ≡ None)
known_approvals = (refl, refl, refl, refl, refl, refl, refl, refl)

-- a rejection wants a reason
pub known_reasons : (reason_refusal (Rejection None) ≡ Some ReasonWanted)
    × (reason_refusal (Rejection (Some (codes "smudged"))) ≡ None)
known_reasons = (refl, refl)
