-- Values from outside, so that a wrong table does not check: by which rule of the policy a person signs as what.
use Rattle.std.proofs.Common.{◌≡◌, refl, None}
use Rattle.lab_people_access.specs.declared.policy.Rule.TheVariants.{SignRejection, SignApproval}
use Rattle.lab_records_rules.specs.declared.outcomes.Signing.TheVariants.{Rejection, Approval}
use Rattle.lab_records_rules.specs.SigningPolicy.{signing_rule}

-- a manager rejects and approves
pub known_signing_rules : (signing_rule (Rejection None) ≡ SignRejection) × (signing_rule Approval ≡ SignApproval)
known_signing_rules = (refl, refl)
