-- What a person signs as, by the policy.
use Rattle.lab_people_access.specs.declared.policy.Rule.{Rule}
use Rattle.lab_people_access.specs.declared.policy.Rule.TheVariants.{SignAuthorship, SignReview, SignRejection, SignApproval}
use Rattle.lab_records_rules.specs.declared.outcomes.Signing.{Signing}
use Rattle.lab_records_rules.specs.declared.outcomes.Signing.TheVariants.{Authorship, Review, Rejection, Approval}

-- by which rule of the policy a person signs so
abbrev pub signing_rule : Signing → Rule
signing_rule Authorship = SignAuthorship
signing_rule Review = SignReview
signing_rule (Rejection reason) = SignRejection
signing_rule Approval = SignApproval
