-- A signature that is given fits: no signature of its version has its meaning.
use Rattle.std.proofs.Common.{◌≡◌, ◌≢◌, ℕ, Bool, true, false, List, [], ◌∷◌, Option, Some, None, Ok, refl, sym, ◌∙◌, ap, subst}
use Rattle.std.specs.Prelude.{All, MatchOption, option_and_then, map}
use Rattle.std.specs.List.{AllByRecursion}
use Rattle.std.specs.Cmp.{unsigned_Decides}
use Rattle.std.proofs.lemmas.List.Elements.{All-nil, All-cons}
use Rattle.lab_people_access.specs.declared.persons.Person.{Person}
use Rattle.lab_seal_versions.specs.declared.seals.Meaning.{Meaning}
use Rattle.lab_seal_versions.specs.declared.seals.Meaning.TheVariants.{Authorship as AsAuthor, Review as AsReviewer, Rejection as AsRejection, Approval as AsApproval}
use Rattle.lab_seal_versions.specs.declared.states.State.{State}
use Rattle.lab_seal_versions.specs.declared.states.State.TheVariants.{Open, Signed, Reviewed, Released, Rejected}
use Rattle.lab_seal_versions.specs.Seals.{meaning_word}
use Rattle.lab_seal_versions.specs.States.{state_of}
use Rattle.lab_records_kept.specs.declared.labs.Lab.{Lab}
use Rattle.lab_records_kept.specs.declared.records.Signature.{Signature}
use Rattle.lab_records_kept.specs.declared.changes.Change.TheVariants.{SignatureAdded}
use Rattle.lab_records_kept.specs.Changes.{Fits, IsKnown, IsNewMeaning}
use Rattle.lab_records_kept.specs.Lookups.{record_of, version_of, is_numbered}
use Rattle.lab_records_kept.specs.Lookups.{numbered_version}
use Rattle.lab_records_kept.specs.Values.{meaning_of, meanings_of, version_state}
use Rattle.lab_records_rules.specs.declared.outcomes.Signing.{Signing}
use Rattle.lab_records_rules.specs.declared.outcomes.Signing.TheVariants.{Authorship, Review, Rejection, Approval}
use Rattle.lab_records_rules.specs.declared.outcomes.SignatureMade.{SignatureMade}
use Rattle.lab_records_rules.specs.declared.refusals.Refusal.{Refusal}
use Rattle.lab_records_versions.specs.Signing.{approval_refusal, state_refusal, or_else, signed_meaning, new_signature, signing_record}
use Rattle.lab_records_laws.proofs.LimitLast.{found_passes}
use Rattle.lab_records_laws.proofs.LimitRules.{IsSignatureMade, signature_made_by}
use Rattle.lab_records_laws.proofs.LimitCases.{own_number}

-- ---- which meanings a state comes of

abbrev HasMeanings : State → List Meaning → Type 0
HasMeanings Open meanings = meanings ≡ []
HasMeanings Signed meanings = meanings ≡ AsAuthor ∷ []
HasMeanings Reviewed meanings = meanings ≡ AsAuthor ∷ AsReviewer ∷ []
HasMeanings Released meanings = Unit {0}
HasMeanings Rejected meanings = Unit {0}

of_state : (one other : State) (meanings : List Meaning) → Some one ≡ Some other
    → HasMeanings one meanings → HasMeanings other meanings
of_state one other meanings is has =
    let same : one ≡ other = cc in subst (λ s. HasMeanings s meanings) same has

pub meanings_of_state : (meanings : List Meaning) (approval : Bool) (state : State)
    → state_of meanings approval ≡ Some state → HasMeanings state meanings
meanings_of_state [] approval state is = of_state Open state [] is refl
meanings_of_state (AsAuthor ∷ []) approval state is =
    of_state Signed state (AsAuthor ∷ []) is refl
meanings_of_state (AsReviewer ∷ []) approval state is = absurd (cc)
meanings_of_state (AsRejection reason ∷ []) approval state is = absurd (cc)
meanings_of_state (AsApproval ∷ []) approval state is = absurd (cc)
meanings_of_state (AsAuthor ∷ AsReviewer ∷ []) false state is =
    of_state Released state (AsAuthor ∷ AsReviewer ∷ []) is (record {})
meanings_of_state (AsAuthor ∷ AsReviewer ∷ []) true state is =
    of_state Reviewed state (AsAuthor ∷ AsReviewer ∷ []) is refl
meanings_of_state (AsAuthor ∷ AsRejection reason ∷ []) approval state is =
    of_state Rejected state (AsAuthor ∷ AsRejection reason ∷ []) is (record {})
meanings_of_state (AsAuthor ∷ AsAuthor ∷ []) approval state is = absurd (cc)
meanings_of_state (AsAuthor ∷ AsApproval ∷ []) approval state is = absurd (cc)
meanings_of_state (AsReviewer ∷ second ∷ others) approval state is = absurd (cc)
meanings_of_state (AsRejection reason ∷ second ∷ others) approval state is = absurd (cc)
meanings_of_state (AsApproval ∷ second ∷ others) approval state is = absurd (cc)
meanings_of_state (AsAuthor ∷ AsReviewer ∷ AsApproval ∷ []) true state is =
    of_state Released state (AsAuthor ∷ AsReviewer ∷ AsApproval ∷ []) is (record {})
meanings_of_state (AsAuthor ∷ AsReviewer ∷ AsApproval ∷ []) false state is = absurd (cc)
meanings_of_state (AsAuthor ∷ AsReviewer ∷ AsRejection reason ∷ []) true state is =
    of_state Rejected state (AsAuthor ∷ AsReviewer ∷ AsRejection reason ∷ []) is (record {})
meanings_of_state (AsAuthor ∷ AsReviewer ∷ AsRejection reason ∷ []) false state is = absurd (cc)
meanings_of_state (AsAuthor ∷ AsReviewer ∷ AsAuthor ∷ []) true state is = absurd (cc)
meanings_of_state (AsAuthor ∷ AsReviewer ∷ AsAuthor ∷ []) false state is = absurd (cc)
meanings_of_state (AsAuthor ∷ AsReviewer ∷ AsReviewer ∷ []) true state is = absurd (cc)
meanings_of_state (AsAuthor ∷ AsReviewer ∷ AsReviewer ∷ []) false state is = absurd (cc)
meanings_of_state (AsAuthor ∷ AsAuthor ∷ third ∷ others) approval state is = absurd (cc)
meanings_of_state (AsAuthor ∷ AsRejection reason ∷ third ∷ others) approval state is = absurd (cc)
meanings_of_state (AsAuthor ∷ AsApproval ∷ third ∷ others) approval state is = absurd (cc)
meanings_of_state (AsAuthor ∷ AsReviewer ∷ AsApproval ∷ fourth ∷ more) true state is = absurd (cc)
meanings_of_state (AsAuthor ∷ AsReviewer ∷ AsApproval ∷ fourth ∷ more) false state is = absurd (cc)
meanings_of_state (AsAuthor ∷ AsReviewer ∷ AsRejection reason ∷ fourth ∷ more) true state is =
    absurd (cc)
meanings_of_state (AsAuthor ∷ AsReviewer ∷ AsRejection reason ∷ fourth ∷ more) false state is =
    absurd (cc)
meanings_of_state (AsAuthor ∷ AsReviewer ∷ AsAuthor ∷ fourth ∷ more) true state is = absurd (cc)
meanings_of_state (AsAuthor ∷ AsReviewer ∷ AsAuthor ∷ fourth ∷ more) false state is = absurd (cc)
meanings_of_state (AsAuthor ∷ AsReviewer ∷ AsReviewer ∷ fourth ∷ more) true state is = absurd (cc)
meanings_of_state (AsAuthor ∷ AsReviewer ∷ AsReviewer ∷ fourth ∷ more) false state is = absurd (cc)

-- ---- meanings that differ

abbrev IsNewAmong : Meaning → List Meaning → Type 0
IsNewAmong meaning meanings =
    AllByRecursion (λ one. meaning_word one ≢ meaning_word meaning) meanings

author_reviewer : meaning_word AsAuthor ≢ meaning_word AsReviewer
author_reviewer same = absurd (cc)

author_rejecter : (reason : List ℕ) → meaning_word AsAuthor ≢ meaning_word (AsRejection reason)
author_rejecter reason same = absurd (cc)

author_approver : meaning_word AsAuthor ≢ meaning_word AsApproval
author_approver same = absurd (cc)

reviewer_rejecter : (reason : List ℕ) → meaning_word AsReviewer ≢ meaning_word (AsRejection reason)
reviewer_rejecter reason same = absurd (cc)

reviewer_approver : meaning_word AsReviewer ≢ meaning_word AsApproval
reviewer_approver same = absurd (cc)

rejects_signed : (reason : Option (List ℕ))
    → IsNewAmong (signed_meaning (Rejection reason)) (AsAuthor ∷ [])
rejects_signed None = (author_rejecter [], record {})
rejects_signed (Some reason) = (author_rejecter reason, record {})

rejects_reviewed : (reason : Option (List ℕ))
    → IsNewAmong (signed_meaning (Rejection reason)) (AsAuthor ∷ AsReviewer ∷ [])
rejects_reviewed None = (author_rejecter [], (reviewer_rejecter [], record {}))
rejects_reviewed (Some reason) = (author_rejecter reason, (reviewer_rejecter reason, record {}))

-- ---- what may be signed in which state

new_in : (signing : Signing) (state : State) (meanings : List Meaning)
    → state_refusal signing (Some state) ≡ None → HasMeanings state meanings
    → IsNewAmong (signed_meaning signing) meanings
new_in Authorship Open meanings is has =
    subst (λ l. IsNewAmong AsAuthor l) (sym has) (record {})
new_in Authorship Signed meanings is has = absurd (cc)
new_in Authorship Reviewed meanings is has = absurd (cc)
new_in Authorship Released meanings is has = absurd (cc)
new_in Authorship Rejected meanings is has = absurd (cc)
new_in Review Open meanings is has = absurd (cc)
new_in Review Signed meanings is has =
    subst (λ l. IsNewAmong AsReviewer l) (sym has) (author_reviewer, record {})
new_in Review Reviewed meanings is has = absurd (cc)
new_in Review Released meanings is has = absurd (cc)
new_in Review Rejected meanings is has = absurd (cc)
new_in Approval Open meanings is has = absurd (cc)
new_in Approval Signed meanings is has = absurd (cc)
new_in Approval Reviewed meanings is has =
    subst (λ l. IsNewAmong AsApproval l) (sym has) (author_approver, (reviewer_approver, record {}))
new_in Approval Released meanings is has = absurd (cc)
new_in Approval Rejected meanings is has = absurd (cc)
new_in (Rejection reason) Open meanings is has = absurd (cc)
new_in (Rejection reason) Signed meanings is has =
    subst (λ l. IsNewAmong (signed_meaning (Rejection reason)) l) (sym has) (rejects_signed reason)
new_in (Rejection reason) Reviewed meanings is has =
    subst (λ l. IsNewAmong (signed_meaning (Rejection reason)) l) (sym has)
    (rejects_reviewed reason)
new_in (Rejection reason) Released meanings is has = absurd (cc)
new_in (Rejection reason) Rejected meanings is has = absurd (cc)

new_by : (signing : Signing) (state : Option State) (meanings : List Meaning) (approval : Bool)
    → state_of meanings approval ≡ state → state_refusal signing state ≡ None
    → IsNewAmong (signed_meaning signing) meanings
new_by Authorship None meanings approval is unrefused = absurd (cc)
new_by Review None meanings approval is unrefused = absurd (cc)
new_by (Rejection reason) None meanings approval is unrefused = absurd (cc)
new_by Approval None meanings approval is unrefused = absurd (cc)
new_by signing (Some state) meanings approval is unrefused =
    new_in signing state meanings unrefused (meanings_of_state meanings approval state is)

-- of the signatures of a version
of_signatures : (meaning : Meaning) (signatures : List Signature)
    → IsNewAmong meaning (map meaning_of signatures)
    → All (λ one. meaning_word one.meaning ≢ meaning_word meaning) signatures
of_signatures meaning [] new = All-nil (λ one. meaning_word one.meaning ≢ meaning_word meaning)
of_signatures meaning (one ∷ others) new =
    All-cons (λ one. meaning_word one.meaning ≢ meaning_word meaning) one others new.0
    (of_signatures meaning others new.1)

-- ---- a signature

neither_refuses : (one other : Option Refusal) → or_else one other ≡ None
    → (one ≡ None) × (other ≡ None)
neither_refuses None other is = (refl, is)
neither_refuses (Some refusal) other is = absurd (cc)

-- by somebody of the laboratory
pub signature_fits : (lab : Lab) (number version : ℕ) (digest : List ℕ) (signing : Signing)
    (person : Person) (moment : ℕ) (made : SignatureMade)
    → signing_record lab.code (record_of lab.records number) version digest signing person moment
    ≡ Ok made → IsKnown lab person.code
    → Fits lab (SignatureAdded made.number made.version made.signature)
signature_fits lab number version digest signing person moment made is known =
    let by : IsSignatureMade lab.code (record_of lab.records number) version digest signing person
    moment made = signature_made_by lab.code (record_of lab.records number) version digest
    signing person moment made is in
    let signature : Signature = new_signature lab.code person signing moment digest in
    let later = neither_refuses (approval_refusal signing by.kept.form.form.approval) _
    by.unrefused in
    let unrefused = neither_refuses (state_refusal signing (version_state by.kept by.version)) _
    later.1 in
    let among : IsNewAmong (signed_meaning signing) (meanings_of by.version) =
    new_by signing (version_state by.kept by.version) (meanings_of by.version)
    by.kept.form.form.approval refl unrefused.0 in
    let new : IsNewMeaning (signed_meaning signing) by.version =
    of_signatures (signed_meaning signing) by.version.signatures among in
    let own : by.version.origin.number ≡ version =
    (unsigned_Decides by.version.origin.number version).0
    (found_passes (is_numbered version) by.version by.kept.versions by.numbered) in
    let numbered : version_of by.kept.versions by.version.origin.number ≡ Some by.version =
    subst (λ n. version_of by.kept.versions n ≡ Some by.version) (sym own) by.numbered in
    let found : numbered_version lab by.kept.number by.version.origin.number ≡ Some by.version =
    ap (λ o. option_and_then (λ kept. version_of kept.versions by.version.origin.number) o)
    (own_number lab number by.kept by.is_found) ∙ numbered in
    subst (λ one. Fits lab (SignatureAdded one.number one.version one.signature)) (sym by.is)
    (subst (λ o. MatchOption o ⊥ (IsNewMeaning (signed_meaning signing))) (sym found) new, known)
