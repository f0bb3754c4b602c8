-- The state of a version and its signatures, what a signing that is taken says of them, and the
-- last of a list.
use Rattle.std.proofs.Common.{◌≡◌, ℕ, ◌-◌, Bool, true, false, cond, List, [], ◌∷◌, length, Option, Some, None, refl, subst, suc, arith}
use Rattle.std.specs.Prelude.{map, bytes_eq}
use Rattle.std.proofs.lemmas.Slice.Eq.{bytes_eq-Decides}
use Rattle.lab_seal_versions.specs.declared.seals.Meaning.{Meaning}
use Rattle.lab_seal_versions.specs.declared.seals.Meaning.TheVariants.{Authorship, Review, Rejection, Approval}
use Rattle.lab_seal_versions.specs.declared.states.State.{State}
use Rattle.lab_seal_versions.specs.declared.states.State.TheVariants.{Open, Signed, Reviewed}
use Rattle.lab_seal_versions.specs.States.{state_of}
use Rattle.lab_records_kept.specs.declared.records.Record.{Record}
use Rattle.lab_records_kept.specs.declared.records.Version.{Version}
use Rattle.lab_records_kept.specs.declared.records.Signature.{Signature}
use Rattle.lab_records_kept.specs.Lookups.{last_of}
use Rattle.lab_records_kept.specs.Digests.{digest_of}
use Rattle.lab_records_kept.specs.Values.{meaning_of, version_state}
use Rattle.lab_records_rules.specs.declared.outcomes.Signing.{Signing}
use Rattle.lab_records_rules.specs.declared.refusals.Refusal.{Refusal}
use Rattle.lab_records_rules.specs.declared.refusals.Refusal.TheVariants.{StaleDigest}
use Rattle.lab_records_versions.specs.Signing.{or_else, approval_refusal, state_refusal, digest_refusal, signer_refusal, version_refusal}

-- ---- the last of a list

pub one_last : (one last : Version) → last_of (one ∷ []) ≡ Some last → one ≡ last
one_last one last is = cc

pub later_last : (one two : Version) (more : List Version) (last : Version)
    → last_of (one ∷ two ∷ more) ≡ Some last → last_of (two ∷ more) ≡ Some last
later_last one two more last is =
    let fewer : length (two ∷ more) - 1 ≡ length more = omega arith in
    let longer : length (one ∷ two ∷ more) - 1 ≡ suc (length more) = omega arith in
    rw fewer (rw longer at is)

-- ---- what a signing that is taken says

pub or_else_none : (one other : Option Refusal) → or_else one other ≡ None
    → (one ≡ None) × (other ≡ None)
or_else_none (Some refusal) other is = absurd (cc)
or_else_none None other is = (refl, is)

-- no refusal of a version
pub record IsTaken (lab : List ℕ) (kept : Record) (version : Version) (digest : List ℕ)
    (signing : Signing) (person : List ℕ) : Type 0 where
  pub state : state_refusal signing (version_state kept version) ≡ None
  pub current : digest_refusal (digest_of lab kept version) digest ≡ None
  pub signer : signer_refusal signing version person ≡ None

pub taken_said : (lab : List ℕ) (kept : Record) (version : Version) (digest : List ℕ)
    (signing : Signing) (person : List ℕ)
    → version_refusal lab kept version digest signing person ≡ None
    → IsTaken lab kept version digest signing person
taken_said lab kept version digest signing person is =
    let approval = or_else_none (approval_refusal signing kept.form.form.approval) _ is in
    let state = or_else_none (state_refusal signing (version_state kept version)) _ approval.1 in
    let current = or_else_none (digest_refusal (digest_of lab kept version) digest) _ state.1 in
    let signer = or_else_none (signer_refusal signing version person) _ current.1 in
    record { state = state.0; current = current.0; signer = signer.0 }

current_if : (refusal : Refusal) (same : Bool) → cond same None (Some refusal) ≡ None → same ≡ true
current_if refusal true is = refl
current_if refusal false is = absurd (cc)

-- the digest is the one of the version as it is now
pub given_digest : (lab : List ℕ) (kept : Record) (version : Version) (digest : List ℕ)
    (signing : Signing) (person : List ℕ)
    → version_refusal lab kept version digest signing person ≡ None
    → digest ≡ digest_of lab kept version
given_digest lab kept version digest signing person is =
    let taken = taken_said lab kept version digest signing person is in
    (bytes_eq-Decides digest (digest_of lab kept version)).0
    (current_if (StaleDigest (digest_of lab kept version))
    (bytes_eq digest (digest_of lab kept version)) taken.current)

-- ---- the signatures of a state

-- one signature, of authorship; and two, of authorship and of review, where an approval is wanted
pub record IsAuthored (signatures : List Signature) : Type 0 where
  pub author : Signature
  pub signatures_are : signatures ≡ author ∷ []
  pub author_means : author.meaning ≡ Authorship

pub record IsReviewed (signatures : List Signature) (approval : Bool) : Type 0 where
  pub author : Signature
  pub reviewer : Signature
  pub signatures_are : signatures ≡ author ∷ reviewer ∷ []
  pub author_means : author.meaning ≡ Authorship
  pub reviewer_means : reviewer.meaning ≡ Review
  pub wanted : approval ≡ true

-- which signatures a version has that hasn't settled
abbrev pub AreOf : List Signature → Bool → Option State → Type 0
AreOf signatures approval (Some Open) = signatures ≡ []
AreOf signatures approval (Some Signed) = IsAuthored signatures
AreOf signatures approval (Some Reviewed) = IsReviewed signatures approval
AreOf signatures approval _ = Unit {0}

one_of : (one : Signature) (first : Meaning) (approval : Bool) → one.meaning ≡ first
    → AreOf (one ∷ []) approval (state_of (first ∷ []) approval)
one_of one Authorship approval is =
    record { author = one; signatures_are = refl; author_means = is }
one_of one Review approval is = tt
one_of one (Rejection reason) approval is = tt
one_of one Approval approval is = tt

two_of : (one two : Signature) (first second : Meaning) (approval : Bool) → one.meaning ≡ first
    → two.meaning ≡ second
    → AreOf (one ∷ two ∷ []) approval (state_of (first ∷ second ∷ []) approval)
two_of one two Authorship Review true is so = record {
  author = one;
  reviewer = two;
  signatures_are = refl;
  author_means = is;
  reviewer_means = so;
  wanted = refl;
}
two_of one two Authorship Review false is so = tt
two_of one two Authorship Authorship approval is so = tt
two_of one two Authorship (Rejection reason) approval is so = tt
two_of one two Authorship Approval approval is so = tt
two_of one two Review second approval is so = tt
two_of one two (Rejection reason) second approval is so = tt
two_of one two Approval second approval is so = tt

three_of : (signatures : List Signature) (first second third : Meaning) (approval : Bool)
    → AreOf signatures approval (state_of (first ∷ second ∷ third ∷ []) approval)
three_of signatures Authorship Review Approval true = tt
three_of signatures Authorship Review Approval false = tt
three_of signatures Authorship Review Authorship true = tt
three_of signatures Authorship Review Authorship false = tt
three_of signatures Authorship Review Review true = tt
three_of signatures Authorship Review Review false = tt
three_of signatures Authorship Review (Rejection reason) true = tt
three_of signatures Authorship Review (Rejection reason) false = tt
three_of signatures Authorship Authorship third approval = tt
three_of signatures Authorship (Rejection reason) third approval = tt
three_of signatures Authorship Approval third approval = tt
three_of signatures Review second third approval = tt
three_of signatures (Rejection reason) second third approval = tt
three_of signatures Approval second third approval = tt

four_of : (signatures : List Signature) (first second third fourth : Meaning)
    (more : List Meaning) (approval : Bool)
    → AreOf signatures approval (state_of (first ∷ second ∷ third ∷ fourth ∷ more) approval)
four_of signatures Authorship Review Approval fourth more true = tt
four_of signatures Authorship Review Approval fourth more false = tt
four_of signatures Authorship Review Authorship fourth more approval = tt
four_of signatures Authorship Review Review fourth more approval = tt
four_of signatures Authorship Review (Rejection reason) fourth more true = tt
four_of signatures Authorship Review (Rejection reason) fourth more false = tt
four_of signatures Authorship Authorship third fourth more approval = tt
four_of signatures Authorship (Rejection reason) third fourth more approval = tt
four_of signatures Authorship Approval third fourth more approval = tt
four_of signatures Review second third fourth more approval = tt
four_of signatures (Rejection reason) second third fourth more approval = tt
four_of signatures Approval second third fourth more approval = tt

pub are_of : (signatures : List Signature) (approval : Bool)
    → AreOf signatures approval (state_of (map meaning_of signatures) approval)
are_of [] approval = refl
are_of (one ∷ []) approval = one_of one one.meaning approval refl
are_of (one ∷ two ∷ []) approval = two_of one two one.meaning two.meaning approval refl refl
are_of (one ∷ two ∷ three ∷ []) approval =
    three_of (one ∷ two ∷ three ∷ []) one.meaning two.meaning three.meaning approval
are_of (one ∷ two ∷ three ∷ four ∷ more) approval =
    four_of (one ∷ two ∷ three ∷ four ∷ more) one.meaning two.meaning three.meaning four.meaning
    (map meaning_of more) approval

-- the same, of a state that is known
pub are_in : (signatures : List Signature) (approval : Bool) (state : Option State)
    → state_of (map meaning_of signatures) approval ≡ state → AreOf signatures approval state
are_in signatures approval state is =
    subst (λ (one : Option State). AreOf signatures approval one) is (are_of signatures approval)

-- an open version has none
pub open_none : (signatures : List Signature) (approval : Bool)
    → state_of (map meaning_of signatures) approval ≡ Some Open → signatures ≡ []
open_none signatures approval is = are_in signatures approval (Some Open) is
