-- Which signatures a released version bears, by cases on their meanings.
use Rattle.std.proofs.Common.{◌≡◌, ◌≢◌, ℕ, Bool, true, false, List, [], ◌∷◌, Some, refl}
use Rattle.std.specs.Prelude.{All, IsTrue, map}
use Rattle.std.proofs.lemmas.List.Elements.{All-head, All-tail}
use Rattle.lab_seal_versions.specs.declared.seals.Meaning.{Meaning}
use Rattle.lab_seal_versions.specs.declared.seals.Meaning.TheVariants.{Authorship, Review, Rejection, Approval}
use Rattle.lab_seal_versions.specs.declared.states.State.TheVariants.{Released}
use Rattle.lab_seal_versions.specs.States.{state_of}
use Rattle.lab_records_kept.specs.declared.records.Record.{Record}
use Rattle.lab_records_kept.specs.declared.records.Version.{Version}
use Rattle.lab_records_kept.specs.declared.records.Signature.{Signature}
use Rattle.lab_records_kept.specs.declared.labs.Lab.{Lab}
use Rattle.lab_records_kept.specs.Values.{meaning_of, version_state, has_entered}
use Rattle.lab_records_kept.specs.Bound.{IsBoundTo, IsSealed, IsBound}
use Rattle.lab_records_kept.specs.Dual.{EnteredNone, AreSigners, IsSignedDually, IsDual, Vouches, IsApproved, IsReleasedRightly, AreReleasedRightly}

-- two signatures release a version that wants no approval
pub two_release : (first second : Meaning) (approval : Bool)
    → state_of (first ∷ second ∷ []) approval ≡ Some Released
    → (first ≡ Authorship) × (second ≡ Review) × (approval ≡ false)
two_release Authorship Review false h = (refl, refl, refl)
two_release Authorship Review true h = absurd (cc)
two_release Authorship Authorship approval h = absurd (cc)
two_release Authorship (Rejection reason) approval h = absurd (cc)
two_release Authorship Approval approval h = absurd (cc)
two_release Review second approval h = absurd (cc)
two_release (Rejection reason) second approval h = absurd (cc)
two_release Approval second approval h = absurd (cc)

-- three release one that wants an approval
pub three_release : (first second third : Meaning) (approval : Bool)
    → state_of (first ∷ second ∷ third ∷ []) approval ≡ Some Released
    → (first ≡ Authorship) × (second ≡ Review) × (third ≡ Approval) × (approval ≡ true)
three_release Authorship Review Approval true h = (refl, refl, refl, refl)
three_release Authorship Review Approval false h = absurd (cc)
three_release Authorship Review Authorship true h = absurd (cc)
three_release Authorship Review Authorship false h = absurd (cc)
three_release Authorship Review Review true h = absurd (cc)
three_release Authorship Review Review false h = absurd (cc)
three_release Authorship Review (Rejection reason) true h = absurd (cc)
three_release Authorship Review (Rejection reason) false h = absurd (cc)
three_release Authorship Authorship third approval h = absurd (cc)
three_release Authorship (Rejection reason) third approval h = absurd (cc)
three_release Authorship Approval third approval h = absurd (cc)
three_release Review second third approval h = absurd (cc)
three_release (Rejection reason) second third approval h = absurd (cc)
three_release Approval second third approval h = absurd (cc)

-- no signature releases a version by itself, nor do more than three
pub one_releases_none : (first : Meaning) (approval : Bool) → state_of (first ∷ []) approval ≢ Some Released
one_releases_none Authorship approval h = absurd (cc)
one_releases_none Review approval h = absurd (cc)
one_releases_none (Rejection reason) approval h = absurd (cc)
one_releases_none Approval approval h = absurd (cc)

pub four_release_none : (first second third fourth : Meaning) (more : List Meaning) (approval : Bool)
    → state_of (first ∷ second ∷ third ∷ fourth ∷ more) approval ≢ Some Released
four_release_none Authorship Review Approval fourth more true h = absurd (cc)
four_release_none Authorship Review Approval fourth more false h = absurd (cc)
four_release_none Authorship Review Authorship fourth more approval h = absurd (cc)
four_release_none Authorship Review Review fourth more approval h = absurd (cc)
four_release_none Authorship Review (Rejection reason) fourth more true h = absurd (cc)
four_release_none Authorship Review (Rejection reason) fourth more false h = absurd (cc)
four_release_none Authorship Authorship third fourth more approval h = absurd (cc)
four_release_none Authorship (Rejection reason) third fourth more approval h = absurd (cc)
four_release_none Authorship Approval third fourth more approval h = absurd (cc)
four_release_none Review second third fourth more approval h = absurd (cc)
four_release_none (Rejection reason) second third fourth more approval h = absurd (cc)
four_release_none Approval second third fourth more approval h = absurd (cc)

-- who entered a row isn't who entered none
pub differ : (version : Version) (one other : List ℕ) → IsTrue (has_entered one version)
    → has_entered other version ≡ false → other ≢ one
differ version one other entered none same = absurd (cc)

-- a bound signature of a meaning vouches
pub vouching : (lab : List ℕ) (kept : Record) (version : Version) (meaning : Meaning) (signature : Signature)
    → signature.meaning ≡ meaning → IsBoundTo lab kept version signature
    → Vouches lab kept version meaning signature
vouching lab kept version meaning signature is bound = record {
  meaning_is = is;
  digest = bound.digest;
  seal = bound.seal;
}

-- no approval where none is wanted
not_wanted : (lab : List ℕ) (kept : Record) (version : Version) (author reviewer : Signature) (approval : Bool)
    → approval ≡ false → IsApproved lab kept version author reviewer [] approval
not_wanted lab kept version author reviewer true h = absurd (cc)
not_wanted lab kept version author reviewer false h = refl

-- and the third person's where one is
wanted : (lab : List ℕ) (kept : Record) (version : Version) (author reviewer approver : Signature) (approval : Bool)
    → approval ≡ true → Vouches lab kept version Approval approver → approver.person ≢ author.person
    → approver.person ≢ reviewer.person → EnteredNone version approver
    → IsApproved lab kept version author reviewer (approver ∷ []) approval
wanted lab kept version author reviewer approver false h vouches author_differs reviewer_differs entered_none = absurd (cc)
wanted lab kept version author reviewer approver true h vouches author_differs reviewer_differs entered_none =
    (vouches, author_differs, reviewer_differs, entered_none)

abbrev approval_of : Record → Bool
approval_of kept = kept.form.form.approval

-- a version with two signatures
two_signed : (lab : List ℕ) (kept : Record) (version : Version) (author reviewer : Signature)
    → version.signatures ≡ author ∷ reviewer ∷ [] → All (IsBoundTo lab kept version) (author ∷ reviewer ∷ [])
    → AreSigners version (author ∷ reviewer ∷ [])
    → state_of (author.meaning ∷ reviewer.meaning ∷ []) (approval_of kept) ≡ Some Released
    → IsReleasedRightly lab kept version
two_signed lab kept version author reviewer are bound signers h =
    let meanings = two_release author.meaning reviewer.meaning (approval_of kept) h in
    let later = All-tail (IsBoundTo lab kept version) author (reviewer ∷ []) bound in
    let none = All-head (EnteredNone version) reviewer [] signers.1 in
    record {
      author = author;
      reviewer = reviewer;
      further = [];
      signatures = are;
      authored = vouching lab kept version Authorship author meanings.0
          (All-head (IsBoundTo lab kept version) author (reviewer ∷ []) bound);
      reviewed = vouching lab kept version Review reviewer meanings.1
          (All-head (IsBoundTo lab kept version) reviewer [] later);
      two_persons = differ version author.person reviewer.person signers.0 none;
      entered = signers.0;
      entered_none = none;
      approved = not_wanted lab kept version author reviewer (approval_of kept) meanings.2;
    }

-- a version with three
three_signed : (lab : List ℕ) (kept : Record) (version : Version) (author reviewer approver : Signature)
    → version.signatures ≡ author ∷ reviewer ∷ approver ∷ []
    → All (IsBoundTo lab kept version) (author ∷ reviewer ∷ approver ∷ [])
    → AreSigners version (author ∷ reviewer ∷ approver ∷ [])
    → state_of (author.meaning ∷ reviewer.meaning ∷ approver.meaning ∷ []) (approval_of kept) ≡ Some Released
    → IsReleasedRightly lab kept version
three_signed lab kept version author reviewer approver are bound signers h =
    let meanings = three_release author.meaning reviewer.meaning approver.meaning (approval_of kept) h in
    let later = All-tail (IsBoundTo lab kept version) author (reviewer ∷ approver ∷ []) bound in
    let last = All-tail (IsBoundTo lab kept version) reviewer (approver ∷ []) later in
    let none = All-head (EnteredNone version) reviewer (approver ∷ []) signers.1 in
    let no_more = All-tail (EnteredNone version) reviewer (approver ∷ []) signers.1 in
    let third_none = All-head (EnteredNone version) approver [] no_more in
    record {
      author = author;
      reviewer = reviewer;
      further = approver ∷ [];
      signatures = are;
      authored = vouching lab kept version Authorship author meanings.0
          (All-head (IsBoundTo lab kept version) author (reviewer ∷ approver ∷ []) bound);
      reviewed = vouching lab kept version Review reviewer meanings.1
          (All-head (IsBoundTo lab kept version) reviewer (approver ∷ []) later);
      two_persons = differ version author.person reviewer.person signers.0 none;
      entered = signers.0;
      entered_none = none;
      approved = wanted lab kept version author reviewer approver (approval_of kept) meanings.3
          (vouching lab kept version Approval approver meanings.2
          (All-head (IsBoundTo lab kept version) approver [] last))
          (differ version author.person approver.person signers.0 third_none) signers.2 third_none;
    }

-- a released version, by how many signatures it has
signed : (lab : List ℕ) (kept : Record) (version : Version) (signatures : List Signature)
    → version.signatures ≡ signatures → All (IsBoundTo lab kept version) signatures
    → AreSigners version signatures
    → state_of (map meaning_of signatures) (approval_of kept) ≡ Some Released
    → IsReleasedRightly lab kept version
signed lab kept version [] are bound signers h = absurd (cc)
signed lab kept version (one ∷ []) are bound signers h =
    absurd (one_releases_none one.meaning (approval_of kept) h)
signed lab kept version (one ∷ two ∷ []) are bound signers h =
    two_signed lab kept version one two are bound signers h
signed lab kept version (one ∷ two ∷ three ∷ []) are bound signers h =
    three_signed lab kept version one two three are bound signers h
signed lab kept version (one ∷ two ∷ three ∷ four ∷ more) are bound signers h =
    absurd (four_release_none one.meaning two.meaning three.meaning four.meaning (map meaning_of more)
    (approval_of kept) h)

-- a bound version under dual control, where it is released
pub released : (lab : List ℕ) (kept : Record) (version : Version) → IsSealed lab kept version
    → IsSignedDually kept version → version_state kept version ≡ Some Released
    → IsReleasedRightly lab kept version
released lab kept version bound dual h =
    signed lab kept version version.signatures refl bound dual.signers h

-- each version of each record
pub all_released : (lab : Lab) → IsBound lab → IsDual lab → AreReleasedRightly lab
all_released lab bound dual = λ place kept_or few other version_or fewer h.
    let kept_bound = bound place kept_or few in
    let kept_dual = dual place kept_or few in
    released lab.code _ _ (kept_bound.signatures other version_or fewer)
    (kept_dual.signed other version_or fewer) h
