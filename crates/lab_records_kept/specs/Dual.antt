-- Dual control: who signs what. The author of a version entered a row of it, nobody who signs it
-- later did, and a third signer isn't the second (ISO/IEC 17025:2017, 7.5.1, "the identity of
-- personnel responsible for each laboratory activity and for checking data and results"; that these
-- are different persons is this system's own rule).
use Rattle.std.specs.Prelude.{◌≡◌, ◌≢◌, ℕ, Bool, true, false, IsTrue, List, [], ◌∷◌, All, Some, IsSome, MatchOption}
use Rattle.lab_seal_versions.specs.declared.versions.Format.{Format}
use Rattle.lab_seal_versions.specs.declared.versions.Format.TheVariants.{One, Two}
use Rattle.lab_seal_versions.specs.declared.seals.Meaning.{Meaning}
use Rattle.lab_seal_versions.specs.declared.seals.Meaning.TheVariants.{Authorship, Review, Approval}
use Rattle.lab_seal_versions.specs.declared.states.State.TheVariants.{Released}
use Rattle.lab_seal_versions.specs.States.{is_settled}
use Rattle.lab_records_kept.specs.declared.records.Record.{Record}
use Rattle.lab_records_kept.specs.declared.records.Version.{Version}
use Rattle.lab_records_kept.specs.declared.records.Signature.{Signature}
use Rattle.lab_records_kept.specs.declared.labs.Lab.{Lab}
use Rattle.lab_records_kept.specs.Digests.{digest_of, seal_for}
use Rattle.lab_records_kept.specs.Values.{version_state, has_entered}

-- a signer entered no row of the version
abbrev pub EnteredNone : Version → Signature → Type 0
EnteredNone version signature = has_entered signature.person version ≡ false

-- the third signer isn't the second
abbrev pub ThirdDiffers : List Signature → Type 0
ThirdDiffers (second ∷ third ∷ others) = third.person ≢ second.person
ThirdDiffers _ = Unit {0}

-- the first signer entered a row of the version, no later one did, and the third isn't the second
abbrev pub AreSigners : Version → List Signature → Type 0
AreSigners version [] = Unit {0}
AreSigners version (author ∷ later) =
    IsTrue (has_entered author.person version) × All (EnteredNone version) later
    × ThirdDiffers later

-- the text of a version says of an approval what its form does; the older format tells of none
abbrev pub SaysOfApproval : Format → Bool → Type 0
SaysOfApproval One approval = approval ≡ false
SaysOfApproval (Two said) approval = said ≡ approval

-- the signatures of a version are those of a state, and are given by whom they may be
pub record IsSignedDually (kept : Record) (version : Version) : Type 0 where
  pub format : SaysOfApproval version.format kept.form.form.approval
  pub state : IsSome (version_state kept version)
  pub signers : AreSigners version version.signatures

-- a version is released or rejected
abbrev pub IsSettled : Record → Version → Type 0
IsSettled kept version =
    MatchOption (version_state kept version) ⊥ (λ state. IsTrue (is_settled state))

-- all versions but the last are
abbrev pub AreSettledButLast : Record → List Version → Type 0
AreSettledButLast kept [] = Unit {0}
AreSettledButLast kept (one ∷ []) = Unit {0}
AreSettledButLast kept (one ∷ other ∷ others) =
    IsSettled kept one × AreSettledButLast kept (other ∷ others)

-- a record is under dual control
pub record IsDualRecord (kept : Record) : Type 0 where
  pub signed : All (IsSignedDually kept) kept.versions
  pub settled : AreSettledButLast kept kept.versions

-- a laboratory is
abbrev pub IsDual : Lab → Type 0
IsDual lab = All IsDualRecord lab.records

-- ---- what that comes to

-- a signature stands for a person's word on a version: it has the meaning, names the digest of the
-- version as it is now, and bears its seal
pub record Vouches (lab : List ℕ) (kept : Record) (version : Version) (meaning : Meaning)
    (signature : Signature) : Type 0 where
  pub meaning_is : signature.meaning ≡ meaning
  pub digest : signature.digest ≡ digest_of lab kept version
  pub seal : signature.seal ≡ seal_for lab signature

-- the approval of a third person, where the form wants one
abbrev pub IsApproved : List ℕ → Record → Version → Signature → Signature → List Signature
    → Bool → Type 0
IsApproved lab kept version author reviewer further false = further ≡ []
IsApproved lab kept version author reviewer (approver ∷ []) true =
    Vouches lab kept version Approval approver × (approver.person ≢ author.person)
    × (approver.person ≢ reviewer.person) × EnteredNone version approver
IsApproved lab kept version author reviewer _ true = ⊥

-- A released version of a record: it bears a signature of authorship and one of review, by
-- different persons, over the digest of its present text. The author entered a row of it, and the
-- reviewer none. Where its form wants an approval, it bears one by a third person too.
pub record IsReleasedRightly (lab : List ℕ) (kept : Record) (version : Version) : Type 0 where
  pub author : Signature
  pub reviewer : Signature
  pub further : List Signature
  pub signatures : version.signatures ≡ author ∷ reviewer ∷ further
  pub authored : Vouches lab kept version Authorship author
  pub reviewed : Vouches lab kept version Review reviewer
  pub two_persons : reviewer.person ≢ author.person
  pub entered : IsTrue (has_entered author.person version)
  pub entered_none : EnteredNone version reviewer
  pub approved : IsApproved lab kept version author reviewer further kept.form.form.approval

-- every released version of a record, and of a laboratory
abbrev pub WhereReleased : List ℕ → Record → Version → Type 0
WhereReleased lab kept version =
    version_state kept version ≡ Some Released → IsReleasedRightly lab kept version

abbrev pub AreReleasedRightly : Lab → Type 0
AreReleasedRightly lab = All (λ kept. All (WhereReleased lab.code kept) kept.versions) lab.records
