-- Records stay under dual control through what the rules make of them.
use Rattle.std.proofs.Common.{◌≡◌, ◌≢◌, ℕ, Bool, true, false, cond, List, [], ◌∷◌, ◌++◌, Option, Some, None, refl, sym, ap, ◌∙◌, subst, inl, inr}
use Rattle.std.specs.Prelude.{All, IsTrue, IsSome, MatchOption, ◌||◌, map, bytes_eq, ◌⊎◌, is_some}
use Rattle.std.proofs.lemmas.Slice.Eq.{bytes_eq-Decides}
use Rattle.std.proofs.lemmas.List.Elements.{All-nil, All-cons, All-head, All-tail, All-push, All-weaker}
use Rattle.lab_people_access.specs.declared.persons.Person.{Person}
use Rattle.lab_seal_versions.specs.declared.rows.EntryRow.{EntryRow}
use Rattle.lab_seal_versions.specs.declared.seals.Meaning.{Meaning}
use Rattle.lab_seal_versions.specs.declared.seals.Meaning.TheVariants.{Authorship as AsAuthor, Review as AsReviewer, Rejection as AsRejection, Approval as AsApproval}
use Rattle.lab_seal_versions.specs.declared.states.State.{State}
use Rattle.lab_seal_versions.specs.declared.states.State.TheVariants.{Open, Signed, Reviewed, Released, Rejected}
use Rattle.lab_seal_versions.specs.States.{is_settled, state_of}
use Rattle.lab_records_kept.specs.declared.records.FormVersion.{FormVersion}
use Rattle.lab_records_kept.specs.declared.records.Record.{Record}
use Rattle.lab_records_kept.specs.declared.records.Version.{Version}
use Rattle.lab_records_kept.specs.declared.records.Signature.{Signature}
use Rattle.lab_records_kept.specs.Lookups.{last_of, version_of, is_numbered}
use Rattle.lab_records_kept.specs.Values.{meaning_of, version_state, has_entered}
use Rattle.lab_records_kept.specs.Changes.{with_row, with_signature, in_last, in_version, entered_in, opened_in, signed_in}
use Rattle.lab_records_kept.specs.Dual.{EnteredNone, AreSigners, IsSignedDually, IsSettled, AreSettledButLast, IsDualRecord}
use Rattle.lab_records_rules.specs.declared.items.Item.{Item}
use Rattle.lab_records_rules.specs.declared.outcomes.Signing.{Signing}
use Rattle.lab_records_rules.specs.declared.outcomes.Signing.TheVariants.{Authorship, Review, Rejection, Approval}
use Rattle.lab_records_rules.specs.declared.refusals.Refusal.TheVariants.{OwnWork, NotAuthor}
use Rattle.lab_records_rules.specs.Making.{new_record, first_version}
use Rattle.lab_records_versions.specs.Entering.{has_settled, next_version}
use Rattle.lab_records_versions.specs.Signing.{is_second, state_refusal, signer_refusal, signed_meaning, version_refusal, new_signature}
use Rattle.lab_records_laws.proofs.SigningFrame.{with_versions, StaysTrue, each_in_version}
use Rattle.lab_records_laws.proofs.SigningStates.{one_last, later_last, taken_said, IsAuthored, IsReviewed, are_in, open_none}

-- a version that stays is signed as it was
same_signed : (kept : Record) (others : List Version) (version : Version)
    → IsSignedDually kept version → IsSignedDually (with_versions kept others) version
same_signed kept others version dual = record {
  format = dual.format;
  state = dual.state;
  signers = dual.signers;
}

-- ---- an entry

-- a version without signatures has one row more
signed_row : (kept : Record) (others : List Version) (row : EntryRow) (version : Version)
    → version.signatures ≡ [] → IsSignedDually kept version
    → IsSignedDually (with_versions kept others) (with_row row version)
signed_row kept others row version none dual = record {
  format = dual.format;
  state = dual.state;
  signers = subst (λ (list : List Signature). AreSigners (with_row row version) list) (sym none) tt;
}

signed_in_last : (kept : Record) (others : List Version) (row : EntryRow) (last : Version)
    (versions : List Version) → last_of versions ≡ Some last → last.signatures ≡ []
    → All (IsSignedDually kept) versions
    → All (IsSignedDually (with_versions kept others)) (in_last (with_row row) versions)
signed_in_last kept others row last [] is none dual = absurd (cc)
signed_in_last kept others row last (one ∷ []) is none dual =
    let same : one.signatures ≡ [] =
    ap (λ (v : Version). v.signatures) (one_last one last is) ∙ none in
    All-cons (IsSignedDually (with_versions kept others)) (with_row row one) []
    (signed_row kept others row one same (All-head (IsSignedDually kept) one [] dual))
    (All-nil (IsSignedDually (with_versions kept others)))
signed_in_last kept others row last (one ∷ two ∷ more) is none dual =
    All-cons (IsSignedDually (with_versions kept others)) one (in_last (with_row row) (two ∷ more))
    (same_signed kept others one (All-head (IsSignedDually kept) one (two ∷ more) dual))
    (signed_in_last kept others row last (two ∷ more) (later_last one two more last is) none
    (All-tail (IsSignedDually kept) one (two ∷ more) dual))

settled_in_last : (kept : Record) (others : List Version) (row : EntryRow)
    (versions : List Version) → AreSettledButLast kept versions
    → AreSettledButLast (with_versions kept others) (in_last (with_row row) versions)
settled_in_last kept others row [] settled = tt
settled_in_last kept others row (one ∷ []) settled = tt
settled_in_last kept others row (one ∷ two ∷ []) settled = (settled.0, tt)
settled_in_last kept others row (one ∷ two ∷ three ∷ more) settled =
    (settled.0, settled_in_last kept others row (two ∷ three ∷ more) settled.1)

-- ---- an amendment

has_settled_is : (state : Option State) → has_settled state ≡ true
    → MatchOption state ⊥ (λ one. IsTrue (is_settled one))
has_settled_is None is = absurd (cc)
has_settled_is (Some state) is = is

settled_more : (kept : Record) (others : List Version) (last next : Version)
    (versions : List Version) → last_of versions ≡ Some last
    → has_settled (version_state kept last) ≡ true → AreSettledButLast kept versions
    → AreSettledButLast (with_versions kept others) (versions ++ next ∷ [])
settled_more kept others last next [] is has settled = tt
settled_more kept others last next (one ∷ []) is has settled =
    let same : has_settled (version_state kept one) ≡ true =
    ap (λ (v : Version). has_settled (version_state kept v)) (one_last one last is) ∙ has in
    (has_settled_is (version_state kept one) same, tt)
settled_more kept others last next (one ∷ two ∷ more) is has settled = (
  settled.0,
  settled_more kept others last next (two ∷ more) (later_last one two more last is) has
      settled.1,
)

-- ---- a signature: the state

author_state : (state : Option State) → state_refusal Authorship state ≡ None → state ≡ Some Open
author_state None is = absurd (cc)
author_state (Some Open) is = refl
author_state (Some Signed) is = absurd (cc)
author_state (Some Reviewed) is = absurd (cc)
author_state (Some Released) is = absurd (cc)
author_state (Some Rejected) is = absurd (cc)

review_state : (state : Option State) → state_refusal Review state ≡ None → state ≡ Some Signed
review_state None is = absurd (cc)
review_state (Some Open) is = absurd (cc)
review_state (Some Signed) is = refl
review_state (Some Reviewed) is = absurd (cc)
review_state (Some Released) is = absurd (cc)
review_state (Some Rejected) is = absurd (cc)

approval_state : (state : Option State) → state_refusal Approval state ≡ None
    → state ≡ Some Reviewed
approval_state None is = absurd (cc)
approval_state (Some Open) is = absurd (cc)
approval_state (Some Signed) is = absurd (cc)
approval_state (Some Reviewed) is = refl
approval_state (Some Released) is = absurd (cc)
approval_state (Some Rejected) is = absurd (cc)

rejection_state : (reason : Option (List ℕ)) (state : Option State)
    → state_refusal (Rejection reason) state ≡ None
    → (state ≡ Some Signed) ⊎ (state ≡ Some Reviewed)
rejection_state reason None is = absurd (cc)
rejection_state reason (Some Open) is = absurd (cc)
rejection_state reason (Some Signed) is = inl refl
rejection_state reason (Some Reviewed) is = inr refl
rejection_state reason (Some Released) is = absurd (cc)
rejection_state reason (Some Rejected) is = absurd (cc)

-- nothing is signed where the state has settled
not_settled : (signing : Signing) (state : Option State) → state_refusal signing state ≡ None
    → MatchOption state ⊥ (λ one. IsTrue (is_settled one)) → ⊥
not_settled Authorship state is settled =
    subst (λ (one : Option State). MatchOption one ⊥ (λ s. IsTrue (is_settled s)) → ⊥)
    (sym (author_state state is)) (λ (so : false ≡ true). absurd (cc)) settled
not_settled Review state is settled =
    subst (λ (one : Option State). MatchOption one ⊥ (λ s. IsTrue (is_settled s)) → ⊥)
    (sym (review_state state is)) (λ (so : false ≡ true). absurd (cc)) settled
not_settled Approval state is settled =
    subst (λ (one : Option State). MatchOption one ⊥ (λ s. IsTrue (is_settled s)) → ⊥)
    (sym (approval_state state is)) (λ (so : false ≡ true). absurd (cc)) settled
not_settled (Rejection reason) None is settled = settled
not_settled (Rejection reason) (Some Open) is settled = absurd (cc)
not_settled (Rejection reason) (Some Signed) is settled = absurd (cc)
not_settled (Rejection reason) (Some Reviewed) is settled = absurd (cc)
not_settled (Rejection reason) (Some Released) is settled = absurd (cc)
not_settled (Rejection reason) (Some Rejected) is settled = absurd (cc)

-- the versions before the last take none, so they stay settled
settled_if : (kept : Record) (others : List Version) (signature : Signature)
    (version one two : Version) (more : List Version) (later : Option Version) (here : Bool)
    → cond here (Some one) later ≡ Some version → (IsSettled kept version → ⊥)
    → IsSettled kept one → (changed : List Version)
    → (later ≡ Some version → AreSettledButLast (with_versions kept others) (one ∷ changed))
    → AreSettledButLast (with_versions kept others)
    (cond here (with_signature signature one ∷ two ∷ more) (one ∷ changed))
settled_if kept others signature version one two more later true found unsettled settled changed
    after =
    let same : one ≡ version = cc in
    absurd (unsettled (subst (λ (v : Version). IsSettled kept v) same settled))
settled_if kept others signature version one two more later false found unsettled settled changed
    after =
    after found

settled_first : (kept : Record) (one : Version) (more : List Version) → IsSettled kept one
    → AreSettledButLast kept more → AreSettledButLast kept (one ∷ more)
settled_first kept one [] settled more_settled = tt
settled_first kept one (two ∷ more) settled more_settled = (settled, more_settled)

settled_alone : (kept : Record) (one other : Version) (here : Bool)
    → AreSettledButLast kept (cond here (one ∷ []) (other ∷ []))
settled_alone kept one other true = tt
settled_alone kept one other false = tt

settled_in_version : (kept : Record) (others : List Version) (number : ℕ) (signature : Signature)
    (version : Version) (versions : List Version) → version_of versions number ≡ Some version
    → (IsSettled kept version → ⊥) → AreSettledButLast kept versions
    → AreSettledButLast (with_versions kept others)
    (in_version number (with_signature signature) versions)
settled_in_version kept others number signature version [] found unsettled settled = tt
settled_in_version kept others number signature version (one ∷ []) found unsettled settled =
    settled_alone (with_versions kept others) (with_signature signature one) one
    (is_numbered number one)
settled_in_version kept others number signature version (one ∷ two ∷ more) found unsettled settled =
    settled_if kept others signature version one two more (version_of (two ∷ more) number)
    (is_numbered number one) found unsettled settled.0
    (in_version number (with_signature signature) (two ∷ more))
    (λ later. settled_first (with_versions kept others) one
    (in_version number (with_signature signature) (two ∷ more)) settled.0
    (settled_in_version kept others number signature version (two ∷ more) later unsettled
    settled.1))

-- ---- a signature: the signers

-- signatures of these meanings are those of a state
abbrev has_state : List Meaning → Bool → Bool
has_state meanings approval = is_some (state_of meanings approval)

-- signatures are those of a state, and are given by whom they may be
abbrev AreRight : Version → List Signature → Bool → Type 0
AreRight version signatures approval =
    IsSome (state_of (map meaning_of signatures) approval) × AreSigners version signatures

author_right : (version : Version) (author : Signature) (approval : Bool)
    → author.meaning ≡ AsAuthor → has_entered author.person version ≡ true
    → AreRight version (author ∷ []) approval
author_right version author approval means entered = (
  ap (λ (one : Meaning). is_some (state_of (one ∷ []) approval)) means,
  (entered, All-nil (EnteredNone version), tt),
)

review_has_state : (approval : Bool) → IsSome (state_of (AsAuthor ∷ AsReviewer ∷ []) approval)
review_has_state true = refl
review_has_state false = refl

second_right : (version : Version) (author second : Signature) (approval : Bool)
    (meaning : Meaning) → author.meaning ≡ AsAuthor → second.meaning ≡ meaning
    → IsSome (state_of (AsAuthor ∷ meaning ∷ []) approval) → AreSigners version (author ∷ [])
    → has_entered second.person version ≡ false
    → AreRight version (author ∷ second ∷ []) approval
second_right version author second approval meaning author_means means some signers none = (
  ap (λ (one : Meaning). is_some (state_of (one ∷ second.meaning ∷ []) approval)) author_means
      ∙ ap (λ (one : Meaning). is_some (state_of (AsAuthor ∷ one ∷ []) approval)) means ∙ some,
  (signers.0, All-cons (EnteredNone version) second [] none (All-nil (EnteredNone version)), tt),
)

third_right : (version : Version) (author second third : Signature) (approval : Bool)
    (meaning : Meaning) → author.meaning ≡ AsAuthor → second.meaning ≡ AsReviewer
    → third.meaning ≡ meaning → approval ≡ true
    → IsSome (state_of (AsAuthor ∷ AsReviewer ∷ meaning ∷ []) true)
    → AreSigners version (author ∷ second ∷ []) → has_entered third.person version ≡ false
    → third.person ≢ second.person
    → AreRight version (author ∷ second ∷ third ∷ []) approval
third_right version author second third approval meaning author_means second_means means wanted some
    signers none differs =
    let first_is =
    ap (λ (one : Meaning). has_state (one ∷ second.meaning ∷ third.meaning ∷ []) approval)
    author_means in
    let second_is = ap (λ (one : Meaning). has_state (AsAuthor ∷ one ∷ third.meaning ∷ []) approval)
    second_means in
    let third_is =
    ap (λ (one : Meaning). has_state (AsAuthor ∷ AsReviewer ∷ one ∷ []) approval) means in
    let wanted_is =
    ap (λ (one : Bool). has_state (AsAuthor ∷ AsReviewer ∷ meaning ∷ []) one) wanted in
    let later = All-cons (EnteredNone version) second (third ∷ [])
    (All-head (EnteredNone version) second [] signers.1)
    (All-cons (EnteredNone version) third [] none (All-nil (EnteredNone version))) in
    (first_is ∙ second_is ∙ third_is ∙ wanted_is ∙ some, (signers.0, later, differs))

-- what a signer's refusal would have said
entered_if : (entered : Bool) → cond entered None (Some NotAuthor) ≡ None → entered ≡ true
entered_if true is = refl
entered_if false is = absurd (cc)

none_if : (entered second : Bool) → cond (entered || second) (Some OwnWork) None ≡ None
    → (entered ≡ false) × (second ≡ false)
none_if true second is = absurd (cc)
none_if false true is = absurd (cc)
none_if false false is = (refl, refl)

third_differs : (signatures : List Signature) (author second : Signature) (person : List ℕ)
    → signatures ≡ author ∷ second ∷ [] → is_second person signatures ≡ false
    → person ≢ second.person
third_differs signatures author second person are isnt same =
    let here : bytes_eq second.person person ≡ true =
    (bytes_eq-Decides second.person person).1 (sym same) in
    let there : bytes_eq second.person person ≡ false =
    subst (λ (list : List Signature). is_second person list ≡ false) are isnt in
    absurd (cc)

-- after one that has authorship alone, or authorship and review
after_author : (version : Version) (signature : Signature) (approval : Bool) (meaning : Meaning)
    → signature.meaning ≡ meaning → IsSome (state_of (AsAuthor ∷ meaning ∷ []) approval)
    → IsAuthored version.signatures → AreSigners version version.signatures
    → has_entered signature.person version ≡ false
    → AreRight version (version.signatures ++ signature ∷ []) approval
after_author version signature approval meaning means some authored signers none =
    subst (λ (list : List Signature). AreRight version (list ++ signature ∷ []) approval)
    (sym authored.signatures_are)
    (second_right version authored.author signature approval meaning authored.author_means means
    some
    (subst (λ (list : List Signature). AreSigners version list) authored.signatures_are signers)
    none)

after_review : (version : Version) (signature : Signature) (approval : Bool) (meaning : Meaning)
    → signature.meaning ≡ meaning
    → IsSome (state_of (AsAuthor ∷ AsReviewer ∷ meaning ∷ []) true)
    → IsReviewed version.signatures approval → AreSigners version version.signatures
    → has_entered signature.person version ≡ false
    → is_second signature.person version.signatures ≡ false
    → AreRight version (version.signatures ++ signature ∷ []) approval
after_review version signature approval meaning means some reviewed signers none isnt =
    subst (λ (list : List Signature). AreRight version (list ++ signature ∷ []) approval)
    (sym reviewed.signatures_are)
    (third_right version reviewed.author reviewed.reviewer signature approval meaning
    reviewed.author_means reviewed.reviewer_means means reviewed.wanted some
    (subst (λ (list : List Signature). AreSigners version list) reviewed.signatures_are signers)
    none
    (third_differs version.signatures reviewed.author reviewed.reviewer signature.person
    reviewed.signatures_are isnt))

-- a rejection bears its reason, or an empty one
rejection_right : (version : Version) (signature : Signature) (approval : Bool) (said : List ℕ)
    → signature.meaning ≡ AsRejection said
    → (version_at : (state_of (map meaning_of version.signatures) approval ≡ Some Signed)
    ⊎ (state_of (map meaning_of version.signatures) approval ≡ Some Reviewed))
    → AreSigners version version.signatures → has_entered signature.person version ≡ false
    → is_second signature.person version.signatures ≡ false
    → AreRight version (version.signatures ++ signature ∷ []) approval
rejection_right version signature approval said means (inl signed) signers none isnt =
    after_author version signature approval (AsRejection said) means refl
    (are_in version.signatures approval (Some Signed) signed) signers none
rejection_right version signature approval said means (inr reviewed) signers none isnt =
    after_review version signature approval (AsRejection said) means refl
    (are_in version.signatures approval (Some Reviewed) reviewed) signers none isnt

-- one signature more, that was not refused
one_more : (version : Version) (signature : Signature) (signing : Signing) (approval : Bool)
    → signature.meaning ≡ signed_meaning signing
    → state_refusal signing (state_of (map meaning_of version.signatures) approval) ≡ None
    → signer_refusal signing version signature.person ≡ None
    → AreSigners version version.signatures
    → AreRight version (version.signatures ++ signature ∷ []) approval
one_more version signature Authorship approval means state signer signers =
    subst (λ (list : List Signature). AreRight version (list ++ signature ∷ []) approval)
    (sym (open_none version.signatures approval (author_state _ state)))
    (author_right version signature approval means
    (entered_if (has_entered signature.person version) signer))
one_more version signature Review approval means state signer signers =
    let none = none_if (has_entered signature.person version)
    (is_second signature.person version.signatures) signer in
    after_author version signature approval AsReviewer means (review_has_state approval)
    (are_in version.signatures approval (Some Signed) (review_state _ state)) signers none.0
one_more version signature Approval approval means state signer signers =
    let none = none_if (has_entered signature.person version)
    (is_second signature.person version.signatures) signer in
    after_review version signature approval AsApproval means refl
    (are_in version.signatures approval (Some Reviewed) (approval_state _ state)) signers none.0
    none.1
one_more version signature (Rejection None) approval means state signer signers =
    let none = none_if (has_entered signature.person version)
    (is_second signature.person version.signatures) signer in
    rejection_right version signature approval [] means (rejection_state None _ state) signers
    none.0
    none.1
one_more version signature (Rejection (Some reason)) approval means state signer signers =
    let none = none_if (has_entered signature.person version)
    (is_second signature.person version.signatures) signer in
    rejection_right version signature approval reason means (rejection_state (Some reason) _ state)
    signers none.0 none.1

-- who signed a version doesn't change by a signature more
same_signers : (version : Version) (signature : Signature) (signatures : List Signature)
    → AreSigners version signatures → AreSigners (with_signature signature version) signatures
same_signers version signature [] signers = tt
same_signers version signature (author ∷ later) signers = signers

signed_more : (kept : Record) (others : List Version) (version : Version) (signature : Signature)
    (signing : Signing) → signature.meaning ≡ signed_meaning signing
    → state_refusal signing (version_state kept version) ≡ None
    → signer_refusal signing version signature.person ≡ None → IsSignedDually kept version
    → IsSignedDually (with_versions kept others) (with_signature signature version)
signed_more kept others version signature signing means state signer dual =
    let right = one_more version signature signing kept.form.form.approval means state signer
    dual.signers in
    record {
      format = dual.format;
      state = right.0;
      signers =
          same_signers version signature (version.signatures ++ signature ∷ []) right.1;
    }

-- ---- what the rules make

dual_opened : (lab : List ℕ) (form : FormVersion) (sample caller : List ℕ) (moment records : ℕ)
    → IsDualRecord (new_record form sample caller moment records)
dual_opened lab form sample caller moment records = record {
  signed = All-cons (IsSignedDually (new_record form sample caller moment records))
      (first_version form.form.approval caller moment) []
      (record { format = refl; state = refl; signers = tt })
      (All-nil (IsSignedDually (new_record form sample caller moment records)));
  settled = tt;
}

dual_entered : (lab : List ℕ) (kept : Record) (version : Version) (row : EntryRow)
    → last_of kept.versions ≡ Some version → version_state kept version ≡ Some Open
    → IsDualRecord kept → IsDualRecord (entered_in row kept)
dual_entered lab kept version row last is dual = record {
  signed = signed_in_last kept (in_last (with_row row) kept.versions) row version kept.versions last
      (open_none version.signatures kept.form.form.approval is) dual.signed;
  settled = settled_in_last kept (in_last (with_row row) kept.versions) row kept.versions
      dual.settled;
}

dual_amended : (lab : List ℕ) (kept : Record) (last : Version) (reason : List ℕ)
    (altered : List Item) (caller : List ℕ) (moment : ℕ)
    → last_of kept.versions ≡ Some last → has_settled (version_state kept last) ≡ true
    → IsDualRecord kept
    → IsDualRecord (opened_in (next_version lab kept last reason altered caller moment) kept)
dual_amended lab kept last reason altered caller moment is settled dual =
    let next : Version = next_version lab kept last reason altered caller moment in
    let others : List Version = kept.versions ++ next ∷ [] in
    record {
      signed = All-push (IsSignedDually (with_versions kept others)) kept.versions next
          (All-weaker (IsSignedDually kept) (IsSignedDually (with_versions kept others))
          (same_signed kept others) kept.versions dual.signed)
          (record { format = refl; state = refl; signers = tt });
      settled = settled_more kept others last next kept.versions is settled dual.settled;
    }

dual_signed : (lab : List ℕ) (kept : Record) (version : Version) (number : ℕ) (digest : List ℕ)
    (signing : Signing) (person : Person) (moment : ℕ)
    → version_of kept.versions number ≡ Some version
    → version_refusal lab kept version digest signing person.code ≡ None → IsDualRecord kept
    → IsDualRecord (signed_in number (new_signature lab person signing moment digest) kept)
dual_signed lab kept version number digest signing person moment found is dual =
    let signature : Signature = new_signature lab person signing moment digest in
    let others : List Version = in_version number (with_signature signature) kept.versions in
    let taken = taken_said lab kept version digest signing person.code is in
    record {
      signed = each_in_version (IsSignedDually kept) (IsSignedDually (with_versions kept others))
          number (with_signature signature) version kept.versions found
          (signed_more kept others version signature signing refl taken.state taken.signer)
          (same_signed kept others) dual.signed;
      settled = settled_in_version kept others number signature version kept.versions found
          (not_settled signing (version_state kept version) taken.state) dual.settled;
    }

pub dual_stays : StaysTrue (λ lab kept. IsDualRecord kept)
dual_stays = record {
  opened = dual_opened;
  entered = dual_entered;
  amended = dual_amended;
  signed = dual_signed;
}
