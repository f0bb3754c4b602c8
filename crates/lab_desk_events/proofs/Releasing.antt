-- A version that was released stays as it was: where it has the signatures of a release, it takes no
-- more of them under dual control, and it takes no rows once it is signed.
use Rattle.std.proofs.Common.{◌≡◌, Bool, false, List, [], ◌∷◌, Option, Some, None, refl, subst}
use Rattle.std.specs.Prelude.{All, IsSome, map}
use Rattle.std.proofs.lemmas.List.Elements.{All-head, All-tail}
use Rattle.lab_seal_versions.specs.declared.rows.EntryRow.{EntryRow}
use Rattle.lab_seal_versions.specs.declared.seals.Meaning.{Meaning}
use Rattle.lab_seal_versions.specs.declared.seals.Meaning.TheVariants.{Authorship, Review, Rejection, Approval}
use Rattle.lab_seal_versions.specs.declared.states.State.TheVariants.{Released}
use Rattle.lab_seal_versions.specs.States.{state_of}
use Rattle.lab_records_kept.specs.declared.labs.Lab.{Lab}
use Rattle.lab_records_kept.specs.declared.records.FormVersion.{FormVersion}
use Rattle.lab_records_kept.specs.declared.records.Record.{Record}
use Rattle.lab_records_kept.specs.declared.records.Version.{Version}
use Rattle.lab_records_kept.specs.declared.records.Signature.{Signature}
use Rattle.lab_records_kept.specs.Dual.{IsSignedDually, IsDualRecord}
use Rattle.lab_records_kept.specs.Keeping.{Extends, IsPrefix, KeepsRows, KeepsVersion, KeepsRecord}
use Rattle.lab_records_kept.specs.Values.{meaning_of, meanings_of}
use Rattle.lab_records_keeper.specs.Worlds.{World}
use Rattle.lab_records_kept.proofs.ReleaseLemmas.{one_releases_none, two_release, three_release, four_release_none}
use Rattle.lab_records_laws.specs.Runs.{IsReleasing}
use Rattle.lab_records_laws.specs.Stepping.{WhereThere}
use Rattle.lab_desk_events.specs.Keeping.{AreReleasing, Follows, Retains, RetainedFrom, StaysReleased, KeepsReleased, ReleasedFrom}

-- ---- signatures

-- two that release are followed by none
no_third : (third : Meaning) (more : List Meaning)
    → state_of (Authorship ∷ Review ∷ third ∷ more) false ≡ None
no_third Authorship [] = refl
no_third Authorship (one ∷ others) = refl
no_third Review [] = refl
no_third Review (one ∷ others) = refl
no_third (Rejection reason) [] = refl
no_third (Rejection reason) (one ∷ others) = refl
no_third Approval [] = refl
no_third Approval (one ∷ others) = refl

after_two : (first second third : Meaning) (more : List Meaning) (approval : Bool)
    → state_of (first ∷ second ∷ []) approval ≡ Some Released
    → state_of (first ∷ second ∷ third ∷ more) approval ≡ None
after_two first second third more approval h =
    let are = two_release first second approval h in
    rw (are.0, are.1, are.2) (no_third third more)

-- nor are three
after_three : (first second third fourth : Meaning) (more : List Meaning) (approval : Bool)
    → state_of (first ∷ second ∷ third ∷ []) approval ≡ Some Released
    → state_of (first ∷ second ∷ third ∷ fourth ∷ more) approval ≡ None
after_three first second third fourth more approval h =
    let are = three_release first second third approval h in
    rw (are.0, are.1, are.2) refl

none_some : {A : Type 0} (option : Option A) → option ≡ None → IsSome option → ⊥
none_some None none some = absurd (cc)
none_some (Some value) none some = absurd (cc)

-- the signatures of a release are all that there are
signatures_stay : (old new : List Signature) (approval : Bool)
    → state_of (map meaning_of old) approval ≡ Some Released → IsPrefix old new
    → IsSome (state_of (map meaning_of new) approval) → new ≡ old
signatures_stay [] new approval h grown some = absurd (cc)
signatures_stay (a ∷ []) new approval h grown some =
    absurd (one_releases_none a.meaning approval h)
signatures_stay (a ∷ b ∷ []) [] approval h grown some = absurd grown
signatures_stay (a ∷ b ∷ []) (x ∷ []) approval h grown some = absurd grown.1
signatures_stay (a ∷ b ∷ []) (x ∷ y ∷ []) approval h grown some =
    rw (grown.0, grown.1.0) refl
signatures_stay (a ∷ b ∷ []) (x ∷ y ∷ z ∷ more) approval h grown some =
    absurd (none_some (state_of (x.meaning ∷ y.meaning ∷ z.meaning ∷ map meaning_of more) approval)
    (rw (grown.0, grown.1.0) (after_two a.meaning b.meaning z.meaning (map meaning_of more)
    approval h)) some)
signatures_stay (a ∷ b ∷ c ∷ []) [] approval h grown some = absurd grown
signatures_stay (a ∷ b ∷ c ∷ []) (x ∷ []) approval h grown some = absurd grown.1
signatures_stay (a ∷ b ∷ c ∷ []) (x ∷ y ∷ []) approval h grown some = absurd grown.1.1
signatures_stay (a ∷ b ∷ c ∷ []) (x ∷ y ∷ z ∷ []) approval h grown some =
    rw (grown.0, grown.1.0, grown.1.1.0) refl
signatures_stay (a ∷ b ∷ c ∷ []) (x ∷ y ∷ z ∷ w ∷ more) approval h grown some =
    absurd (none_some
    (state_of (x.meaning ∷ y.meaning ∷ z.meaning ∷ w.meaning ∷ map meaning_of more) approval)
    (rw (grown.0, grown.1.0, grown.1.1.0) (after_three a.meaning b.meaning c.meaning w.meaning
    (map meaning_of more) approval h)) some)
signatures_stay (a ∷ b ∷ c ∷ d ∷ more) new approval h grown some =
    absurd (four_release_none a.meaning b.meaning c.meaning d.meaning (map meaning_of more) approval
    h)

rows_stay : (signatures : List Signature) (old new : List EntryRow) (approval : Bool)
    → state_of (map meaning_of signatures) approval ≡ Some Released → KeepsRows signatures old new
    → new ≡ old
rows_stay [] old new approval h keeps = absurd (cc)
rows_stay (one ∷ others) old new approval h keeps = keeps

-- ---- versions, and records

version_stays : (one other : Record) (old new : Version) → other.form ≡ one.form
    → KeepsVersion old new → IsSignedDually other new → StaysReleased one old new
version_stays one other old new form keeps dual = λ released.
    let some : IsSome (state_of (meanings_of new) one.form.form.approval) =
    subst (λ (it : FormVersion). IsSome (state_of (meanings_of new) it.form.approval)) form
    dual.state in (
      rows_stay old.signatures old.rows new.rows one.form.form.approval released keeps.rows,
      signatures_stay old.signatures new.signatures one.form.form.approval released
          keeps.signatures some,
    )

versions_stay : (one other : Record) (old new : List Version) → other.form ≡ one.form
    → Extends KeepsVersion old new → All (IsSignedDually other) new
    → Extends (StaysReleased one) old new
versions_stay one other [] new form keeps dual = tt
versions_stay one other (version ∷ versions) [] form keeps dual = absurd keeps
versions_stay one other (version ∷ versions) (now ∷ more) form keeps dual = (
  version_stays one other version now form keeps.0
      (All-head (IsSignedDually other) now more dual),
  versions_stay one other versions more form keeps.1
      (All-tail (IsSignedDually other) now more dual),
)

records_stay : (old new : List Record) → Extends KeepsRecord old new → All IsDualRecord new
    → Extends (λ one other. Extends (StaysReleased one) one.versions other.versions) old new
records_stay [] new keeps dual = tt
records_stay (one ∷ others) [] keeps dual = absurd keeps
records_stay (one ∷ others) (other ∷ more) keeps dual = (
  versions_stay one other one.versions other.versions keeps.0.form keeps.0.versions
      (All-head IsDualRecord other more dual).signed,
  records_stay others more keeps.1 (All-tail IsDualRecord other more dual),
)

-- ---- laboratories

stays : (before after : Option Lab) → Follows Retains before after → WhereThere IsReleasing after
    → Follows KeepsReleased before after
stays None after retains is = tt
stays (Some one) None retains is = absurd retains
stays (Some one) (Some two) retains is =
    records_stay one.records two.records retains.records is.dual

pub released_stay : (old new : World) → RetainedFrom old new → AreReleasing new
    → ReleasedFrom old new
released_stay old new retains is = λ live code.
    stays (old.meaning code) (new.meaning code) (retains live code) (is live code)
