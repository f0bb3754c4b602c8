-- A laboratory within its limits and under dual control has few enough rows to be counted: at most
-- 1,000,000 records of 99 versions, of 200 entries and three signatures each.
use Rattle.std.proofs.Common.{◌≡◌, ◌*◌, ◌≤◌, ℕ, Bool, true, false, List, [], ◌∷◌, length, map, Option, None, refl, subst, arith, length-append}
use Rattle.std.specs.Prelude.{All, IsSome}
use Rattle.std.specs.List.{flat_map}
use Rattle.std.proofs.lemmas.Bool.{false≢true}
use Rattle.std.proofs.lemmas.List.{length-map}
use Rattle.std.proofs.lemmas.List.Elements.{All-head, All-tail}
use Rattle.lab_seal_versions.specs.declared.rows.EntryRow.{EntryRow}
use Rattle.lab_seal_versions.specs.declared.seals.Meaning.{Meaning}
use Rattle.lab_seal_versions.specs.declared.seals.Meaning.TheVariants.{Authorship, Review, Rejection, Approval}
use Rattle.lab_seal_versions.specs.declared.states.State.{State}
use Rattle.lab_seal_versions.specs.States.{state_of}
use Rattle.lab_records_kept.specs.declared.records.Record.{Record as KeptRecord}
use Rattle.lab_records_kept.specs.declared.records.Version.{Version}
use Rattle.lab_records_kept.specs.declared.records.Signature.{Signature}
use Rattle.lab_records_kept.specs.Dual.{IsDualRecord, IsSignedDually}
use Rattle.lab_records_kept.specs.Limits.{HasFewRows, IsOrderly}
use Rattle.lab_records_kept.specs.Values.{meaning_of, meanings_of}
use Rattle.lab_copy_rows.specs.declared.lines.Line.{Line}
use Rattle.lab_copy_rows.specs.declared.lines.Line.TheVariants as line
use Rattle.lab_records_copies.specs.CopyLines.{body_lines, entry_line, record_lines, signature_line, version_lines}
use Rattle.lab_records_copy_out.specs.CopyTexts.{AllCanBeWalked}

-- ---- signatures

no_fourth : (first second third fourth : Meaning) (more : List Meaning) (approval : Bool) →
    state_of (first ∷ second ∷ third ∷ fourth ∷ more) approval ≡ None
no_fourth Authorship Review Approval fourth more true = refl
no_fourth Authorship Review Approval fourth more false = refl
no_fourth Authorship Review Authorship fourth more approval = refl
no_fourth Authorship Review Review fourth more approval = refl
no_fourth Authorship Review (Rejection reason) fourth more true = refl
no_fourth Authorship Review (Rejection reason) fourth more false = refl
no_fourth Authorship Authorship third fourth more approval = refl
no_fourth Authorship (Rejection reason) third fourth more approval = refl
no_fourth Authorship Approval third fourth more approval = refl
no_fourth Review second third fourth more approval = refl
no_fourth (Rejection reason) second third fourth more approval = refl
no_fourth Approval second third fourth more approval = refl

few_meanings : (meanings : List Meaning) (approval : Bool) →
    IsSome (state_of meanings approval) → length meanings ≤ 3
few_meanings [] approval some = omega arith
few_meanings (a ∷ []) approval some = omega arith
few_meanings (a ∷ b ∷ []) approval some = omega arith
few_meanings (a ∷ b ∷ c ∷ []) approval some = omega arith
few_meanings (a ∷ b ∷ c ∷ d ∷ more) approval some =
    absurd (false≢true (subst (λ (state : Option State). IsSome state)
    (no_fourth a b c d more approval) some))

few_signatures : (kept : KeptRecord) (version : Version) → IsSignedDually kept version →
    length version.signatures ≤ 3
few_signatures kept version dual =
    omega (
      arith,
      few_meanings (meanings_of version) kept.form.form.approval dual.state,
      length-map version.signatures meaning_of,
    )

-- ---- the lines of a version, of a record, and of all records

few_of_version : (lab : List ℕ) (kept : KeptRecord) (version : Version) → HasFewRows version →
    IsSignedDually kept version → length (version_lines lab kept version) ≤ 204
few_of_version lab kept version rows dual =
    let entry : EntryRow → Line = λ row. line.Entry (entry_line lab kept version row) in
    let signed : Signature → Line =
    λ signature. line.Signature (signature_line lab kept version signature) in
    omega (
      arith,
      rows,
      few_signatures kept version dual,
      length-append (map entry version.rows) (map signed version.signatures),
      length-map version.rows entry,
      length-map version.signatures signed,
    )

few_of_versions : (lab : List ℕ) (kept : KeptRecord) (versions : List Version) →
    All HasFewRows versions → All (IsSignedDually kept) versions →
    length (flat_map (version_lines lab kept) versions) ≤ length versions * 204
few_of_versions lab kept [] rows dual = omega arith
few_of_versions lab kept (version ∷ others) rows dual =
    omega (
      arith,
      length-append (version_lines lab kept version) (flat_map (version_lines lab kept) others),
      few_of_version lab kept version (All-head HasFewRows version others rows)
          (All-head (IsSignedDually kept) version others dual),
      few_of_versions lab kept others (All-tail HasFewRows version others rows)
          (All-tail (IsSignedDually kept) version others dual),
    )

few_of_record : (lab : List ℕ) (kept : KeptRecord) → IsOrderly kept → IsDualRecord kept →
    length (record_lines lab kept) ≤ 20197
few_of_record lab kept orderly dual =
    omega (arith, orderly.few, few_of_versions lab kept kept.versions orderly.rows dual.signed)

pub few_of_records : (lab : List ℕ) (records : List KeptRecord) → All IsOrderly records →
    All IsDualRecord records → length (body_lines lab records) ≤ length records * 20197
few_of_records lab [] orderly dual = omega arith
few_of_records lab (kept ∷ others) orderly dual =
    omega (
      arith,
      length-append (record_lines lab kept) (body_lines lab others),
      few_of_record lab kept (All-head IsOrderly kept others orderly)
          (All-head IsDualRecord kept others dual),
      few_of_records lab others (All-tail IsOrderly kept others orderly)
          (All-tail IsDualRecord kept others dual),
    )

pub all_can_be_walked : AllCanBeWalked
all_can_be_walked lab within dual = record {
  numbered = within.records_numbered;
  few = omega (arith, within.records, few_of_records lab.code lab.records within.orderly dual);
}
