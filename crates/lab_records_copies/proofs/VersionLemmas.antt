-- The lines of a version that is bound and under dual control show no flaw, nor does the version that they tell of.
use Rattle.std.proofs.Common.{◌≡◌, ℕ, ◌+◌, Bool, true, false, List, [], ◌∷◌, ◌++◌, length, map, Option, Some, None, refl, sym, ap, subst, ◌∙◌, append_assoc, append-nil}
use Rattle.std.specs.Prelude.{◌&&◌, not, if◌then◌else◌, bytes_eq, All, IsSome, MatchOption, option_map, unwrap_or}
use Rattle.std.specs.List.{list_any, before_last}
use Rattle.std.proofs.lemmas.List.Elements.{All-head, All-tail}
use Rattle.sha2.specs.Sha256.{sha256}
use Rattle.lab_seal.specs.Reading.{◌>>=◌}
use Rattle.lab_seal_versions.specs.Versions.{version_text}
use Rattle.lab_seal_versions.specs.declared.origins.Amendment.{Amendment}
use Rattle.lab_seal_versions.specs.declared.rows.EntryRow.{EntryRow}
use Rattle.lab_seal_versions.specs.declared.versions.Format.{Format}
use Rattle.lab_seal_versions.specs.declared.versions.Format.TheVariants as format
use Rattle.lab_seal_versions.specs.States.{state_of, state_word}
use Rattle.lab_seal_versions.specs.declared.states.State.{State}
use Rattle.lab_seal_versions.specs.declared.states.State.TheVariants.{Open}
use Rattle.lab_records_kept.specs.declared.records.Record.{Record as KeptRecord}
use Rattle.lab_records_kept.specs.declared.records.Version.{Version as KeptVersion}
use Rattle.lab_records_kept.specs.declared.records.Signature.{Signature as KeptSignature}
use Rattle.lab_records_kept.specs.Bound.{IsBoundTo, IsSealed}
use Rattle.lab_records_kept.specs.Digests.{digest_of, previous_of, parts_of}
use Rattle.lab_records_kept.specs.Dual.{SaysOfApproval, IsSignedDually}
use Rattle.lab_records_kept.specs.Values.{version_state, meaning_of}
use Rattle.lab_copy_rows.specs.Copies.{Told, AreFlawless, may_follow, is_some_and, is_of_version, is_version, is_state, wants_approval, last_of, last_record, last_version, last_told, is_in_place, amendment_told, parts_told, are_different_persons, has_its_digest, has_signatures_of_state, has_different_persons, flaw_of_version, flaw_of_last_version, flaw_of_line}
use Rattle.lab_copy_rows.specs.declared.flaws.Flaw.{Flaw}
use Rattle.lab_copy_rows.specs.declared.flaws.Flaw.TheVariants as flaw
use Rattle.lab_copy_rows.specs.declared.lines.CopyLine.{CopyLine}
use Rattle.lab_copy_rows.specs.declared.lines.EntryLine.{EntryLine}
use Rattle.lab_copy_rows.specs.declared.lines.Line.{Line}
use Rattle.lab_copy_rows.specs.declared.lines.Line.TheVariants.{Copy, Record, Version, Entry, Signature, End}
use Rattle.lab_copy_rows.specs.declared.lines.SignatureLine.{SignatureLine}
use Rattle.lab_copy_rows.specs.declared.lines.VersionLine.{VersionLine}
use Rattle.lab_records_copies.specs.CopyLines.{record_line, state_shown, reason_of, version_line, entry_line, signature_line, version_lines}
use Rattle.lab_records_copies.proofs.SeenLemmas.{Seen, seen_told, version_seen, entry_seen, signature_seen}
use Rattle.lab_records_copies.proofs.PlaceLemmas.{same_bytes, both, no_flaw, entry_flawless, signature_flawless}
use Rattle.lab_copy_rows.proofs.ListLemmas.{never}
use Rattle.lab_records_copies.proofs.RowLemmas.{map_of_map}
use Rattle.lab_records_copies.proofs.SignerLemmas.{persons_differ}

-- ---- what a version amends

-- the version before has the digest, where there is one
abbrev pub IsBehind : Option (List ℕ) → Option VersionLine → Type 0
IsBehind None previous = Unit {0}
IsBehind (Some digest) previous = MatchOption previous ⊥ (λ (line : VersionLine). line.digest ≡ digest)

amended : (amendment : Amendment) (previous : Option VersionLine) → IsBehind (Some amendment.previous) previous
    → amendment_told (Some amendment.reason) previous ≡ Some amendment
amended amendment None behind = absurd behind
amended amendment (Some line) behind =
    ap (λ digest. Some (the_amendment digest)) behind
  where
    the_amendment : List ℕ → Amendment
    the_amendment digest = record { previous = digest; reason = amendment.reason }

amendment_is : (amendment : Option Amendment) (before : Option (List ℕ)) (previous : Option VersionLine)
    → option_map (λ (one : Amendment). one.previous) amendment ≡ before → IsBehind before previous
    → amendment_told (option_map (λ (one : Amendment). one.reason) amendment) previous ≡ amendment
amendment_is None before previous is behind = refl
amendment_is (Some amendment) before previous is behind =
    amended amendment previous (subst (λ digest. IsBehind digest previous) (sym is) behind)

-- ---- the state

said : (format : Format) (approval : Bool) → SaysOfApproval format approval → wants_approval format ≡ approval
said format.One approval says = sym says
said (format.Two told) approval says = says

shown : (state : Option State) → IsSome state → is_some_and (is_state (unwrap_or state Open)) state ≡ true
shown None some = never some
shown (Some state) some = same_bytes (state_word state)

module _ (copy : CopyLine) (lab : List ℕ) (kept : KeptRecord) (version : KeptVersion) where
  abbrev entry : EntryRow → Line
  entry row = Entry (entry_line lab kept version row)

  abbrev signed : KeptSignature → SignatureLine
  signed signature = signature_line lab kept version signature

  abbrev signature : KeptSignature → Line
  signature one = Signature (signed one)

  -- what is told of the version where these of its rows came
  abbrev pub told_with : Option VersionLine → List EntryRow → List SignatureLine → Told
  told_with previous entries signatures = record {
    about = record_line lab kept;
    line = version_line lab kept version;
    previous = previous;
    entries = entries;
    signatures = signatures;
  }

  abbrev pub told_whole : Option VersionLine → Told
  told_whole previous = told_with previous version.rows (map signed version.signatures)

  -- ---- the version that is told is flawless

  digest_good : (previous : Option VersionLine) → IsBehind (previous_of version) previous
      → has_its_digest (told_whole previous) ≡ true
  digest_good previous behind =
      let amends : amendment_told (reason_of version) previous ≡ version.origin.amendment =
      amendment_is version.origin.amendment (previous_of version) previous refl behind in
      ap (λ (amendment : Option Amendment). bytes_eq (sha256 (version_text (record (parts_of lab kept version) {
        origin = record { number = version.origin.number; amendment = amendment };
      }))) (digest_of lab kept version)) amends
      ∙ same_bytes (digest_of lab kept version)

  state_good : (previous : Option VersionLine) → IsSignedDually kept version
      → has_signatures_of_state (told_whole previous) ≡ true
  state_good previous dual =
      let meanings : map (λ (one : SignatureLine). one.parts.meaning) (map signed version.signatures) ≡ map meaning_of version.signatures =
      map_of_map (λ (one : SignatureLine). one.parts.meaning) signed version.signatures in
      (λ i. is_some_and (is_state (state_shown kept version)) (state_of (meanings i) (said version.format kept.form.form.approval dual.format i)))
      ∙ shown (version_state kept version) dual.state

  persons_good : (previous : Option VersionLine) → IsSignedDually kept version
      → has_different_persons (told_whole previous) ≡ true
  persons_good previous dual =
      ap (are_different_persons (map (λ (row : EntryRow). row.person) version.rows))
      (map_of_map (λ (one : SignatureLine). one.parts.person) signed version.signatures)
      ∙ persons_differ version version.signatures dual.signers

  pub version_good : (row : ℕ) (previous : Option VersionLine) → IsBehind (previous_of version) previous
      → IsSignedDually kept version → flaw_of_version row (told_whole previous) ≡ None
  version_good row previous behind dual =
      let digest = digest_good previous behind in
      let signatures = both _ _ (state_good previous dual) (persons_good previous dual) in
      (λ i. if not (digest i) then Some (flaw.Digest row) else if not (signatures i) then Some (flaw.OnePerson row) else None)

  -- ---- entries, then signatures

  module _ (mine : lab ≡ copy.lab) where
    pub entries_flawless : (rest : List Line) (previous : Option VersionLine) (before rows : List EntryRow)
        → (seen : Seen (Copy copy ∷ rest) (told_with previous before []))
        → ((line : EntryLine) → may_follow seen.last (Entry line) ≡ true)
        → AreFlawless (Copy copy ∷ rest) (map entry rows)
        × Seen (Copy copy ∷ rest ++ map entry rows) (told_with previous (before ++ rows) [])
    unfolding AreFlawless
    entries_flawless rest previous before [] seen may = (
      tt,
      subst (λ lines. Seen (Copy copy ∷ lines) (told_with previous (before ++ []) [])) (sym (append-nil rest))
          (subst (λ rows. Seen (Copy copy ∷ rest) (told_with previous rows [])) (sym (append-nil before)) seen),
    )
    entries_flawless rest previous before (row ∷ rows) seen may =
        let line = entry_line lab kept version row in
        let one = entry_flawless copy rest (told_with previous before []) line seen mine (may line) refl refl in
        let more =
        entries_flawless (rest ++ (Entry line ∷ [])) previous (before ++ (row ∷ [])) rows
        (entry_seen (Copy copy ∷ rest) (told_with previous before []) line seen) (λ next. refl) in (
          (one, more.0),
          subst (λ lines. Seen (Copy copy ∷ lines) (told_with previous (before ++ (row ∷ rows)) []))
              (append_assoc rest (Entry line ∷ []) (map entry rows))
              (subst (λ all. Seen (Copy copy ∷ (rest ++ (Entry line ∷ [])) ++ map entry rows) (told_with previous all []))
              (append_assoc before (row ∷ []) rows) more.1),
        )

    pub signatures_flawless : (rest : List Line) (previous : Option VersionLine) (before : List SignatureLine)
        (signatures : List KeptSignature)
        → Seen (Copy copy ∷ rest) (told_with previous version.rows before)
        → All (IsBoundTo lab kept version) signatures
        → AreFlawless (Copy copy ∷ rest) (map signature signatures)
        × Seen (Copy copy ∷ rest ++ map signature signatures) (told_with previous version.rows (before ++ map signed signatures))
    unfolding AreFlawless
    signatures_flawless rest previous before [] seen bound = (
      tt,
      subst (λ lines. Seen (Copy copy ∷ lines) (told_with previous version.rows (before ++ []))) (sym (append-nil rest))
          (subst (λ all. Seen (Copy copy ∷ rest) (told_with previous version.rows all)) (sym (append-nil before)) seen),
    )
    signatures_flawless rest previous before (first ∷ others) seen bound =
        let is_bound = All-head (IsBoundTo lab kept version) first others bound in
        let line = signed first in
        let one =
        signature_flawless copy rest (told_with previous version.rows before) line seen mine refl refl (sym is_bound.digest)
        (sym is_bound.seal) in
        let more =
        signatures_flawless (rest ++ (Signature line ∷ [])) previous (before ++ (line ∷ [])) others
        (signature_seen (Copy copy ∷ rest) (told_with previous version.rows before) line seen)
        (All-tail (IsBoundTo lab kept version) first others bound) in (
          (one, more.0),
          subst (λ lines. Seen (Copy copy ∷ lines) (told_with previous version.rows (before ++ (line ∷ map signed others))))
              (append_assoc rest (Signature line ∷ []) (map signature others))
              (subst (λ all. Seen (Copy copy ∷ (rest ++ (Signature line ∷ [])) ++ map signature others) (told_with previous version.rows all))
              (append_assoc before (line ∷ []) (map signed others)) more.1),
        )

-- ---- what stands last in lines is flawless

pub last_good : (lines : List Line) (told : Told) → Seen lines told
    → ((row : ℕ) → flaw_of_version row told ≡ None) → flaw_of_last_version lines ≡ None
unfolding flaw_of_last_version
last_good lines told seen good =
    let row = length (before_last is_version lines) + 2 in
    let ends : is_some_and is_of_version (last_of lines) ≡ true = ap (is_some_and is_of_version) seen.last_is ∙ seen.of_version in
    (λ i. if ends i then seen_told lines told seen i >>= flaw_of_version row else None) ∙ good row

-- ---- lines behind lines

pub flawless_append : (before one other : List Line) → AreFlawless before one → AreFlawless (before ++ one) other
    → AreFlawless before (one ++ other)
unfolding AreFlawless
flawless_append before [] other first second = subst (λ lines. AreFlawless lines other) (append-nil before) second
flawless_append before (line ∷ lines) other first second = (
  first.0,
  flawless_append (before ++ (line ∷ [])) lines other first.1
      (subst (λ all. AreFlawless all other) (sym (append_assoc before (line ∷ []) lines)) second),
)

-- ---- the lines of a version

pub version_flawless : (copy : CopyLine) (lab : List ℕ) (kept : KeptRecord) (version : KeptVersion) (rest : List Line)
    → lab ≡ copy.lab → IsSealed lab kept version
    → last_record (Copy copy ∷ rest) ≡ Some (record_line lab kept)
    → flaw_of_line (Copy copy ∷ rest) (Version (version_line lab kept version)) ≡ None
    → AreFlawless (Copy copy ∷ rest) (version_lines lab kept version)
    × Seen (Copy copy ∷ rest ++ version_lines lab kept version)
    (told_whole copy lab kept version (last_version (Copy copy ∷ rest)))
unfolding AreFlawless
version_flawless copy lab kept version rest mine sealed about own =
    let line = version_line lab kept version in
    let previous = last_version (Copy copy ∷ rest) in
    let entries = map (entry copy lab kept version) version.rows in
    let signatures = map (signature copy lab kept version) version.signatures in
    let first = version_seen (Copy copy ∷ rest) (record_line lab kept) line about in
    let entered =
    entries_flawless copy lab kept version mine (rest ++ (Version line ∷ [])) previous [] version.rows first (λ next. refl) in
    let ended =
    signatures_flawless copy lab kept version mine ((rest ++ (Version line ∷ [])) ++ entries) previous [] version.signatures
    entered.1 sealed in
    let both_parts =
    flawless_append (Copy copy ∷ rest ++ (Version line ∷ [])) entries signatures entered.0 ended.0 in (
      (own, both_parts),
      subst (λ lines. Seen (Copy copy ∷ lines) (told_whole copy lab kept version previous))
          (append_assoc (rest ++ (Version line ∷ [])) entries signatures ∙ append_assoc rest (Version line ∷ []) (entries ++ signatures))
          ended.1,
    )
