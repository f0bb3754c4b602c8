-- The lines of versions, of records and of a whole copy show no flaw.
use Rattle.std.proofs.Common.{◌≡◌, ℕ, ◌+◌, ◌<◌, ◌≤◌, Bool, true, false, List, [], ◌∷◌, ◌++◌, length, Option, Some, None, refl, sym, ap, subst, ◌∙◌, append_assoc, append-nil, arith}
use Rattle.std.specs.Prelude.{◌==◌, ◌&&◌, cond, All, MatchOption, IsTrue, unwrap_or, nat_le, nat_lt, filter, if◌then◌else◌}
use Rattle.std.specs.List.{before_last, flat_map, filter_map}
use Rattle.std.proofs.lemmas.Bool.Decides.{Decides-ltb}
use Rattle.std.proofs.lemmas.List.Elements.{All-head, All-tail}
use Rattle.lab_seal_versions.specs.Origins.{first_number}
use Rattle.lab_seal.specs.Reading.{◌>>=◌}
use Rattle.lab_seal_versions.specs.States.{is_settled}
use Rattle.lab_seal_versions.specs.declared.states.State.{State}
use Rattle.lab_seal_versions.specs.declared.states.State.TheVariants.{Open}
use Rattle.lab_records_kept.specs.declared.records.Record.{Record as KeptRecord}
use Rattle.lab_records_kept.specs.declared.records.Version.{Version as KeptVersion}
use Rattle.lab_records_kept.specs.Bound.{IsSealed, IsChain, IsBoundRecord}
use Rattle.lab_records_kept.specs.Digests.{digest_of, previous_of}
use Rattle.lab_records_kept.specs.Dual.{IsSignedDually, IsSettled, AreSettledButLast, IsDualRecord}
use Rattle.lab_records_kept.specs.Limits.{AreNumberedAfter, IsOrderly}
use Rattle.lab_records_kept.specs.Lookups.{is_within, records_within}
use Rattle.lab_records_kept.specs.Values.{version_state}
use Rattle.lab_copy_rows.specs.Copies.{AreFlawless, may_follow, is_some_and, is_none_or, is_of_version, is_later_record, is_first_version, is_next_version, is_version_after, has_its_numbers, is_version, last_of, last_record, last_version, last_told, flaw_of_version, counts_of, are_same_counts, record_in, version_in, entry_in, signature_in, is_in_place, flaw_of_last_version, flaw_of_line}
use Rattle.lab_copy_rows.specs.declared.flaws.Flaw.TheVariants as flaw
use Rattle.lab_copy_rows.specs.declared.lines.CopyLine.{CopyLine}
use Rattle.lab_copy_rows.specs.declared.lines.Counts.{Counts}
use Rattle.lab_copy_rows.specs.declared.lines.EndLine.{EndLine}
use Rattle.lab_copy_rows.specs.declared.lines.Line.{Line}
use Rattle.lab_copy_rows.specs.declared.lines.Line.TheVariants.{Copy, Record, Version, Entry, Signature, End}
use Rattle.lab_copy_rows.specs.declared.lines.RecordLine.{RecordLine}
use Rattle.lab_copy_rows.specs.declared.lines.VersionLine.{VersionLine}
use Rattle.lab_records_copies.specs.CopyLines.{record_line, state_shown, version_line, end_line, version_lines, record_lines, body_lines}
use Rattle.lab_copy_rows.proofs.ListLemmas.{last_push, skip_push, never}
use Rattle.lab_records_copies.proofs.PlaceLemmas.{same_number, both, in_place, no_flaw, version_may}
use Rattle.lab_records_copies.proofs.SeenLemmas.{Seen, record_here}
use Rattle.lab_records_copies.proofs.VersionLemmas.{IsBehind, told_whole, version_good, last_good, flawless_append, version_flawless}

-- ---- a version behind another one

settled_shown : (state : Option State) → MatchOption state ⊥ (λ (one : State). IsTrue (is_settled one))
    → is_settled (unwrap_or state Open) ≡ true
settled_shown None is = absurd is
settled_shown (Some state) is = is

behind_version : (lines : List Line) (last : Line) (line : VersionLine) → is_of_version last ≡ true
    → is_version_after lines line (Some last) ≡ is_some_and (is_next_version line) (last_version lines)
behind_version lines (Version _) line of = refl
behind_version lines (Entry _) line of = refl
behind_version lines (Signature _) line of = refl
behind_version lines (Copy _) line of = never of
behind_version lines (Record _) line of = never of
behind_version lines (End _) line of = never of

-- lines that end in rows of a version of the record, without a flaw
pub record Ends (lines : List Line) (about : RecordLine) : Type 0 where
  pub last : Line
  pub last_is : last_of lines ≡ Some last
  pub of_version : is_of_version last ≡ true
  pub about_is : last_record lines ≡ Some about
  pub good : flaw_of_last_version lines ≡ None

module _ (copy : CopyLine) (lab : List ℕ) (kept : KeptRecord) (mine : lab ≡ copy.lab) where
  -- lines behind a version
  record After (rest : List Line) (version : KeptVersion) : Type 0 where
    previous : Option VersionLine
    seen : Seen (Copy copy ∷ rest) (told_whole copy lab kept version previous)
    good : flaw_of_last_version (Copy copy ∷ rest) ≡ None

  ended : (rest : List Line) (version : KeptVersion) → After rest version → Ends (Copy copy ∷ rest) (record_line lab kept)
  ended rest version after = record {
    last = after.seen.last;
    last_is = after.seen.last_is;
    of_version = after.seen.of_version;
    about_is = after.seen.about;
    good = after.good;
  }

  -- one more version, in its place
  version_behind : (rest : List Line) (version : KeptVersion) → IsSealed lab kept version → IsSignedDually kept version
      → last_record (Copy copy ∷ rest) ≡ Some (record_line lab kept)
      → IsBehind (previous_of version) (last_version (Copy copy ∷ rest))
      → flaw_of_line (Copy copy ∷ rest) (Version (version_line lab kept version)) ≡ None
      → AreFlawless (Copy copy ∷ rest) (version_lines lab kept version)
      × After (rest ++ version_lines lab kept version) version
  version_behind rest version sealed dual about behind own =
      let previous = last_version (Copy copy ∷ rest) in
      let lines = version_flawless copy lab kept version rest mine sealed about own in (
        lines.0,
        record {
          previous = previous;
          seen = lines.1;
          good =
              last_good (Copy copy ∷ rest ++ version_lines lab kept version) (told_whole copy lab kept version previous) lines.1
              (λ row. version_good copy lab kept version row previous behind dual);
        },
      )

  next_own : (rest : List Line) (version next : KeptVersion) → After rest version → IsSettled kept version
      → next.origin.number ≡ version.origin.number + 1
      → flaw_of_line (Copy copy ∷ rest) (Version (version_line lab kept next)) ≡ None
  next_own rest version next after settled number =
      let lines : List Line = Copy copy ∷ rest in
      let line = version_line lab kept next in
      let before = version_line lab kept version in
      let numbers : is_next_version line before ≡ true =
      (λ i. same_number kept.number i
      && (ap (λ n. n == version.origin.number + 1) number ∙ same_number (version.origin.number + 1)) i
      && settled_shown (version_state kept version) settled i) in
      let places : is_version_after lines line (last_of lines) ≡ true =
      ap (is_version_after lines line) after.seen.last_is
      ∙ behind_version lines after.seen.last line after.seen.of_version
      ∙ ap (is_some_and (is_next_version line)) after.seen.line
      ∙ numbers in
      no_flaw copy rest (Version line)
      (in_place copy rest after.seen.last (Version line) after.seen.last_is mine
      (version_may after.seen.last line after.seen.of_version) places)
      after.good

  versions_flawless : (rest : List Line) (version : KeptVersion) (others : List KeptVersion) → After rest version
      → AreSettledButLast kept (version ∷ others)
      → IsChain lab kept (Some (digest_of lab kept version)) others
      → AreNumberedAfter (λ (one : KeptVersion). one.origin.number) version.origin.number others
      → All (IsSealed lab kept) others → All (IsSignedDually kept) others
      → AreFlawless (Copy copy ∷ rest) (flat_map (version_lines lab kept) others)
      × Ends (Copy copy ∷ rest ++ flat_map (version_lines lab kept) others) (record_line lab kept)
  unfolding AreFlawless
  versions_flawless rest version [] after settled chain numbered sealed dual = (
    tt,
    subst (λ lines. Ends (Copy copy ∷ lines) (record_line lab kept)) (sym (append-nil rest)) (ended rest version after),
  )
  versions_flawless rest version (next ∷ others) after settled chain numbered sealed dual =
      let behind : IsBehind (previous_of next) (last_version (Copy copy ∷ rest)) =
      subst (λ digest. IsBehind digest (last_version (Copy copy ∷ rest))) (sym chain.0)
      (subst (λ line. IsBehind (Some (digest_of lab kept version)) line) (sym after.seen.line) refl) in
      let one =
      version_behind rest next (All-head (IsSealed lab kept) next others sealed)
      (All-head (IsSignedDually kept) next others dual) after.seen.about behind
      (next_own rest version next after settled.0 numbered.0) in
      let more =
      versions_flawless (rest ++ version_lines lab kept next) next others one.1 settled.1 chain.1
      (subst (λ n. AreNumberedAfter (λ (one : KeptVersion). one.origin.number) n others) (sym numbered.0) numbered.1)
      (All-tail (IsSealed lab kept) next others sealed) (All-tail (IsSignedDually kept) next others dual) in (
        flawless_append (Copy copy ∷ rest) (version_lines lab kept next) (flat_map (version_lines lab kept) others) one.0 more.0,
        subst (λ lines. Ends (Copy copy ∷ lines) (record_line lab kept))
            (append_assoc rest (version_lines lab kept next) (flat_map (version_lines lab kept) others)) more.1,
      )

  -- ---- a record behind others

  not_of_version : (rest : List Line) (line : RecordLine) → flaw_of_last_version (Copy copy ∷ rest ++ (Record line ∷ [])) ≡ None
  unfolding flaw_of_last_version
  not_of_version rest line =
      let lines : List Line = Copy copy ∷ rest ++ (Record line ∷ []) in
      let last : last_of lines ≡ Some (Record line) = last_push (Copy copy ∷ rest) (Record line) in
      let none : is_some_and is_of_version (last_of lines) ≡ false = ap (is_some_and is_of_version) last in
      (λ i. if none i then last_told lines >>= flaw_of_version (length (before_last is_version lines) + 2) else None)

  first_own : (rest : List Line) (version : KeptVersion) → version.origin.number ≡ first_number
      → flaw_of_line (Copy copy ∷ rest ++ (Record (record_line lab kept) ∷ [])) (Version (version_line lab kept version)) ≡ None
  first_own rest version number =
      let about = record_line lab kept in
      let lines : List Line = Copy copy ∷ rest ++ (Record about ∷ []) in
      let line = version_line lab kept version in
      let last : last_of lines ≡ Some (Record about) = last_push (Copy copy ∷ rest) (Record about) in
      let numbers : is_first_version line about ≡ true =
      (λ i. same_number kept.number i && (ap (λ n. n == first_number) number ∙ same_number first_number) i) in
      no_flaw copy (rest ++ (Record about ∷ [])) (Version line)
      (in_place copy (rest ++ (Record about ∷ [])) (Record about) (Version line) last mine refl
      (ap (is_version_after lines line) last ∙ numbers))
      (not_of_version rest about)

  all_versions : (rest : List Line) (versions : List KeptVersion) → 1 ≤ length versions
      → AreSettledButLast kept versions → IsChain lab kept None versions
      → AreNumberedAfter (λ (one : KeptVersion). one.origin.number) 0 versions
      → All (IsSealed lab kept) versions → All (IsSignedDually kept) versions
      → AreFlawless (Copy copy ∷ rest ++ (Record (record_line lab kept) ∷ [])) (flat_map (version_lines lab kept) versions)
      × Ends (Copy copy ∷ (rest ++ (Record (record_line lab kept) ∷ [])) ++ flat_map (version_lines lab kept) versions) (record_line lab kept)
  all_versions rest [] some settled chain numbered sealed dual = absurd (omega (arith, some))
  all_versions rest (version ∷ others) some settled chain numbered sealed dual =
      let behind_record = rest ++ (Record (record_line lab kept) ∷ []) in
      let one =
      version_behind behind_record version (All-head (IsSealed lab kept) version others sealed)
      (All-head (IsSignedDually kept) version others dual) (record_here (Copy copy ∷ rest) (record_line lab kept))
      (subst (λ digest. IsBehind digest (last_version (Copy copy ∷ behind_record))) (sym chain.0) tt)
      (first_own rest version numbered.0) in
      let more =
      versions_flawless (behind_record ++ version_lines lab kept version) version others one.1 settled chain.1
      (subst (λ n. AreNumberedAfter (λ (one : KeptVersion). one.origin.number) n others) (sym numbered.0) numbered.1)
      (All-tail (IsSealed lab kept) version others sealed) (All-tail (IsSignedDually kept) version others dual) in (
        flawless_append (Copy copy ∷ behind_record) (version_lines lab kept version) (flat_map (version_lines lab kept) others)
            one.0 more.0,
        subst (λ lines. Ends (Copy copy ∷ lines) (record_line lab kept))
            (append_assoc behind_record (version_lines lab kept version) (flat_map (version_lines lab kept) others)) more.1,
      )

  pub record_flawless : (rest : List Line) → IsBoundRecord lab kept → IsDualRecord kept → IsOrderly kept
      → flaw_of_line (Copy copy ∷ rest) (Record (record_line lab kept)) ≡ None
      → AreFlawless (Copy copy ∷ rest) (record_lines lab kept)
      × Ends (Copy copy ∷ rest ++ record_lines lab kept) (record_line lab kept)
  unfolding AreFlawless
  record_flawless rest bound dual orderly own =
      let versions =
      all_versions rest kept.versions orderly.some dual.settled bound.chain orderly.numbered bound.signatures dual.signed in (
        (own, versions.0),
        subst (λ lines. Ends (Copy copy ∷ lines) (record_line lab kept))
            (append_assoc rest (Record (record_line lab kept) ∷ []) (flat_map (version_lines lab kept) kept.versions)) versions.1,
      )
