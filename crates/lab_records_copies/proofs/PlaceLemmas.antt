-- Lines of a version, of a record and of a copy in their places, without a flaw.
use Rattle.std.proofs.Common.{◌≡◌, ℕ, ◌+◌, Bool, true, false, List, [], ◌∷◌, ◌++◌, length, Option, Some, None, refl, sym, ap, ◌∙◌}
use Rattle.std.specs.Prelude.{◌==◌, ◌&&◌, not, if◌then◌else◌, bytes_eq}
use Rattle.std.proofs.lemmas.Bool.Decides.{Decides-eqb}
use Rattle.std.proofs.lemmas.Slice.Eq.{bytes_eq-Decides}
use Rattle.lab_seal_versions.specs.Seals.{seal_of}
use Rattle.lab_copy_rows.specs.Copies.{Told, lab_of, may_follow, has_its_numbers, is_in_place, is_some_and, is_of_version, is_version_numbered, last_of, last_version, flaw_of_signature, flaw_shown, flaw_of_line}
use Rattle.lab_copy_rows.specs.declared.flaws.Flaw.{Flaw}
use Rattle.lab_copy_rows.specs.declared.flaws.Flaw.TheVariants as flaw
use Rattle.lab_copy_rows.specs.declared.lines.CopyLine.{CopyLine}
use Rattle.lab_copy_rows.specs.declared.lines.EntryLine.{EntryLine}
use Rattle.lab_copy_rows.specs.declared.lines.Line.{Line}
use Rattle.lab_copy_rows.specs.declared.lines.Line.TheVariants.{Copy, Record, Version, Entry, Signature, End}
use Rattle.lab_copy_rows.specs.declared.lines.SignatureLine.{SignatureLine}
use Rattle.lab_copy_rows.specs.declared.lines.VersionLine.{VersionLine}
use Rattle.lab_copy_rows.proofs.ListLemmas.{never}
use Rattle.lab_records_copies.proofs.SeenLemmas.{Seen}

pub same_bytes : (bytes : List ℕ) → bytes_eq bytes bytes ≡ true
same_bytes bytes = (bytes_eq-Decides bytes bytes).1 refl

pub same_number : (n : ℕ) → (n == n) ≡ true
same_number n = (Decides-eqb n n).1 refl

pub both : (a b : Bool) → a ≡ true → b ≡ true → (a && b) ≡ true
both a b is and = (λ i. is i && and i)

-- ---- which lines may stand behind a version's rows

pub signature_may : (last : Line) (line : SignatureLine) → is_of_version last ≡ true → may_follow last (Signature line) ≡ true
signature_may (Copy _) line of = never of
signature_may (Record _) line of = never of
signature_may (Version _) line of = refl
signature_may (Entry _) line of = refl
signature_may (Signature _) line of = refl
signature_may (End _) line of = never of

pub version_may : (last : Line) (line : VersionLine) → is_of_version last ≡ true → may_follow last (Version line) ≡ true
version_may (Copy _) line of = never of
version_may (Record _) line of = never of
version_may (Version _) line of = refl
version_may (Entry _) line of = refl
version_may (Signature _) line of = refl
version_may (End _) line of = never of

-- ---- a line in its place, and what it shows there

module _ (copy : CopyLine) (rest : List Line) where
  abbrev lines : List Line
  lines = Copy copy ∷ rest

  pub in_place : (last line : Line) → last_of lines ≡ Some last → lab_of line ≡ copy.lab
      → may_follow last line ≡ true → has_its_numbers copy lines line ≡ true → is_in_place lines line ≡ true
  unfolding is_in_place
  in_place last line last_is mine may numbers =
      let same : bytes_eq (lab_of line) copy.lab ≡ true = ap (λ lab. bytes_eq lab copy.lab) mine ∙ same_bytes copy.lab in
      let follows : is_some_and (λ one. may_follow one line) (last_of lines) ≡ true =
      ap (is_some_and (λ one. may_follow one line)) last_is ∙ may in
      (λ i. same i && follows i && numbers i)

  pub no_flaw : (line : Line) → is_in_place lines line ≡ true → flaw_shown lines line ≡ None → flaw_of_line lines line ≡ None
  unfolding flaw_of_line
  no_flaw line is shown = (λ i. if is i then shown i else Some (flaw.Order (length lines + 2)))

  -- the numbers of a version's entry or signature
  numbered : (told : Told) (record_number number : ℕ) → Seen lines told
      → record_number ≡ told.line.record_number → number ≡ told.line.number
      → is_some_and (is_version_numbered record_number number) (last_version lines) ≡ true
  numbered told record_number number seen same_record same_version =
      ap (is_some_and (is_version_numbered record_number number)) seen.line
      ∙ (λ i. (same_record i == told.line.record_number) && (same_version i == told.line.number))
      ∙ both (told.line.record_number == told.line.record_number) (told.line.number == told.line.number)
      (same_number told.line.record_number) (same_number told.line.number)

  pub entry_flawless : (told : Told) (line : EntryLine) → (seen : Seen lines told) → line.lab ≡ copy.lab
      → may_follow seen.last (Entry line) ≡ true
      → line.record_number ≡ told.line.record_number → line.version ≡ told.line.number
      → flaw_of_line lines (Entry line) ≡ None
  entry_flawless told line seen mine may same_record same_version =
      no_flaw (Entry line)
      (in_place seen.last (Entry line) seen.last_is mine may (numbered told line.record_number line.version seen same_record same_version))
      refl

  signature_bound : (told : Told) (line : SignatureLine) → Seen lines told
      → told.line.digest ≡ line.parts.version → seal_of line.parts ≡ line.seal → flaw_of_signature lines line ≡ None
  unfolding flaw_of_signature
  signature_bound told line seen digest seal =
      let named : is_some_and (λ (version : VersionLine). bytes_eq version.digest line.parts.version) (last_version lines) ≡ true =
      ap (is_some_and (λ (version : VersionLine). bytes_eq version.digest line.parts.version)) seen.line
      ∙ ap (λ one. bytes_eq one line.parts.version) digest
      ∙ same_bytes line.parts.version in
      let sealed : bytes_eq (seal_of line.parts) line.seal ≡ true = ap (λ one. bytes_eq one line.seal) seal ∙ same_bytes line.seal in
      (λ i. if not (named i) then Some (flaw.Digest (length lines + 2))
      else if not (sealed i) then Some (flaw.Seal (length lines + 2)) else None)

  pub signature_flawless : (told : Told) (line : SignatureLine) → Seen lines told → line.parts.lab ≡ copy.lab
      → line.record_number ≡ told.line.record_number → line.version ≡ told.line.number
      → told.line.digest ≡ line.parts.version → seal_of line.parts ≡ line.seal
      → flaw_of_line lines (Signature line) ≡ None
  signature_flawless told line seen mine same_record same_version digest seal =
      no_flaw (Signature line)
      (in_place seen.last (Signature line) seen.last_is mine (signature_may seen.last line seen.of_version)
      (numbered told line.record_number line.version seen same_record same_version))
      (signature_bound told line seen digest seal)
