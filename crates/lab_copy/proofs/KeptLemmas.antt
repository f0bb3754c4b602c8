-- What is kept of lines tells what the lines tell.
use Rattle.std.proofs.Common.{◌≡◌, ◌⊎◌, inl, inr, ℕ, ◌+◌, ◌^◌, ◌<◌, ◌≤◌, Bool, true, false, not, ◌&&◌, if◌then◌else◌, List, [], ◌∷◌, ◌++◌, length, Option, Some, None, option_map, Result, Ok, Err, refl, sym, ap, subst, ◌∙◌, arith}
use Rattle.std.specs.Prelude.{◌==◌, unwrap_or, is_some, IfErr, IsTrue, OnOk}
use Rattle.std.specs.List.{before_last, after_last, cons_option, filter_map}
use Rattle.std.specs.Option.{option_or}
use Rattle.std.specs.Str.{bytes_eq}
use Rattle.std.proofs.lemmas.Bool.{eqb-true}
use Rattle.std.proofs.lemmas.List.{length_push, map-append}
use Rattle.lab_seal_versions.specs.Origins.{first_number, AmendsUnlessFirst}
use Rattle.lab_seal.specs.Reading.{◌>>=◌}
use Rattle.lab_seal_versions.specs.declared.rows.EntryRow.{EntryRow}
use Rattle.lab_seal_versions.specs.Seals.{seal_of}
use Rattle.lab_copy_rows.specs.Copies.{Told, lab_of, may_follow, is_first_version, is_next_version, is_version_after, is_version_numbered, has_its_numbers, is_in_place, is_some_and, is_of_version, is_version, is_end, last_of, record_in, version_in, entry_in, signature_in, last_record, last_version, last_told, counts_of, amendment_told, parts_told, flaw_of_version, flaw_of_last_version, flaw_of_signature, flaw_shown, flaw_of_line, flaw_at_end, verdict_or, edition_of}
use Rattle.lab_copy_rows.specs.declared.flaws.Flaw.{Flaw}
use Rattle.lab_copy_rows.specs.declared.flaws.Flaw.TheVariants as flaw
use Rattle.lab_copy_rows.specs.declared.lines.CopyLine.{CopyLine}
use Rattle.lab_copy_rows.specs.declared.lines.Counts.{Counts}
use Rattle.lab_copy_rows.specs.declared.lines.EntryLine.{EntryLine}
use Rattle.lab_copy_rows.specs.declared.lines.Line.{Line}
use Rattle.lab_copy_rows.specs.declared.lines.Line.TheVariants.{Copy, Record, Version, Entry, Signature, End}
use Rattle.lab_copy_rows.specs.declared.lines.RecordLine.{RecordLine}
use Rattle.lab_copy_rows.specs.declared.lines.SignatureLine.{SignatureLine}
use Rattle.lab_copy_rows.specs.declared.lines.VersionLine.{VersionLine}
use Rattle.lab_copy.specs.Places.{count_of, counts_with}
use Rattle.lab_copy_lines.specs.Fields.{HasReasonUnlessFirst}
use Rattle.lab_copy_lines.specs.Lines.{IsReasoned}
use Rattle.lab_copy.specs.Current.{hand_of, amendment_by, amendment_behind, begun, with_entry, with_signature, has_numbers, flaw_of_current}
use Rattle.lab_copy_lines.specs.Kinds.{kind_of, may_come_after, is_end_kind}
use Rattle.lab_copy.specs.Private.Kept.{is_version_behind, has_kept_numbers, may_come, is_in_place_by, is_in_place_kept, flaw_of_signature_kept, flaw_kept, copy_with, about_with, version_with, kept_with, IsKeepFault, MayBegin, is_kept_made, is_text_made}
use Rattle.lab_copy.specs.Kept.{flaw_of_version_kept, verdict_kept, edition_by, first_copy, ends_in_version, hand_at, kept_none, kept_of, BeginsWithCopy, HasVersionRows, IsAt, IsTaken, MayRunOut}
use Rattle.lab_copy.proofs.KeptWords.{current_begun}
use Rattle.lab_copy.specs.declared.faults.CopyFault.{CopyFault}
use Rattle.lab_copy.specs.declared.faults.CopyFault.TheVariants.{Flawed, Read, Memory}
use Rattle.lab_copy.specs.declared.current.CurrentVersion.{CurrentVersion}
use Rattle.lab_copy.specs.declared.kept.Kept.{Kept}
use Rattle.lab_copy_rows.proofs.ListLemmas.{some_same, never, no_some, last_push, last_cons, keep_push, skip_push, last_map, before_here, after_here, before_past, after_past}

-- ---- kinds

pub follows : (last next : Line) → may_come_after (kind_of last) (kind_of next) ≡ may_follow last next
follows (Copy _) (Copy _) = refl
follows (Copy _) (Record _) = refl
follows (Copy _) (Version _) = refl
follows (Copy _) (Entry _) = refl
follows (Copy _) (Signature _) = refl
follows (Copy _) (End _) = refl
follows (Record _) (Copy _) = refl
follows (Record _) (Record _) = refl
follows (Record _) (Version _) = refl
follows (Record _) (Entry _) = refl
follows (Record _) (Signature _) = refl
follows (Record _) (End _) = refl
follows (Version _) (Copy _) = refl
follows (Version _) (Record _) = refl
follows (Version _) (Version _) = refl
follows (Version _) (Entry _) = refl
follows (Version _) (Signature _) = refl
follows (Version _) (End _) = refl
follows (Entry _) (Copy _) = refl
follows (Entry _) (Record _) = refl
follows (Entry _) (Version _) = refl
follows (Entry _) (Entry _) = refl
follows (Entry _) (Signature _) = refl
follows (Entry _) (End _) = refl
follows (Signature _) (Copy _) = refl
follows (Signature _) (Record _) = refl
follows (Signature _) (Version _) = refl
follows (Signature _) (Entry _) = refl
follows (Signature _) (Signature _) = refl
follows (Signature _) (End _) = refl
follows (End _) (Copy _) = refl
follows (End _) (Record _) = refl
follows (End _) (Version _) = refl
follows (End _) (Entry _) = refl
follows (End _) (Signature _) = refl
follows (End _) (End _) = refl

may_by : (last : Option Line) (line : Line)
    → may_come (option_map kind_of last) line ≡ is_some_and (λ one. may_follow one line) last
may_by None line = refl
may_by (Some last) line = follows last line

-- ---- small facts on truth

and_left : (a b : Bool) → (a && b) ≡ true → a ≡ true
and_left true b h = refl
and_left false b h = h

and_right : (a b : Bool) → (a && b) ≡ true → b ≡ true
and_right true b h = h
and_right false b h = never h

and_when : (a b c d : Bool) → a ≡ b → (b ≡ true → c ≡ d) → (a && c) ≡ (b && d)
and_when a true c d same more = rw same (more refl)
and_when a false c d same more = rw same refl

-- ---- the version that a copy tells of last

abbrev told_by : Option RecordLine → Option VersionLine → Option VersionLine → List EntryRow → List SignatureLine → Option Told
told_by about line previous entries signatures = do
  about ← about
  line ← line
  Some (record { about = about; line = line; previous = previous; entries = entries; signatures = signatures })

told_is : (lines : List Line) → last_told lines
    ≡ told_by (last_record lines) (last_version lines) (last_version (before_last is_version lines))
    (filter_map entry_in (after_last is_version lines)) (filter_map signature_in (after_last is_version lines))
unfolding last_told
told_is lines = refl

-- its parts
record ToldOf (lines : List Line) (told : Told) : Type 0 where
  about : last_record lines ≡ Some told.about
  line : last_version lines ≡ Some told.line
  previous : last_version (before_last is_version lines) ≡ told.previous
  entries : filter_map entry_in (after_last is_version lines) ≡ told.entries
  signatures : filter_map signature_in (after_last is_version lines) ≡ told.signatures

told_parts_by : (about : Option RecordLine) (line previous : Option VersionLine) (entries : List EntryRow) (signatures : List SignatureLine) (told : Told)
    → told_by about line previous entries signatures ≡ Some told
    → (about ≡ Some told.about) × (line ≡ Some told.line) × (previous ≡ told.previous) × (entries ≡ told.entries) × (signatures ≡ told.signatures)
told_parts_by None line previous entries signatures told is = no_some told is
told_parts_by (Some about) None previous entries signatures told is = no_some told is
told_parts_by (Some about) (Some line) previous entries signatures told is =
    let same = some_same _ told is in (
      ap (λ (one : Told). Some one.about) same,
      ap (λ (one : Told). Some one.line) same,
      ap (λ (one : Told). one.previous) same,
      ap (λ (one : Told). one.entries) same,
      ap (λ (one : Told). one.signatures) same,
    )

told_parts : (lines : List Line) (told : Told) → last_told lines ≡ Some told → ToldOf lines told
told_parts lines told is =
    let parts =
    told_parts_by (last_record lines) (last_version lines) (last_version (before_last is_version lines))
    (filter_map entry_in (after_last is_version lines)) (filter_map signature_in (after_last is_version lines)) told
    (sym (told_is lines) ∙ is) in
    record { about = parts.0; line = parts.1; previous = parts.2; entries = parts.3; signatures = parts.4 }

abbrev hand_by : Bool → ℕ → Option Told → Option CurrentVersion
hand_by ends before told = if ends then option_map (hand_of (before + 2)) told else None

-- the current is that of the version told
hand_is : (lines : List Line) (told : Told) → ends_in_version lines ≡ true → last_told lines ≡ Some told
    → hand_at lines ≡ Some (hand_of (length (before_last is_version lines) + 2) told)
hand_is lines told ends is = λ i. hand_by (ends i) (length (before_last is_version lines)) (is i)

no_current : (lines : List Line) → ends_in_version lines ≡ false → hand_at lines ≡ None
no_current lines ends = λ i. hand_by (ends i) (length (before_last is_version lines)) (last_told lines)

-- ---- lines and one more

module _ (lines : List Line) where
  ends_push : (line : Line) → ends_in_version (lines ++ (line ∷ [])) ≡ is_of_version line
  ends_push line = ap (is_some_and is_of_version) (last_push lines line)

  record_push : (line : Line) → record_in line ≡ None → last_record (lines ++ (line ∷ [])) ≡ last_record lines
  record_push line is = ap last_of (skip_push record_in lines line is)

  version_push : (line : Line) → version_in line ≡ None → last_version (lines ++ (line ∷ [])) ≡ last_version lines
  version_push line is = ap last_of (skip_push version_in lines line is)

  record_here : (line : RecordLine) → last_record (lines ++ (Record line ∷ [])) ≡ Some line
  record_here line = ap last_of (keep_push record_in lines (Record line) line refl) ∙ last_push (filter_map record_in lines) line

  version_here : (line : VersionLine) → last_version (lines ++ (Version line ∷ [])) ≡ Some line
  version_here line = ap last_of (keep_push version_in lines (Version line) line refl) ∙ last_push (filter_map version_in lines) line

  -- of a version row
  told_here : (line : VersionLine) → last_told (lines ++ (Version line ∷ []))
      ≡ told_by (last_record lines) (Some line) (last_version lines) [] []
  told_here line =
      told_is (lines ++ (Version line ∷ []))
      ∙ (λ i. told_by (record_push (Version line) refl i) (version_here line i)
      (last_version (before_here is_version lines (Version line) refl i))
      (filter_map entry_in (after_here is_version lines (Version line) refl i))
      (filter_map signature_in (after_here is_version lines (Version line) refl i)))

  -- of an entry
  told_entry : (line : EntryLine) → last_told (lines ++ (Entry line ∷ []))
      ≡ told_by (last_record lines) (last_version lines) (last_version (before_last is_version lines))
      (filter_map entry_in (after_last is_version lines) ++ (line.row ∷ []))
      (filter_map signature_in (after_last is_version lines))
  told_entry line =
      let behind = after_past is_version lines (Entry line) refl in
      let entries = ap (filter_map entry_in) behind ∙ keep_push entry_in (after_last is_version lines) (Entry line) line.row refl in
      let signatures = ap (filter_map signature_in) behind ∙ skip_push signature_in (after_last is_version lines) (Entry line) refl in
      told_is (lines ++ (Entry line ∷ []))
      ∙ (λ i. told_by (record_push (Entry line) refl i) (version_push (Entry line) refl i)
      (last_version (before_past is_version lines (Entry line) refl i)) (entries i) (signatures i))

  -- of a signature
  told_signature : (line : SignatureLine) → last_told (lines ++ (Signature line ∷ []))
      ≡ told_by (last_record lines) (last_version lines) (last_version (before_last is_version lines))
      (filter_map entry_in (after_last is_version lines))
      (filter_map signature_in (after_last is_version lines) ++ (line ∷ []))
  told_signature line =
      let behind = after_past is_version lines (Signature line) refl in
      let entries = ap (filter_map entry_in) behind ∙ skip_push entry_in (after_last is_version lines) (Signature line) refl in
      let signatures = ap (filter_map signature_in) behind ∙ keep_push signature_in (after_last is_version lines) (Signature line) line refl in
      told_is (lines ++ (Signature line ∷ []))
      ∙ (λ i. told_by (record_push (Signature line) refl i) (version_push (Signature line) refl i)
      (last_version (before_past is_version lines (Signature line) refl i)) (entries i) (signatures i))

-- ---- a line in its place

entry_behind : (last : Line) (line : EntryLine) → may_follow last (Entry line) ≡ true → is_of_version last ≡ true
entry_behind (Copy _) line may = never may
entry_behind (Record _) line may = never may
entry_behind (Version _) line may = refl
entry_behind (Entry _) line may = refl
entry_behind (Signature _) line may = never may
entry_behind (End _) line may = never may

signature_behind : (last : Line) (line : SignatureLine) → may_follow last (Signature line) ≡ true → is_of_version last ≡ true
signature_behind (Copy _) line may = never may
signature_behind (Record _) line may = never may
signature_behind (Version _) line may = refl
signature_behind (Entry _) line may = refl
signature_behind (Signature _) line may = refl
signature_behind (End _) line may = never may

-- the kinds of lines behind which rows of a version may stand
version_ends : (lines : List Line) (last : Line) → last_of lines ≡ Some last → ends_in_version lines ≡ is_of_version last
version_ends lines last is = ap (is_some_and is_of_version) is

module _ (lines : List Line) (has : HasVersionRows lines) where
  -- where a version's rows end the lines, what is kept of it tells as much as its row
  module _ (ends : ends_in_version lines ≡ true) where
    abbrev told : Told
    told = (has ends).0

    told_at : last_told lines ≡ Some told
    told_at = (has ends).1

    hand_told : hand_at lines ≡ Some (hand_of (length (before_last is_version lines) + 2) told)
    hand_told = hand_is lines told ends told_at

    line_told : last_version lines ≡ Some told.line
    line_told = (told_parts lines told told_at).line

    numbers_told : (record_number number : ℕ)
        → is_some_and (has_numbers record_number number) (hand_at lines)
        ≡ is_some_and (is_version_numbered record_number number) (last_version lines)
    numbers_told record_number number =
        ap (is_some_and (has_numbers record_number number)) hand_told
        ∙ sym (ap (is_some_and (is_version_numbered record_number number)) line_told)

    next_told : (line : VersionLine)
        → is_version_behind (hand_at lines) (kept_of lines) line ≡ is_some_and (is_next_version line) (last_version lines)
    next_told line =
        ap (λ current. is_version_behind current (kept_of lines) line) hand_told
        ∙ sym (ap (is_some_and (is_next_version line)) line_told)

    signature_told : (line : SignatureLine)
        → flaw_of_signature_kept (length lines + 2) (hand_at lines) line ≡ flaw_of_signature lines line
    unfolding flaw_of_signature
    signature_told line =
        ap (λ current. flaw_of_signature_kept (length lines + 2) current line) hand_told
        ∙ sym (ap (λ version.
        if not (is_some_and (λ (one : VersionLine). bytes_eq one.digest line.parts.version) version)
        then Some (flaw.Digest (length lines + 2))
        else if not (bytes_eq (seal_of line.parts) line.seal) then Some (flaw.Seal (length lines + 2)) else None) line_told)

  -- behind a version row, an entry or a signature
  behind_version : (last : Line) (line : VersionLine) → is_of_version last ≡ true
      → is_version_after lines line (Some last) ≡ is_some_and (is_next_version line) (last_version lines)
  behind_version (Version _) line of = refl
  behind_version (Entry _) line of = refl
  behind_version (Signature _) line of = refl
  behind_version (Copy _) line of = never of
  behind_version (Record _) line of = never of
  behind_version (End _) line of = never of

  after_version : (last : Line) (line : VersionLine) → last_of lines ≡ Some last → is_of_version last ≡ true
      → is_version_behind (hand_at lines) (kept_of lines) line ≡ is_version_after lines line (last_of lines)
  after_version last line is of =
      next_told (version_ends lines last is ∙ of) line
      ∙ sym (behind_version last line of)
      ∙ sym (ap (is_version_after lines line) is)

  version_numbers : (last : Line) (line : VersionLine) → last_of lines ≡ Some last → may_follow last (Version line) ≡ true
      → is_version_behind (hand_at lines) (kept_of lines) line ≡ is_version_after lines line (last_of lines)
  version_numbers (Copy _) line is may = never may
  version_numbers (Record about) line is may =
      ap (λ current. is_version_behind current (kept_of lines) line) (no_current lines (version_ends lines (Record about) is))
      ∙ ap (is_some_and (is_first_version line)) (last_map record_in lines (Record about) about is refl)
      ∙ sym (ap (is_version_after lines line) is)
  version_numbers (Version last) line is may = after_version (Version last) line is refl
  version_numbers (Entry last) line is may = after_version (Entry last) line is refl
  version_numbers (Signature last) line is may = after_version (Signature last) line is refl
  version_numbers (End _) line is may = never may

  numbers_by : (copy : CopyLine) (last line : Line) → last_of lines ≡ Some last → may_follow last line ≡ true
      → has_kept_numbers copy (kept_of lines) line ≡ has_its_numbers copy lines line
  numbers_by copy last (Copy line) is may = refl
  numbers_by copy last (Record line) is may = refl
  numbers_by copy last (Version line) is may = version_numbers last line is may
  numbers_by copy last (Entry line) is may =
      numbers_told (version_ends lines last is ∙ entry_behind last line may) line.record_number line.version
  numbers_by copy last (Signature line) is may =
      numbers_told (version_ends lines last is ∙ signature_behind last line may) line.record_number line.version
  numbers_by copy last (End line) is may = refl

empty_place : (line : Line) → is_in_place_kept (kept_of []) line ≡ is_in_place [] line
unfolding is_in_place
empty_place (Copy line) = refl
empty_place (Record line) = refl
empty_place (Version line) = refl
empty_place (Entry line) = refl
empty_place (Signature line) = refl
empty_place (End line) = refl

begun_place : (copy : CopyLine) (rest : List Line) (line : Line) → HasVersionRows (Copy copy ∷ rest)
    → is_in_place_kept (kept_of (Copy copy ∷ rest)) line ≡ is_in_place (Copy copy ∷ rest) line
unfolding is_in_place
begun_place copy rest line has =
    let lines : List Line = Copy copy ∷ rest in
    let last = last_cons (Copy copy) rest in
    let mine : Bool = bytes_eq (lab_of line) copy.lab in
    let may : Bool = is_some_and (λ one. may_follow one line) (last_of lines) in
    and_when (mine && may_come (option_map kind_of (last_of lines)) line) (mine && may)
    (has_kept_numbers copy (kept_of lines) line) (has_its_numbers copy lines line)
    (ap (λ b. mine && b) (may_by (last_of lines) line))
    (λ both. numbers_by lines has copy last.0 line last.1
    (sym (ap (is_some_and (λ one. may_follow one line)) last.1) ∙ and_right mine may both))

-- what is kept tells whether a line is in its place
pub place_is : (lines : List Line) (line : Line) → (lines ≡ []) ⊎ BeginsWithCopy lines → HasVersionRows lines
    → is_in_place_kept (kept_of lines) line ≡ is_in_place lines line
place_is lines line (inl none) has = subst (λ all. is_in_place_kept (kept_of all) line ≡ is_in_place all line) (sym none) (empty_place line)
place_is lines line (inr begins) has =
    subst (λ all. HasVersionRows all → is_in_place_kept (kept_of all) line ≡ is_in_place all line) (sym begins.lines_are)
    (begun_place begins.copy begins.rest line) has

-- ---- what a line in its place follows

abbrev is_copy_line : Line → Bool
is_copy_line (Copy _) = true
is_copy_line _ = false

-- the last line, behind which it may stand, and its numbers
record Follows (lines : List Line) (line : Line) : Type 0 where
  copy : CopyLine
  rest : List Line
  lines_are : lines ≡ Copy copy ∷ rest
  last : Line
  last_is : last_of lines ≡ Some last
  may : may_follow last line ≡ true
  numbers : has_its_numbers copy lines line ≡ true

follows_copy : (copy : CopyLine) (rest : List Line) (line : Line) → is_in_place (Copy copy ∷ rest) line ≡ true
    → Follows (Copy copy ∷ rest) line
unfolding is_in_place
follows_copy copy rest line place =
    let lines : List Line = Copy copy ∷ rest in
    let last = last_cons (Copy copy) rest in
    let may : Bool = is_some_and (λ one. may_follow one line) (last_of lines) in
    let numbers : Bool = has_its_numbers copy lines line in
    let mine : Bool = bytes_eq (lab_of line) copy.lab in
    record {
      copy = copy;
      rest = rest;
      lines_are = refl;
      last = last.0;
      last_is = last.1;
      may = sym (ap (is_some_and (λ one. may_follow one line)) last.1)
          ∙ and_right mine may (and_left (mine && may) numbers place);
      numbers = and_right (mine && may) numbers place;
    }

-- the copy row is the first, and every other line follows one
place_or : (lines : List Line) (line : Line) → is_in_place lines line ≡ true
    → ((lines ≡ []) × (copy : CopyLine) × (line ≡ Copy copy)) ⊎ Follows lines line
unfolding is_in_place
place_or [] (Copy line) place = inl (refl, line, refl)
place_or [] (Record line) place = never place
place_or [] (Version line) place = never place
place_or [] (Entry line) place = never place
place_or [] (Signature line) place = never place
place_or [] (End line) place = never place
place_or (Copy copy ∷ rest) line place = inr (follows_copy copy rest line place)
place_or (Record _ ∷ rest) line place = never place
place_or (Version _ ∷ rest) line place = never place
place_or (Entry _ ∷ rest) line place = never place
place_or (Signature _ ∷ rest) line place = never place
place_or (End _ ∷ rest) line place = never place

follows_by : (lines : List Line) (line : Line) → is_copy_line line ≡ false
    → ((lines ≡ []) × (copy : CopyLine) × (line ≡ Copy copy)) ⊎ Follows lines line → Follows lines line
follows_by lines line other (inl first) = never (sym other ∙ ap is_copy_line first.2)
follows_by lines line other (inr behind) = behind

follows_other : (lines : List Line) (line : Line) → is_copy_line line ≡ false → is_in_place lines line ≡ true → Follows lines line
follows_other lines line other place = follows_by lines line other (place_or lines line place)

-- ---- flaws

hand_flaw : (ends : Bool) (row : ℕ) (told : Option Told)
    → ((if ends then option_map (hand_of row) told else None) >>= flaw_of_current)
    ≡ (if ends then (told >>= flaw_of_version row) else None)
hand_flaw true row None = refl
hand_flaw true row (Some told) = refl
hand_flaw false row told = refl

version_flaw : (lines : List Line) → flaw_of_version_kept (kept_of lines) ≡ flaw_of_last_version lines
unfolding flaw_of_last_version
version_flaw lines = hand_flaw (ends_in_version lines) (length (before_last is_version lines) + 2) (last_told lines)

pub flaw_is : (lines : List Line) (line : Line) → HasVersionRows lines → is_in_place lines line ≡ true
    → flaw_kept (length lines + 2) (kept_of lines) line ≡ flaw_shown lines line
flaw_is lines (Copy line) has place = version_flaw lines
flaw_is lines (Record line) has place = version_flaw lines
flaw_is lines (Version line) has place = version_flaw lines
flaw_is lines (Entry line) has place = refl
flaw_is lines (Signature line) has place =
    let behind = follows_other lines (Signature line) refl place in
    signature_told lines has (version_ends lines behind.last behind.last_is ∙ signature_behind behind.last line behind.may) line
flaw_is lines (End line) has place = version_flaw lines

-- ---- the version being read, one line later

amendment_same : (reason : Option (List ℕ)) (digest : List ℕ) (current : Option CurrentVersion) (version : VersionLine) (line : Option VersionLine)
    → option_map (λ (one : CurrentVersion). one.digest) current ≡ Some digest → line ≡ Some version → version.digest ≡ digest
    → amendment_by reason (option_map (λ (one : CurrentVersion). one.digest) current) ≡ amendment_told reason line
amendment_same None digest current version line known is same = refl
amendment_same (Some reason) digest current version line known is same = rw (known, is, same) refl

amendment_none : (reason : Option (List ℕ)) (number : ℕ) (digest : Option (List ℕ)) (line : Option VersionLine)
    → HasReasonUnlessFirst number reason → number ≡ first_number → amendment_by reason digest ≡ amendment_told reason line
amendment_none None number digest line reasoned first = refl
amendment_none (Some reason) number digest line reasoned first = absurd (reasoned first)

begun_is : (row : ℕ) (about : RecordLine) (current : Option CurrentVersion) (version : Option VersionLine) (line : VersionLine)
    → amendment_behind current line ≡ amendment_told line.reason version
    → begun row about current line
    ≡ hand_of row (record { about = about; line = line; previous = version; entries = []; signatures = [] })
begun_is row about current version line same = λ i. record {
  row = row;
  parts = record {
    format = line.format;
    lab = line.lab;
    record_number = line.record_number;
    origin = record { number = line.number; amendment = same i };
    form = about.form;
    form_version = about.form_version;
    sample = about.sample;
    opener = line.opener;
    opened = line.opened;
    rows = [];
  };
  state = line.state;
  digest = line.digest;
  meanings = [];
  signers = [];
}

signed_current : (row : ℕ) (told : Told) (line : SignatureLine)
    → with_signature line.parts.person line.parts.meaning (hand_of row told)
    ≡ hand_of row (record told { signatures = told.signatures ++ (line ∷ []) })
signed_current row told line = λ i. record {
  row = row;
  parts = parts_told told;
  state = told.line.state;
  digest = told.line.digest;
  meanings = sym (map-append (λ (one : SignatureLine). one.parts.meaning) told.signatures (line ∷ [])) i;
  signers = sym (map-append (λ (one : SignatureLine). one.parts.person) told.signatures (line ∷ [])) i;
}

hand_at_is : (lines : List Line) (line : Line) (ends : Bool) (before : List Line) (told : Option Told)
    → is_of_version line ≡ ends → before_last is_version (lines ++ (line ∷ [])) ≡ before → last_told (lines ++ (line ∷ [])) ≡ told
    → hand_at (lines ++ (line ∷ [])) ≡ hand_by ends (length before) told
hand_at_is lines line ends before told of here is =
    λ i. hand_by ((ends_push lines line ∙ of) i) (length (here i)) (is i)

no_hand_at : (lines : List Line) (line : Line) → is_of_version line ≡ false → hand_at (lines ++ (line ∷ [])) ≡ None
no_hand_at lines line other = no_current (lines ++ (line ∷ [])) (ends_push lines line ∙ other)

first_of : (line : VersionLine) (about : RecordLine) → is_first_version line about ≡ true → line.number ≡ first_number
first_of line about first =
    eqb-true line.number first_number
    (and_right (line.record_number == about.record_number) (line.number == first_number) first)

module _ (lines : List Line) (has : HasVersionRows lines) where
  -- a version row behind the row of its record, or behind the rows of the version before
  amendment_is : (line : VersionLine) → Follows lines (Version line) → HasReasonUnlessFirst line.number line.reason
      → amendment_by line.reason (option_map (λ (current : CurrentVersion). current.digest) (hand_at lines)) ≡ amendment_told line.reason (last_version lines)
  amendment_is line behind reasoned = by behind.last behind.last_is behind.may
    where
      later : (last : Line) → last_of lines ≡ Some last → is_of_version last ≡ true
          → amendment_by line.reason (option_map (λ (current : CurrentVersion). current.digest) (hand_at lines)) ≡ amendment_told line.reason (last_version lines)
      later last is of =
          let ends = version_ends lines last is ∙ of in
          amendment_same line.reason (told lines has ends).line.digest (hand_at lines) (told lines has ends).line (last_version lines)
          (ap (option_map (λ (current : CurrentVersion). current.digest)) (hand_told lines has ends)) (line_told lines has ends) refl

      by : (last : Line) → last_of lines ≡ Some last → may_follow last (Version line) ≡ true
          → amendment_by line.reason (option_map (λ (current : CurrentVersion). current.digest) (hand_at lines)) ≡ amendment_told line.reason (last_version lines)
      by (Copy _) is may = never may
      by (Record about) is may =
          amendment_none line.reason line.number _ _ reasoned
          (first_of line about (sym (ap (is_version_after lines line) is) ∙ behind.numbers))
      by (Version last) is may = later (Version last) is refl
      by (Entry last) is may = later (Entry last) is refl
      by (Signature last) is may = later (Signature last) is refl
      by (End _) is may = never may

  -- its record is there
  about_there : (line : VersionLine) → Follows lines (Version line) → (about : RecordLine) × (last_record lines ≡ Some about)
  about_there line behind = by behind.last behind.last_is behind.may
    where
      later : (last : Line) → last_of lines ≡ Some last → is_of_version last ≡ true → (about : RecordLine) × (last_record lines ≡ Some about)
      later last is of =
          let ends = version_ends lines last is ∙ of in
          ((told lines has ends).about, (told_parts lines (told lines has ends) (told_at lines has ends)).about)

      by : (last : Line) → last_of lines ≡ Some last → may_follow last (Version line) ≡ true → (about : RecordLine) × (last_record lines ≡ Some about)
      by (Copy _) is may = never may
      by (Record about) is may = (about, last_map record_in lines (Record about) about is refl)
      by (Version last) is may = later (Version last) is refl
      by (Entry last) is may = later (Entry last) is refl
      by (Signature last) is may = later (Signature last) is refl
      by (End _) is may = never may

  version_told_next : (line : VersionLine) (behind : Follows lines (Version line))
      → last_told (lines ++ (Version line ∷ []))
      ≡ Some (record { about = (about_there line behind).0; line = line; previous = last_version lines; entries = []; signatures = [] })
  version_told_next line behind =
      told_here lines line ∙ ap (λ about. told_by about (Some line) (last_version lines) [] []) (about_there line behind).1

  version_hand_next : (line : VersionLine) → Follows lines (Version line) → HasReasonUnlessFirst line.number line.reason
      → current_begun (length lines + 2) (kept_of lines) line ≡ hand_at (lines ++ (Version line ∷ []))
  version_hand_next line behind reasoned =
      let about = about_there line behind in
      ap (option_map (λ one. begun (length lines + 2) one (hand_at lines) line)) about.1
      ∙ ap (λ current. Some current) (begun_is (length lines + 2) about.0 (hand_at lines) (last_version lines) line (amendment_is line behind reasoned))
      ∙ sym (hand_at_is lines (Version line) true lines _ refl (before_here is_version lines (Version line) refl) (version_told_next line behind))

  module _ (ends : ends_in_version lines ≡ true) where
    parts : ToldOf lines (told lines has ends)
    parts = told_parts lines (told lines has ends) (told_at lines has ends)

    entry_told_next : (line : EntryLine) → last_told (lines ++ (Entry line ∷ []))
        ≡ Some (record (told lines has ends) { entries = (told lines has ends).entries ++ (line.row ∷ []) })
    entry_told_next line =
        told_entry lines line
        ∙ (λ i. told_by (parts.about i) (parts.line i) (parts.previous i) (parts.entries i ++ (line.row ∷ [])) (parts.signatures i))

    entry_hand_next : (line : EntryLine) → option_map (with_entry line.row) (hand_at lines) ≡ hand_at (lines ++ (Entry line ∷ []))
    entry_hand_next line =
        ap (option_map (with_entry line.row)) (hand_told lines has ends)
        ∙ sym (hand_at_is lines (Entry line) true _ _ refl (before_past is_version lines (Entry line) refl) (entry_told_next line))

    signature_told_next : (line : SignatureLine) → last_told (lines ++ (Signature line ∷ []))
        ≡ Some (record (told lines has ends) { signatures = (told lines has ends).signatures ++ (line ∷ []) })
    signature_told_next line =
        told_signature lines line
        ∙ (λ i. told_by (parts.about i) (parts.line i) (parts.previous i) (parts.entries i) (parts.signatures i ++ (line ∷ [])))

    signature_hand_next : (line : SignatureLine)
        → option_map (with_signature line.parts.person line.parts.meaning) (hand_at lines) ≡ hand_at (lines ++ (Signature line ∷ []))
    signature_hand_next line =
        ap (option_map (with_signature line.parts.person line.parts.meaning)) (hand_told lines has ends)
        ∙ ap (λ current. Some current) (signed_current _ (told lines has ends) line)
        ∙ sym (hand_at_is lines (Signature line) true _ _ refl (before_past is_version lines (Signature line) refl) (signature_told_next line))

-- ---- what is kept, one line later

kept_same : (a b : Kept) → a.copy ≡ b.copy → a.about ≡ b.about → a.version ≡ b.version → a.last ≡ b.last → a.counts ≡ b.counts → a ≡ b
kept_same a b copy about version last counts =
    λ i. record { copy = copy i; about = about i; version = version i; last = last i; counts = counts i }

count_here : {B : Type 0} (h : Line → Option B) (lines : List Line) (line : Line) (kept : B) → h line ≡ Some kept
    → length (filter_map h lines) + 1 ≡ length (filter_map h (lines ++ (line ∷ [])))
count_here h lines line kept is =
    sym (length_push (filter_map h lines) kept) ∙ sym (ap length (keep_push h lines line kept is))

count_past : {B : Type 0} (h : Line → Option B) (lines : List Line) (line : Line) → h line ≡ None
    → length (filter_map h lines) ≡ length (filter_map h (lines ++ (line ∷ [])))
count_past h lines line is = sym (ap length (skip_push h lines line is))

counts_next : (lines : List Line) (line : Line) → counts_with line (counts_of lines) ≡ counts_of (lines ++ (line ∷ []))
counts_next lines (Copy line) = λ i. record {
  records = count_past record_in lines (Copy line) refl i;
  versions = count_past version_in lines (Copy line) refl i;
  entries = count_past entry_in lines (Copy line) refl i;
  signatures = count_past signature_in lines (Copy line) refl i;
}
counts_next lines (Record line) = λ i. record {
  records = count_here record_in lines (Record line) line refl i;
  versions = count_past version_in lines (Record line) refl i;
  entries = count_past entry_in lines (Record line) refl i;
  signatures = count_past signature_in lines (Record line) refl i;
}
counts_next lines (Version line) = λ i. record {
  records = count_past record_in lines (Version line) refl i;
  versions = count_here version_in lines (Version line) line refl i;
  entries = count_past entry_in lines (Version line) refl i;
  signatures = count_past signature_in lines (Version line) refl i;
}
counts_next lines (Entry line) = λ i. record {
  records = count_past record_in lines (Entry line) refl i;
  versions = count_past version_in lines (Entry line) refl i;
  entries = count_here entry_in lines (Entry line) line.row refl i;
  signatures = count_past signature_in lines (Entry line) refl i;
}
counts_next lines (Signature line) = λ i. record {
  records = count_past record_in lines (Signature line) refl i;
  versions = count_past version_in lines (Signature line) refl i;
  entries = count_past entry_in lines (Signature line) refl i;
  signatures = count_here signature_in lines (Signature line) line refl i;
}
counts_next lines (End line) = λ i. record {
  records = count_past record_in lines (End line) refl i;
  versions = count_past version_in lines (End line) refl i;
  entries = count_past entry_in lines (End line) refl i;
  signatures = count_past signature_in lines (End line) refl i;
}

first_next : (copy : CopyLine) (rest : List Line) (line : Line) → has_its_numbers copy (Copy copy ∷ rest) line ≡ true
    → copy_with line (Some copy) ≡ first_copy ((Copy copy ∷ rest) ++ (line ∷ []))
first_next copy rest (Copy line) numbers = never numbers
first_next copy rest (Record line) numbers = refl
first_next copy rest (Version line) numbers = refl
first_next copy rest (Entry line) numbers = refl
first_next copy rest (Signature line) numbers = refl
first_next copy rest (End line) numbers = refl

copy_next_by : (lines : List Line) (line : Line) → ((lines ≡ []) × (copy : CopyLine) × (line ≡ Copy copy)) ⊎ Follows lines line
    → copy_with line (first_copy lines) ≡ first_copy (lines ++ (line ∷ []))
copy_next_by lines line (inl first) = rw (first.0, first.2) refl
copy_next_by lines line (inr behind) =
    subst (λ all. copy_with line (first_copy all) ≡ first_copy (all ++ (line ∷ []))) (sym behind.lines_are)
    (first_next behind.copy behind.rest line
    (subst (λ all. has_its_numbers behind.copy all line ≡ true) behind.lines_are behind.numbers))

copy_next : (lines : List Line) (line : Line) → is_in_place lines line ≡ true
    → copy_with line (first_copy lines) ≡ first_copy (lines ++ (line ∷ []))
copy_next lines line place = copy_next_by lines line (place_or lines line place)

about_next : (lines : List Line) (line : Line) → about_with line (last_record lines) ≡ last_record (lines ++ (line ∷ []))
about_next lines (Copy line) = sym (record_push lines (Copy line) refl)
about_next lines (Record line) = sym (record_here lines line)
about_next lines (Version line) = sym (record_push lines (Version line) refl)
about_next lines (Entry line) = sym (record_push lines (Entry line) refl)
about_next lines (Signature line) = sym (record_push lines (Signature line) refl)
about_next lines (End line) = sym (record_push lines (End line) refl)

behind_ends : (lines : List Line) (line : Line) (behind : Follows lines line) → is_of_version behind.last ≡ true → ends_in_version lines ≡ true
behind_ends lines line behind of = version_ends lines behind.last behind.last_is ∙ of

version_next : (lines : List Line) (line : Line) → HasVersionRows lines → IsReasoned line → is_in_place lines line ≡ true
    → version_with (length lines + 2) (kept_of lines) line ≡ hand_at (lines ++ (line ∷ []))
version_next lines (Copy line) has reasoned place = sym (no_hand_at lines (Copy line) refl)
version_next lines (Record line) has reasoned place = sym (no_hand_at lines (Record line) refl)
version_next lines (Version line) has reasoned place =
    version_hand_next lines has line (follows_other lines (Version line) refl place) reasoned
version_next lines (Entry line) has reasoned place =
    let behind = follows_other lines (Entry line) refl place in
    entry_hand_next lines has (behind_ends lines (Entry line) behind (entry_behind behind.last line behind.may)) line
version_next lines (Signature line) has reasoned place =
    let behind = follows_other lines (Signature line) refl place in
    signature_hand_next lines has (behind_ends lines (Signature line) behind (signature_behind behind.last line behind.may)) line
version_next lines (End line) has reasoned place = sym (no_hand_at lines (End line) refl)

kept_next : (lines : List Line) (line : Line) → HasVersionRows lines → IsReasoned line → is_in_place lines line ≡ true
    → kept_with (length lines + 2) (kept_of lines) line ≡ kept_of (lines ++ (line ∷ []))
kept_next lines line has reasoned place =
    kept_same _ _ (copy_next lines line place) (about_next lines line) (version_next lines line has reasoned place)
    (ap (option_map kind_of) (sym (last_push lines line))) (counts_next lines line)

begins_next_by : (lines : List Line) (line : Line) → ((lines ≡ []) × (copy : CopyLine) × (line ≡ Copy copy)) ⊎ Follows lines line
    → BeginsWithCopy (lines ++ (line ∷ []))
begins_next_by lines line (inl first) = record { copy = first.1; rest = []; lines_are = rw (first.0, first.2) refl }
begins_next_by lines line (inr behind) = record {
  copy = behind.copy;
  rest = behind.rest ++ (line ∷ []);
  lines_are = ap (λ all. all ++ (line ∷ [])) behind.lines_are;
}

begins_next : (lines : List Line) (line : Line) → is_in_place lines line ≡ true → BeginsWithCopy (lines ++ (line ∷ []))
begins_next lines line place = begins_next_by lines line (place_or lines line place)

version_has : (lines : List Line) (line : Line) → HasVersionRows lines → is_in_place lines line ≡ true → HasVersionRows (lines ++ (line ∷ []))
version_has lines (Copy line) has place ends = never (sym (ends_push lines (Copy line)) ∙ ends)
version_has lines (Record line) has place ends = never (sym (ends_push lines (Record line)) ∙ ends)
version_has lines (Version line) has place ends =
    (_, version_told_next lines has line (follows_other lines (Version line) refl place))
version_has lines (Entry line) has place ends =
    let behind = follows_other lines (Entry line) refl place in
    (_, entry_told_next lines has (behind_ends lines (Entry line) behind (entry_behind behind.last line behind.may)) line)
version_has lines (Signature line) has place ends =
    let behind = follows_other lines (Signature line) refl place in
    (_, signature_told_next lines has (behind_ends lines (Signature line) behind (signature_behind behind.last line behind.may)) line)
version_has lines (End line) has place ends = never (sym (ends_push lines (End line)) ∙ ends)

-- ---- what the code rests on

pub at_none : IsAt kept_none []
unfolding last_told
at_none = record { kept_is = refl; begins = inl refl; has_version = λ ends. never ends }

-- a line that is out of its place
pub told_order : (row : ℕ) (kept : Kept) (lines : List Line) (line : Line) → row ≡ length lines + 2 → IsAt kept lines
    → is_in_place_kept kept line ≡ false → flaw_of_line lines line ≡ Some (flaw.Order row)
unfolding flaw_of_line
told_order row kept lines line row_is is place =
    let out = sym (place_is lines line is.begins is.has_version) ∙ subst (λ one. is_in_place_kept one line ≡ false) is.kept_is place in
    rw (out, row_is) refl

-- a line that is in its place
module _ (row : ℕ) (kept : Kept) (lines : List Line) (line : Line) (row_is : row ≡ length lines + 2) (is : IsAt kept lines)
    (place : is_in_place_kept kept line ≡ true) where
  in_place : is_in_place lines line ≡ true
  in_place = sym (place_is lines line is.begins is.has_version) ∙ subst (λ one. is_in_place_kept one line ≡ true) is.kept_is place

  pub told_flaw : flaw_of_line lines line ≡ flaw_kept row kept line
  unfolding flaw_of_line
  told_flaw =
      ap (λ b. if b then flaw_shown lines line else Some (flaw.Order (length lines + 2))) in_place
      ∙ sym (flaw_is lines line is.has_version in_place)
      ∙ sym (λ i. flaw_kept (row_is i) (is.kept_is i) line)

  pub at_next : IsReasoned line → IsAt (kept_with row kept line) (lines ++ (line ∷ []))
  at_next reasoned = record {
    kept_is = (λ i. kept_with (row_is i) (is.kept_is i) line) ∙ kept_next lines line is.has_version reasoned in_place;
    begins = inr (begins_next lines line in_place);
    has_version = version_has lines line is.has_version in_place;
  }

-- a version that may begin amends the one before, unless it is the first
amends_by : (number : ℕ) (reason previous : Option (List ℕ)) → HasReasonUnlessFirst number reason
    → (previous ≡ None → number ≡ first_number) → AmendsUnlessFirst number (amendment_by reason previous)
amends_by number None previous reasoned first = reasoned
amends_by number (Some reason) None reasoned first = absurd (reasoned (first refl))
amends_by number (Some reason) (Some previous) reasoned first = reasoned

first_by : (copy : Option CopyLine) (version : Option CurrentVersion) (kept : Kept) (line : VersionLine)
    → kept.version ≡ version → is_in_place_by copy kept (Version line) ≡ true
    → option_map (λ (current : CurrentVersion). current.digest) version ≡ None → line.number ≡ first_number
first_by None version kept line is place none = never place
first_by (Some copy) (Some current) kept line is place none = no_some current.digest (sym none)
first_by (Some copy) None kept line is place none =
    let may : Bool = may_come kept.last (Version line) in
    let behind : Bool = is_version_behind kept.version kept line in
    let numbers = and_right (bytes_eq line.lab copy.lab && may) behind place in
    by kept.about (subst (λ version. is_version_behind version kept line ≡ true) is numbers)
  where
    by : (about : Option RecordLine) → is_some_and (is_first_version line) about ≡ true → line.number ≡ first_number
    by None first = never first
    by (Some about) first = first_of line about first

pub may_begin : (kept : Kept) (line : Line) → is_in_place_kept kept line ≡ true → IsReasoned line → MayBegin kept.version line
may_begin kept (Copy line) place reasoned = tt
may_begin kept (Record line) place reasoned = tt
may_begin kept (Version line) place reasoned =
    amends_by line.number line.reason (option_map (λ (current : CurrentVersion). current.digest) kept.version) reasoned
    (first_by kept.copy kept.version kept line refl place)
may_begin kept (Entry line) place reasoned = tt
may_begin kept (Signature line) place reasoned = tt
may_begin kept (End line) place reasoned = tt

-- a line that was taken, or a fault that says nothing of it
pub taken : (row : ℕ) (kept more : Kept) (lines : List Line) (line : Line) → row ≡ length lines + 2 → IsAt kept lines
    → is_in_place_kept kept line ≡ true → IsReasoned line → flaw_kept row kept line ≡ None → more ≡ kept_with row kept line
    → (flaw_of_line lines line ≡ None) × IsAt more (lines ++ (line ∷ []))
taken row kept more lines line row_is is place reasoned none made = (
  told_flaw row kept lines line row_is is place ∙ none,
  subst (λ one. IsAt one (lines ++ (line ∷ []))) (sym made) (at_next row kept lines line row_is is place reasoned),
)

-- a line whose version being read has rows ends them
ends_by : (lines : List Line) (ends : Bool) → ends_in_version lines ≡ ends → is_some (hand_at lines) ≡ true → ends_in_version lines ≡ true
ends_by lines true is some = is
ends_by lines false is some = never (sym (ap is_some (no_current lines is)) ∙ some)

hand_ends : (kept : Kept) (lines : List Line) → IsAt kept lines → is_some kept.version ≡ true → ends_in_version lines ≡ true
hand_ends kept lines is some =
    ends_by lines (ends_in_version lines) refl (subst (λ (one : Kept). is_some one.version ≡ true) is.kept_is some)

-- memory ran out where the text of the version being read was made
seeing : (kept : Kept) (lines : List Line) (line : Line) → IsAt kept lines → is_in_place lines line ≡ true
    → IsTrue (is_text_made kept line) → MayRunOut lines line
seeing kept lines (Copy line) is place made = (place, hand_ends kept lines is made)
seeing kept lines (Record line) is place made = (place, hand_ends kept lines is made)
seeing kept lines (Version line) is place made = place
seeing kept lines (Entry line) is place made = never made
seeing kept lines (Signature line) is place made = never made
seeing kept lines (End line) is place made = (place, hand_ends kept lines is made)

pub ran_out_seeing : (row : ℕ) (kept : Kept) (lines : List Line) (line : Line) → row ≡ length lines + 2 → IsAt kept lines
    → is_in_place_kept kept line ≡ true → IsTrue (is_text_made kept line) → MayRunOut lines line
ran_out_seeing row kept lines line row_is is place made = seeing kept lines line is (in_place row kept lines line row_is is place) made

-- memory ran out where a line that shows no flaw was kept
keeping : (kept : Kept) (lines : List Line) (line : Line) → is_in_place lines line ≡ true → flaw_of_line lines line ≡ None
    → IsTrue (is_kept_made kept.about kept.version line) → MayRunOut lines line
keeping kept lines (Copy line) place none made = never made
keeping kept lines (Record line) place none made = never made
keeping kept lines (Version line) place none made = place
keeping kept lines (Entry line) place none made = none
keeping kept lines (Signature line) place none made = none
keeping kept lines (End line) place none made = never made

-- no more lines are of a kind than there are
fewer : {A B : Type 0} (h : A → Option B) (xs : List A) → length (filter_map h xs) ≤ length xs
fewer h [] = omega arith
fewer {B = B} h (x ∷ xs) = by (h x) (fewer h xs)
  where
    by : (o : Option B) → length (filter_map h xs) ≤ length xs → length (cons_option o (filter_map h xs)) ≤ length (x ∷ xs)
    by None few = omega (arith, few)
    by (Some y) few = omega (arith, few)

few : (lines : List Line) (line : Line) → count_of line (counts_of lines) ≤ length lines
few lines (Copy line) = omega arith
few lines (Record line) = fewer record_in lines
few lines (Version line) = fewer version_in lines
few lines (Entry line) = fewer entry_in lines
few lines (Signature line) = fewer signature_in lines
few lines (End line) = omega arith

few_kept : (kept : Kept) (lines : List Line) (line : Line) → IsAt kept lines → count_of line kept.counts ≤ length lines
few_kept kept lines line is = subst (λ (one : Kept). count_of line one.counts ≤ length lines) (sym is.kept_is) (few lines line)

kept_fault : (row : ℕ) (kept more : Kept) (lines : List Line) (line : Line) (fault : CopyFault) → row < 2 ^ 64
    → row ≡ length lines + 2 → IsAt kept lines → is_in_place lines line ≡ true → flaw_of_line lines line ≡ None
    → IsKeepFault kept line fault → IsTaken lines line more (Err fault)
kept_fault row kept more lines line (Flawed _) held row_is is place none why = absurd why
kept_fault row kept more lines line Read held row_is is place none why =
    absurd (why (omega (arith, held, row_is, few_kept kept lines line is)))
kept_fault row kept more lines line (Memory _) held row_is is place none why = keeping kept lines line place none why

-- what keeping a line comes to
pub taken_by : (row : ℕ) (kept more : Kept) (lines : List Line) (line : Line) (result : Result (Unit {0}) CopyFault)
    → row < 2 ^ 64 → row ≡ length lines + 2 → IsAt kept lines → is_in_place_kept kept line ≡ true → IsReasoned line
    → flaw_kept row kept line ≡ None → OnOk result (more ≡ kept_with row kept line) → IfErr result (IsKeepFault kept line)
    → IsTaken lines line more result
taken_by row kept more lines line (Ok _) held row_is is place reasoned none made fault =
    taken row kept more lines line row_is is place reasoned none made
taken_by row kept more lines line (Err e) held row_is is place reasoned none made fault =
    kept_fault row kept more lines line e held row_is is (in_place row kept lines line row_is is place)
    (told_flaw row kept lines line row_is is place ∙ none) fault

-- the end of the input
end_kind : (last : Option Line) → is_some_and is_end_kind (option_map kind_of last) ≡ is_some_and is_end last
end_kind None = refl
end_kind (Some (Copy _)) = refl
end_kind (Some (Record _)) = refl
end_kind (Some (Version _)) = refl
end_kind (Some (Entry _)) = refl
end_kind (Some (Signature _)) = refl
end_kind (Some (End _)) = refl

end_by : (ends : Bool) (counts : Counts) (shown : Option Flaw)
    → (if ends then Ok counts else Err (unwrap_or shown flaw.NoEnd))
    ≡ verdict_or (Ok counts) (if ends then None else option_or shown (Some flaw.NoEnd))
end_by true counts shown = refl
end_by false counts None = refl
end_by false counts (Some shown) = refl

pub verdict_at_end : (kept : Kept) (lines : List Line) → IsAt kept lines
    → verdict_kept kept ≡ verdict_or (Ok (counts_of lines)) (flaw_at_end lines)
unfolding flaw_at_end
verdict_at_end kept lines is =
    ap verdict_kept is.kept_is
    ∙ (λ i. if end_kind (last_of lines) i then Ok (counts_of lines) else Err (unwrap_or (version_flaw lines i) flaw.NoEnd))
    ∙ end_by (is_some_and is_end (last_of lines)) (counts_of lines) (flaw_of_last_version lines)

pub ended_at_end : (kept : Kept) → is_some_and is_end_kind kept.last ≡ true → verdict_kept kept ≡ Ok kept.counts
ended_at_end kept ends = λ i. if ends i then Ok kept.counts else Err (unwrap_or (flaw_of_version_kept kept) flaw.NoEnd)

pub shown_at_end : (kept : Kept) (first : Flaw) → is_some_and is_end_kind kept.last ≡ false
    → flaw_of_version_kept kept ≡ Some first → verdict_kept kept ≡ Err first
shown_at_end kept first more shown =
    λ i. if more i then Ok kept.counts else Err (unwrap_or (shown i) flaw.NoEnd)

pub none_at_end : (kept : Kept) → is_some_and is_end_kind kept.last ≡ false → flaw_of_version_kept kept ≡ None
    → verdict_kept kept ≡ Err flaw.NoEnd
none_at_end kept more none = λ i. if more i then Ok kept.counts else Err (unwrap_or (none i) flaw.NoEnd)

-- the edition
edition_begun : (lines : List Line) → (lines ≡ []) ⊎ BeginsWithCopy lines → edition_by (first_copy lines) ≡ edition_of lines
edition_begun lines (inl none) = rw none refl
edition_begun lines (inr begins) =
    subst (λ all. edition_by (first_copy all) ≡ edition_of all) (sym begins.lines_are) refl

pub edition_is : (kept : Kept) (lines : List Line) → IsAt kept lines → edition_by kept.copy ≡ edition_of lines
edition_is kept lines is = ap (λ (one : Kept). edition_by one.copy) is.kept_is ∙ edition_begun lines is.begins
