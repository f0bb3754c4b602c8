-- When a copy of records is sound (21 CFR 11.10(a) and (b): altered records are discerned, copies
-- are accurate and complete; 11.70: signatures can't be carried over to other records). All of it
-- is said of the rows as they stand in the copy, each with the rows before it, by docs/COPIES.md.
-- Rows are counted from 1, the header's; the lines are what the rows from 2 on stand for, so the
-- line after `before` is row `length before + 2`.
use Rattle.std.specs.Prelude.{ℕ, ◌+◌, Bool, true, false, not, ◌&&◌, ◌==◌, nat_lt, nat_le, if◌then◌else◌, List, [], ◌∷◌, ◌++◌, map, length, filter_map, Option, Some, None, Result, Ok, Err, ◌≡◌, ◌↔◌}
use Rattle.std.specs.List.{list_any, last_or, before_last, after_last}
use Rattle.std.specs.Option.{option_or}
use Rattle.std.specs.Str.{bytes_eq}
use Rattle.std.specs.Cmp.Lexicographic.{pointwise}
use Rattle.sha2.specs.Sha256.{sha256}
use Rattle.lab_seal_versions.specs.Origins.{first_number}
use Rattle.lab_seal.specs.Reading.{◌>>=◌}
use Rattle.lab_seal_versions.specs.Versions.{version_text}
use Rattle.lab_seal_versions.specs.declared.origins.Amendment.{Amendment}
use Rattle.lab_seal_versions.specs.declared.rows.EntryRow.{EntryRow}
use Rattle.lab_seal_versions.specs.declared.versions.Format.{Format}
use Rattle.lab_seal_versions.specs.declared.versions.Format.TheVariants as format
use Rattle.lab_seal_versions.specs.declared.versions.VersionParts.{VersionParts}
use Rattle.lab_seal_versions.specs.Seals.{seal_of}
use Rattle.lab_seal_versions.specs.States.{state_of, state_word, is_settled}
use Rattle.lab_seal_versions.specs.declared.seals.Meaning.{Meaning}
use Rattle.lab_seal_versions.specs.declared.seals.Meaning.TheVariants.{Approval}
use Rattle.lab_seal_versions.specs.declared.states.State.{State}
use Rattle.lab_seal_versions.specs.declared.states.State.TheVariants.{Reviewed}
use Rattle.lab_copy_rows.specs.Rows.{fields_in, header_row}
use Rattle.lab_copy_rows.specs.Reading.{columns_of, line_of}
use Rattle.lab_copy_rows.specs.declared.flaws.Flaw.{Flaw}
use Rattle.lab_copy_rows.specs.declared.flaws.Flaw.TheVariants.{BadRow, Digest, Seal, Order, NoEnd, OnePerson}
use Rattle.lab_copy_rows.specs.declared.lines.Counts.{Counts}
use Rattle.lab_copy_rows.specs.declared.lines.Edition.{Edition}
use Rattle.lab_copy_rows.specs.declared.lines.Edition.TheVariants as edition
use Rattle.lab_copy_rows.specs.declared.lines.CopyLine.{CopyLine}
use Rattle.lab_copy_rows.specs.declared.lines.RecordLine.{RecordLine}
use Rattle.lab_copy_rows.specs.declared.lines.VersionLine.{VersionLine}
use Rattle.lab_copy_rows.specs.declared.lines.SignatureLine.{SignatureLine}
use Rattle.lab_copy_rows.specs.declared.lines.Line.{Line}
use Rattle.lab_copy_rows.specs.declared.lines.Line.TheVariants.{Copy, Record, Version, Entry, Signature, End}

-- ---- the rows that a copy may have

-- versions of the older format, which are never only reviewed
abbrev pub is_older : Format → State → Bool
is_older (format.Two _) state = false
is_older format.One Reviewed = false
is_older format.One _ = true

abbrev pub is_approval : Meaning → Bool
is_approval Approval = true
is_approval _ = false

-- the older rules know neither the newer format nor approvals
abbrev pub is_of_edition : Edition → Line → Bool
is_of_edition edition.Two line = true
is_of_edition edition.One (Version line) = is_older line.format line.state
is_of_edition edition.One (Signature line) = not (is_approval line.parts.meaning)
is_of_edition edition.One _ = true

-- the edition of a copy that begins with these lines: the older one, unless the copy row says that
-- it is the newer one
abbrev pub edition_of : List Line → Edition
edition_of (Copy line ∷ _) = line.edition
edition_of _ = edition.One

-- what a row stands for that follows these lines, if a copy may have it
abbrev pub line_in : List Line → List (List ℕ) → Option Line
line_in before row = do
  columns ← columns_of row
  line ← line_of columns
  if is_of_edition (edition_of before) line then Some line else None

-- ---- the lines of a kind, in order

abbrev pub record_in : Line → Option RecordLine
record_in (Record line) = Some line
record_in _ = None

abbrev pub version_in : Line → Option VersionLine
version_in (Version line) = Some line
version_in _ = None

abbrev pub entry_in : Line → Option EntryRow
entry_in (Entry line) = Some line.row
entry_in _ = None

abbrev pub signature_in : Line → Option SignatureLine
signature_in (Signature line) = Some line
signature_in _ = None

abbrev pub is_version : Line → Bool
is_version (Version _) = true
is_version _ = false

-- a version's own row, its entries and its signatures
abbrev pub is_of_version : Line → Bool
is_of_version (Version _) = true
is_of_version (Entry _) = true
is_of_version (Signature _) = true
is_of_version _ = false

abbrev pub is_end : Line → Bool
is_end (End _) = true
is_end _ = false

abbrev pub last_of : {A : Type 0} → List A → Option A
last_of xs = last_or None xs

-- there is one, and it passes
abbrev pub is_some_and : {A : Type 0} → (A → Bool) → Option A → Bool
is_some_and p None = false
is_some_and p (Some x) = p x

-- there is none, or it passes
abbrev pub is_none_or : {A : Type 0} → (A → Bool) → Option A → Bool
is_none_or p None = true
is_none_or p (Some x) = p x

-- the record and the version to which a next line would belong
abbrev pub last_record : List Line → Option RecordLine
last_record lines = last_of (filter_map record_in lines)

abbrev pub last_version : List Line → Option VersionLine
last_version lines = last_of (filter_map version_in lines)

-- how many lines of each kind there are
abbrev pub counts_of : List Line → Counts
counts_of lines = record {
  records = length (filter_map record_in lines);
  versions = length (filter_map version_in lines);
  entries = length (filter_map entry_in lines);
  signatures = length (filter_map signature_in lines);
}

-- ---- the order of lines

abbrev pub lab_of : Line → List ℕ
lab_of (Copy line) = line.lab
lab_of (Record line) = line.lab
lab_of (Version line) = line.lab
lab_of (Entry line) = line.lab
lab_of (Signature line) = line.parts.lab
lab_of (End line) = line.lab

-- which kind of line may follow which
abbrev pub may_follow : Line → Line → Bool
may_follow (Copy _) (Record _) = true
may_follow (Copy _) (End _) = true
may_follow (Record _) (Version _) = true
may_follow (Version _) (Entry _) = true
may_follow (Version _) (Signature _) = true
may_follow (Version _) (Version _) = true
may_follow (Version _) (Record _) = true
may_follow (Version _) (End _) = true
may_follow (Entry _) (Entry _) = true
may_follow (Entry _) (Signature _) = true
may_follow (Entry _) (Version _) = true
may_follow (Entry _) (Record _) = true
may_follow (Entry _) (End _) = true
may_follow (Signature _) (Signature _) = true
may_follow (Signature _) (Version _) = true
may_follow (Signature _) (Record _) = true
may_follow (Signature _) (End _) = true
may_follow _ _ = false

-- a record that was asked for
abbrev pub was_asked : CopyLine → RecordLine → Bool
was_asked copy line = nat_le copy.from line.record_number && nat_le line.record_number copy.to

-- records come by their numbers
abbrev pub is_later_record : RecordLine → RecordLine → Bool
is_later_record line earlier = nat_lt earlier.record_number line.record_number

-- right after a record row comes its first version
abbrev pub is_first_version : VersionLine → RecordLine → Bool
is_first_version line about =
    (line.record_number == about.record_number) && (line.number == first_number)

-- a next version comes where the one before is released or rejected
abbrev pub is_next_version : VersionLine → VersionLine → Bool
is_next_version line earlier =
    (line.record_number == earlier.record_number) && (line.number == earlier.number + 1)
    && is_settled earlier.state

-- a version row after a record row, or after the rows of a version
abbrev pub is_version_after : List Line → VersionLine → Option Line → Bool
is_version_after before line (Some (Record earlier)) = is_first_version line earlier
is_version_after before line _ = is_some_and (is_next_version line) (last_version before)

-- entries and signatures have the numbers of their version
abbrev pub is_version_numbered : ℕ → ℕ → VersionLine → Bool
is_version_numbered record_number number version =
    (record_number == version.record_number) && (number == version.number)

abbrev pub are_same_counts : Counts → Counts → Bool
are_same_counts counts told =
    (counts.records == told.records) && (counts.versions == told.versions)
    && (counts.entries == told.entries) && (counts.signatures == told.signatures)

-- the numbers of a line are those that its place asks for
abbrev pub has_its_numbers : CopyLine → List Line → Line → Bool
has_its_numbers copy before (Copy line) = false
has_its_numbers copy before (Record line) =
    was_asked copy line && is_none_or (is_later_record line) (last_record before)
has_its_numbers copy before (Version line) = is_version_after before line (last_of before)
has_its_numbers copy before (Entry line) =
    is_some_and (is_version_numbered line.record_number line.version) (last_version before)
has_its_numbers copy before (Signature line) =
    is_some_and (is_version_numbered line.record_number line.version) (last_version before)
has_its_numbers copy before (End line) = are_same_counts (counts_of before) line.counts

-- a line is in its place after these: the copy row is the first one, with a range that is none
-- backwards, and every other line is of the copy's laboratory, of a kind that may follow the last
-- one, and has the numbers of its place
unfoldable pub is_in_place : List Line → Line → Bool
is_in_place [] (Copy line) = nat_le line.from line.to
is_in_place [] _ = false
is_in_place (Copy copy ∷ lines) line =
    bytes_eq (lab_of line) copy.lab
    && is_some_and (λ last. may_follow last line) (last_of (Copy copy ∷ lines))
    && has_its_numbers copy (Copy copy ∷ lines) line
is_in_place _ _ = false

-- ---- a version with its rows

-- what a copy tells of a version: its record, its own row, the version before it, its entries and
-- its signatures
pub record Told : Type 0 where
  pub about : RecordLine
  pub line : VersionLine
  pub previous : Option VersionLine
  pub entries : List EntryRow
  pub signatures : List SignatureLine

-- the last version of these lines
unfoldable pub last_told : List Line → Option Told
last_told lines = do
  about ← last_record lines
  line ← last_version lines
  Some (record {
    about = about;
    line = line;
    previous = last_version (before_last is_version lines);
    entries = filter_map entry_in (after_last is_version lines);
    signatures = filter_map signature_in (after_last is_version lines);
  })

-- what a version amends; the first one has no reason, and amends none
abbrev pub amendment_told : Option (List ℕ) → Option VersionLine → Option Amendment
amendment_told (Some reason) (Some previous) =
    Some (record { previous = previous.digest; reason = reason })
amendment_told _ _ = None

-- the version as its digest covers it
abbrev pub parts_told : Told → VersionParts
parts_told told = record {
  format = told.line.format;
  lab = told.line.lab;
  record_number = told.line.record_number;
  origin = record {
    number = told.line.number;
    amendment = amendment_told told.line.reason told.previous;
  };
  form = told.about.form;
  form_version = told.about.form_version;
  sample = told.about.sample;
  opener = told.line.opener;
  opened = told.line.opened;
  rows = told.entries;
}

-- the digest in the version's row is that of its text
abbrev pub has_its_digest : Told → Bool
has_its_digest told = bytes_eq (sha256 (version_text (parts_told told))) told.line.digest

-- only the newer format tells that an approval is wanted
abbrev pub wants_approval : Format → Bool
wants_approval format.One = false
wants_approval (format.Two approval) = approval

-- the signatures are those of the state in the version's row
abbrev pub is_state : State → State → Bool
is_state told made = bytes_eq (state_word made) (state_word told)

abbrev pub has_signatures_of_state : Told → Bool
has_signatures_of_state told =
    is_some_and (is_state told.line.state)
    (state_of (map (λ (one : SignatureLine). one.parts.meaning) told.signatures)
    (wants_approval told.line.format))

-- the author entered a row, every other signer none, and the third signer isn't the second
abbrev pub are_different_persons : List (List ℕ) → List (List ℕ) → Bool
are_different_persons entered [] = true
are_different_persons entered (author ∷ []) = list_any (bytes_eq author) entered
are_different_persons entered (author ∷ second ∷ []) =
    list_any (bytes_eq author) entered && not (list_any (bytes_eq second) entered)
are_different_persons entered (author ∷ second ∷ third ∷ _) =
    list_any (bytes_eq author) entered && not (list_any (bytes_eq second) entered)
    && not (list_any (bytes_eq third) entered) && not (bytes_eq third second)

abbrev pub has_different_persons : Told → Bool
has_different_persons told =
    are_different_persons (map (λ (row : EntryRow). row.person) told.entries)
    (map (λ (one : SignatureLine). one.parts.person) told.signatures)

-- what is wrong with a version, whose own row is this one
abbrev pub flaw_of_version : ℕ → Told → Option Flaw
flaw_of_version row told =
    if not (has_its_digest told) then Some (Digest row)
    else if not (has_signatures_of_state told && has_different_persons told)
    then Some (OnePerson row) else None

-- what is wrong with the version whose rows stand last in these lines, if a version's rows do
unfoldable pub flaw_of_last_version : List Line → Option Flaw
flaw_of_last_version lines =
    if is_some_and is_of_version (last_of lines)
    then last_told lines >>= flaw_of_version (length (before_last is_version lines) + 2)
    else None

-- what is wrong with a signature that follows these lines
unfoldable pub flaw_of_signature : List Line → SignatureLine → Option Flaw
flaw_of_signature before line =
    if not (is_some_and (λ (version : VersionLine). bytes_eq version.digest line.parts.version)
    (last_version before))
    then Some (Digest (length before + 2))
    else if not (bytes_eq (seal_of line.parts) line.seal) then Some (Seal (length before + 2))
    else None

-- ---- the flaws of a copy, in the order in which they are told

-- what a line shows that is in its place: a signature its own flaw, and a line that ends a
-- version's rows that of the version
abbrev pub flaw_shown : List Line → Line → Option Flaw
flaw_shown before (Entry line) = None
flaw_shown before (Signature line) = flaw_of_signature before line
flaw_shown before line = flaw_of_last_version before

-- what a line shows that follows these
unfoldable pub flaw_of_line : List Line → Line → Option Flaw
flaw_of_line before line =
    if is_in_place before line then flaw_shown before line else Some (Order (length before + 2))

-- what the end of the input shows after these lines: a version's rows end there too
unfoldable pub flaw_at_end : List Line → Option Flaw
flaw_at_end lines =
    if is_some_and is_end (last_of lines) then None
    else option_or (flaw_of_last_version lines) (Some NoEnd)

-- a flaw, or else this verdict
abbrev pub verdict_or : Result Counts Flaw → Option Flaw → Result Counts Flaw
verdict_or verdict None = verdict
verdict_or verdict (Some flaw) = Err flaw

-- a row that stands for no line, or a line with the verdict on what follows it
abbrev pub verdict_of_line : List Line → Option Line → (List Line → Result Counts Flaw)
    → Result Counts Flaw
verdict_of_line before None after = Err (BadRow (length before + 2))
verdict_of_line before (Some line) after =
    verdict_or (after (before ++ (line ∷ []))) (flaw_of_line before line)

-- what is found of rows that follow these lines: the first flaw, or how many rows there are
unfoldable pub verdict_after : List Line → List (List (List ℕ)) → Result Counts Flaw
verdict_after before [] = verdict_or (Ok (counts_of before)) (flaw_at_end before)
verdict_after before (row ∷ rows) =
    verdict_of_line before (line_in before row) (λ lines. verdict_after lines rows)

-- the row of the header
abbrev pub is_header : List (List ℕ) → Bool
is_header row = pointwise bytes_eq row (fields_in header_row)

-- what is found of a copy that has these rows
unfoldable pub verdict : List (List (List ℕ)) → Result Counts Flaw
verdict [] = Err NoEnd
verdict (row ∷ rows) = if is_header row then verdict_after [] rows else Err (BadRow 1)

-- ---- a sound copy, with no word of the order in which flaws are told

-- these rows, after those lines, stand for these lines
unfoldable pub StandFor : List Line → List (List (List ℕ)) → List Line → Type 0
StandFor before [] [] = Unit {0}
StandFor before (row ∷ rows) (line ∷ lines) =
    (line_in before row ≡ Some line) × StandFor (before ++ (line ∷ [])) rows lines
StandFor before [] (line ∷ lines) = ⊥
StandFor before (row ∷ rows) [] = ⊥

-- none of these lines shows a flaw, each after those lines and the ones before it
unfoldable pub AreFlawless : List Line → List Line → Type 0
AreFlawless before [] = Unit {0}
AreFlawless before (line ∷ lines) =
    (flaw_of_line before line ≡ None) × AreFlawless (before ++ (line ∷ [])) lines

-- a copy is sound, and has these numbers of rows: it has the header, the rows after it stand for
-- lines without a flaw, and the last of these ends the copy
pub record IsSoundCopy (rows : List (List (List ℕ))) (counts : Counts) : Type 0 where
  pub after_header : List (List (List ℕ))
  pub lines : List Line
  pub begins : rows ≡ fields_in header_row ∷ after_header
  pub reads : StandFor [] after_header lines
  pub flawless : AreFlawless [] lines
  pub ends : is_some_and is_end (last_of lines) ≡ true
  pub counted : counts_of lines ≡ counts

-- the verdict is yes exactly on sound copies
abbrev pub IsYesOnSoundCopies : Type 0
IsYesOnSoundCopies =
    (rows : List (List (List ℕ))) (counts : Counts)
    → (verdict rows ≡ Ok counts) ↔ IsSoundCopy rows counts
