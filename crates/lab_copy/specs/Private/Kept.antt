-- What clauses of private functions say beside Kept.antt.
use Rattle.std.specs.Prelude.{ℕ, ◌+◌, ◌^◌, ◌<◌, Bool, false, not, ◌&&◌, IsTrue, if◌then◌else◌, Option, Some, None, is_some, option_map}
use Rattle.std.specs.Str.{bytes_eq}
use Rattle.lab_seal_versions.specs.Origins.{AmendsUnlessFirst}
use Rattle.lab_seal_versions.specs.Seals.{seal_of}
use Rattle.lab_copy_rows.specs.Copies.{lab_of, was_asked, is_later_record, is_first_version, are_same_counts, is_some_and, is_none_or}
use Rattle.lab_copy_rows.specs.declared.flaws.Flaw.{Flaw}
use Rattle.lab_copy_rows.specs.declared.flaws.Flaw.TheVariants as flaw
use Rattle.lab_copy_rows.specs.declared.lines.CopyLine.{CopyLine}
use Rattle.lab_copy_rows.specs.declared.lines.Line.{Line}
use Rattle.lab_copy_rows.specs.declared.lines.Line.TheVariants.{Copy, Record, Version, Entry, Signature, End}
use Rattle.lab_copy_rows.specs.declared.lines.RecordLine.{RecordLine}
use Rattle.lab_copy_rows.specs.declared.lines.SignatureLine.{SignatureLine}
use Rattle.lab_copy_rows.specs.declared.lines.VersionLine.{VersionLine}
use Rattle.lab_copy.specs.Places.{count_of, counts_with, is_first_line}
use Rattle.lab_copy.specs.Current.{amendment_behind, begun, with_entry, with_signature, has_numbers, is_next}
use Rattle.lab_copy.specs.declared.current.CurrentVersion.{CurrentVersion}
use Rattle.lab_copy.specs.declared.faults.CopyFault.{CopyFault}
use Rattle.lab_copy.specs.declared.faults.CopyFault.TheVariants.{Flawed, Read, Memory}
use Rattle.lab_copy.specs.declared.kept.Kept.{Kept}
use Rattle.lab_copy_lines.specs.Kinds.{kind_of, may_come_after}
use Rattle.lab_copy_lines.specs.declared.kinds.LineKind.{LineKind}
use Rattle.lab_copy.specs.Kept.{flaw_of_version_kept}

-- ---- what is told of a line by what is kept

abbrev pub is_next_record : Kept → RecordLine → Bool
is_next_record kept line = is_none_or (is_later_record line) kept.about

-- after a record row its first version, else the version after the one being read
abbrev pub is_version_behind : Option CurrentVersion → Kept → VersionLine → Bool
is_version_behind None kept line = is_some_and (is_first_version line) kept.about
is_version_behind (Some current) kept line = is_next line current

abbrev pub has_kept_numbers : CopyLine → Kept → Line → Bool
has_kept_numbers copy kept (Copy line) = false
has_kept_numbers copy kept (Record line) = was_asked copy line && is_next_record kept line
has_kept_numbers copy kept (Version line) = is_version_behind kept.version kept line
has_kept_numbers copy kept (Entry line) =
    is_some_and (has_numbers line.record_number line.version) kept.version
has_kept_numbers copy kept (Signature line) =
    is_some_and (has_numbers line.record_number line.version) kept.version
has_kept_numbers copy kept (End line) = are_same_counts kept.counts line.counts

abbrev pub may_come : Option LineKind → Line → Bool
may_come last line = is_some_and (λ one. may_come_after one (kind_of line)) last

abbrev pub is_in_place_by : Option CopyLine → Kept → Line → Bool
is_in_place_by None kept line = is_first_line line
is_in_place_by (Some copy) kept line =
    bytes_eq (lab_of line) copy.lab && may_come kept.last line && has_kept_numbers copy kept line

-- whether a line is in its place
abbrev pub is_in_place_kept : Kept → Line → Bool
is_in_place_kept kept line = is_in_place_by kept.copy kept line

-- what is wrong with a signature in a row
abbrev pub flaw_of_signature_kept : ℕ → Option CurrentVersion → SignatureLine → Option Flaw
flaw_of_signature_kept row version line =
    if not (is_some_and (λ (current : CurrentVersion). bytes_eq current.digest line.parts.version) version)
    then Some (flaw.Digest row)
    else if not (bytes_eq (seal_of line.parts) line.seal) then Some (flaw.Seal row) else None

-- what a line shows in a row where it is in its place
abbrev pub flaw_kept : ℕ → Kept → Line → Option Flaw
flaw_kept row kept (Entry line) = None
flaw_kept row kept (Signature line) = flaw_of_signature_kept row kept.version line
flaw_kept row kept line = flaw_of_version_kept kept

-- ---- what is kept after a line

-- a version that begins amends the one being read, unless it is the first
abbrev pub MayBegin : Option CurrentVersion → Line → Type 0
MayBegin version (Version line) = AmendsUnlessFirst line.number (amendment_behind version line)
MayBegin version _ = Unit {0}

abbrev pub copy_with : Line → Option CopyLine → Option CopyLine
copy_with (Copy line) copy = Some line
copy_with _ copy = copy

abbrev pub about_with : Line → Option RecordLine → Option RecordLine
about_with (Record line) about = Some line
about_with _ about = about

abbrev pub version_by : ℕ → Option RecordLine → Option CurrentVersion → Line → Option CurrentVersion
version_by row about version (Version line) =
    option_map (λ about. begun row about version line) about
version_by row about version (Entry line) = option_map (with_entry line.row) version
version_by row about version (Signature line) =
    option_map (with_signature line.parts.person line.parts.meaning) version
version_by row about version _ = None

abbrev pub version_with : ℕ → Kept → Line → Option CurrentVersion
version_with row kept line = version_by row kept.about kept.version line

-- the parts being read with a line, but for the kind of the last line and the counts of lines
abbrev pub with_parts : ℕ → Kept → Line → Kept
with_parts row kept line = record kept {
  copy = copy_with line kept.copy;
  about = about_with line kept.about;
  version = version_with row kept line;
}

-- what is kept after a line that stands in a row
abbrev pub kept_with : ℕ → Kept → Line → Kept
kept_with row kept line = record {
  copy = copy_with line kept.copy;
  about = about_with line kept.about;
  version = version_with row kept line;
  last = Some (kind_of line);
  counts = counts_with line kept.counts;
}

-- ---- what is made of a line, and so may run out of memory

-- to find what a line in its place shows: the text of the version being read, whose rows have come
abbrev pub is_text_made : Kept → Line → Bool
is_text_made kept (Entry line) = false
is_text_made kept (Signature line) = false
is_text_made kept line = is_some kept.version

-- to keep it: a version being read, or a row or a signature more of one
abbrev pub is_kept_made : Option RecordLine → Option CurrentVersion → Line → Bool
is_kept_made about version (Version line) = is_some about
is_kept_made about version (Entry line) = is_some version
is_kept_made about version (Signature line) = is_some version
is_kept_made about version _ = false

-- ---- what the code answers

-- the fault of keeping a line tells no flaw: there are more lines of its kind than any copy has, or
-- memory ran out where something is made
abbrev pub IsKeepFault : Kept → Line → CopyFault → Type 0
IsKeepFault kept line (Flawed _) = ⊥
IsKeepFault kept line Read = ¬ (count_of line kept.counts + 1 < 2 ^ 64)
IsKeepFault kept line (Memory _) = IsTrue (is_kept_made kept.about kept.version line)
