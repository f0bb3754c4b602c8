-- What a check keeps of the lines that came, and what it tells by that alone. What the lines
-- themselves show is said in lab_copy_rows, `Copies.antt`; `IsAt` ties the two.
use Rattle.std.specs.Prelude.{◌≡◌, ◌⊎◌, ◌+◌, Bool, true, if◌then◌else◌, List, [], ◌∷◌, ◌++◌, length, Option, Some, None, IsSome, option_map, Result, Ok, Err, unwrap_or}
use Rattle.std.specs.List.{before_last}
use Rattle.lab_seal.specs.Reading.{◌>>=◌}
use Rattle.lab_copy_rows.specs.Copies.{Told, is_some_and, is_of_version, is_version, last_of, last_record, last_told, counts_of, is_in_place, flaw_of_line}
use Rattle.lab_copy_rows.specs.declared.flaws.Flaw.{Flaw}
use Rattle.lab_copy_rows.specs.declared.flaws.Flaw.TheVariants as flaw
use Rattle.lab_copy_rows.specs.declared.lines.CopyLine.{CopyLine}
use Rattle.lab_copy_rows.specs.declared.lines.Counts.{Counts}
use Rattle.lab_copy_rows.specs.declared.lines.Edition.{Edition}
use Rattle.lab_copy_rows.specs.declared.lines.Edition.TheVariants as edition
use Rattle.lab_copy_rows.specs.declared.lines.Line.{Line}
use Rattle.lab_copy_rows.specs.declared.lines.Line.TheVariants.{Copy, Version, Entry, Signature}
use Rattle.lab_copy.specs.Current.{hand_of, flaw_of_current}
use Rattle.lab_copy.specs.declared.current.CurrentVersion.{CurrentVersion}
use Rattle.lab_copy.specs.declared.faults.CopyFault.{CopyFault}
use Rattle.lab_copy.specs.declared.faults.CopyFault.TheVariants.{Flawed, Read, Memory}
use Rattle.lab_copy.specs.declared.kept.Kept.{Kept}
use Rattle.lab_copy_lines.specs.Kinds.{kind_of, is_end_kind}

-- ---- what is told of a line by what is kept

-- what is wrong with the version being read
abbrev pub flaw_of_version_kept : Kept → Option Flaw
flaw_of_version_kept kept = kept.version >>= flaw_of_current

-- ---- what is kept after a line

-- what is answered at the end of the input
abbrev pub verdict_kept : Kept → Result Counts Flaw
verdict_kept kept =
    if is_some_and is_end_kind kept.last then Ok kept.counts
    else Err (unwrap_or (flaw_of_version_kept kept) flaw.NoEnd)

abbrev pub edition_by : Option CopyLine → Edition
edition_by None = edition.One
edition_by (Some copy) = copy.edition

-- ---- what is kept of lines

abbrev pub first_copy : List Line → Option CopyLine
first_copy (Copy line ∷ _) = Some line
first_copy _ = None

-- whether the last line is a version's
abbrev pub ends_in_version : List Line → Bool
ends_in_version lines = is_some_and is_of_version (last_of lines)

-- the version being read, where the last line is one of its rows
abbrev pub hand_at : List Line → Option CurrentVersion
hand_at lines =
    if ends_in_version lines
    then option_map (hand_of (length (before_last is_version lines) + 2)) (last_told lines)
    else None

-- nothing yet
abbrev pub kept_none : Kept
kept_none = record {
  copy = None;
  about = None;
  version = None;
  last = None;
  counts = record { records = 0; versions = 0; entries = 0; signatures = 0 };
}

abbrev pub kept_of : List Line → Kept
kept_of lines = record {
  copy = first_copy lines;
  about = last_record lines;
  version = hand_at lines;
  last = option_map kind_of (last_of lines);
  counts = counts_of lines;
}

-- the copy row is the first one
pub record BeginsWithCopy (lines : List Line) : Type 0 where
  pub copy : CopyLine
  pub rest : List Line
  pub lines_are : lines ≡ Copy copy ∷ rest

-- a version's rows stand under a version of a record
abbrev pub HasVersionRows : List Line → Type 0
HasVersionRows lines = ends_in_version lines ≡ true → (told : Told) × (last_told lines ≡ Some told)

-- this is what is kept of these lines, which begin as a copy does
pub record IsAt (kept : Kept) (lines : List Line) : Type 0 where
  pub kept_is : kept ≡ kept_of lines
  pub begins : (lines ≡ []) ⊎ BeginsWithCopy lines
  pub has_version : HasVersionRows lines

-- ---- what is made of a line, and so may run out of memory

-- where memory may run out behind these lines: not at a line out of its place, nor at a signature
-- that shows a flaw, nor at a line of another kind behind which no version's rows end
abbrev pub MayRunOut : List Line → Line → Type 0
MayRunOut lines (Version line) = is_in_place lines (Version line) ≡ true
MayRunOut lines (Entry line) = flaw_of_line lines (Entry line) ≡ None
MayRunOut lines (Signature line) = flaw_of_line lines (Signature line) ≡ None
MayRunOut lines line = (is_in_place lines line ≡ true) × (ends_in_version lines ≡ true)

-- ---- what the code answers

-- a line that shows no flaw was taken, and else its flaw was told; nothing is read here, and memory
-- runs out only where something is made
abbrev pub IsTaken : List Line → Line → Kept → Result (Unit {0}) CopyFault → Type 0
IsTaken lines line kept (Ok _) = (flaw_of_line lines line ≡ None) × IsAt kept (lines ++ (line ∷ []))
IsTaken lines line kept (Err (Flawed told)) = flaw_of_line lines line ≡ Some told
IsTaken lines line kept (Err Read) = ⊥
IsTaken lines line kept (Err (Memory _)) = MayRunOut lines line

-- at the end of the input nothing is read, and memory runs out only where there is a version at
-- being read, whose text is made
abbrev pub IsEndFault : Kept → CopyFault → Type 0
IsEndFault kept (Flawed _) = Unit {0}
IsEndFault kept Read = ⊥
IsEndFault kept (Memory _) = IsSome kept.version
