-- How a row is read as a line: its fields, the header, and what it stands for in a copy; what each
-- kind of row stands for is said in lab_copy_rows, `Reading.antt`.
use Rattle.std.specs.Prelude.{◌≡◌, ℕ, List, Option, Some, None, IsSome, Result, Ok, Err, if◌then◌else◌}
use Rattle.lab_copy_rows.specs.Rows.{Columns}
use Rattle.lab_copy_rows.specs.Reading.{columns_of, line_of}
use Rattle.lab_copy_rows.specs.Copies.{is_of_edition}
use Rattle.lab_seal.specs.Reading.{◌>>=◌}
use Rattle.lab_copy_rows.specs.declared.lines.Edition.{Edition}
use Rattle.lab_copy_rows.specs.declared.lines.Line.{Line}
use Rattle.lab_copy_rows.specs.declared.lines.Line.TheVariants.{Version}
use Rattle.lab_copy_lines.specs.Fields.{HasReasonUnlessFirst}
use Rattle.lab_forms_texts.specs.declared.refusals.Fault.{Fault}
use Rattle.lab_forms_texts.specs.declared.refusals.Fault.TheVariants.{Refused, Memory}
use Rattle.lab_copy_lines.specs.declared.faults.BadRow.{BadRow}

-- what is found is what is there, and a bad row is told where nothing is; out of memory only where
-- there is something, whose texts are copied
abbrev pub IsRowRead : {A : Type 0} → Option A → Result A (Fault BadRow) → Type 0
IsRowRead found (Ok value) = found ≡ Some value
IsRowRead found (Err (Refused _)) = found ≡ None
IsRowRead found (Err Memory) = IsSome found

abbrev pub IsReasoned : Line → Type 0
IsReasoned (Version line) = HasReasonUnlessFirst line.number line.reason
IsReasoned _ = Unit {0}

-- what is found, where a copy of an edition may have it as a line
abbrev pub within : {A : Type 0} → Edition → (A → Line) → Option A → Option A
within edition line_with found = do
  value ← found
  if is_of_edition edition (line_with value) then Some value else None

-- what the columns of a row stand for in a copy of an edition
abbrev pub line_by : Edition → Columns → Option Line
line_by edition columns = within edition (λ line. line) (line_of columns)

-- what a row stands for in a copy of an edition
abbrev pub line_at : Edition → List (List ℕ) → Option Line
line_at edition row = do
  columns ← columns_of row
  line_by edition columns
