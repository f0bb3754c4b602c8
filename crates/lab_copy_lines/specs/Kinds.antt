-- The kinds of lines, and which may come after which (docs/COPIES.md, "Order").
use Rattle.std.specs.Prelude.{Bool, true, false}
use Rattle.lab_copy_rows.specs.declared.lines.Line.{Line}
use Rattle.lab_copy_rows.specs.declared.lines.Line.TheVariants as line
use Rattle.lab_copy_lines.specs.declared.kinds.LineKind.{LineKind}
use Rattle.lab_copy_lines.specs.declared.kinds.LineKind.TheVariants.{Copy, Record, Version, Entry, Signature, End}

abbrev pub kind_of : Line → LineKind
kind_of (line.Copy _) = Copy
kind_of (line.Record _) = Record
kind_of (line.Version _) = Version
kind_of (line.Entry _) = Entry
kind_of (line.Signature _) = Signature
kind_of (line.End _) = End

-- which kind may come after which, the earlier one first
abbrev pub may_come_after : LineKind → LineKind → Bool
may_come_after Copy Record = true
may_come_after Copy End = true
may_come_after Record Version = true
may_come_after Version Copy = false
may_come_after Version _ = true
may_come_after Entry Copy = false
may_come_after Entry _ = true
may_come_after Signature Copy = false
may_come_after Signature Entry = false
may_come_after Signature _ = true
may_come_after _ _ = false

abbrev pub is_end_kind : LineKind → Bool
is_end_kind End = true
is_end_kind _ = false
