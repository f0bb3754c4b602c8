-- A copy that is made of a laboratory is sound: whoever checks it finds no flaw (21 CFR 11.10(a),
-- "the ability to discern invalid or altered records"). What sound means is said of the copy's rows
-- alone, in lab_copy_rows.
use Rattle.std.specs.Prelude.{◌≤◌}
use Rattle.std.specs.List.{AllByRecursion}
use Rattle.lab_records_kept.specs.declared.labs.Lab.{Lab}
use Rattle.lab_records_kept.specs.Bound.{IsBound}
use Rattle.lab_records_kept.specs.Dual.{IsDual}
use Rattle.lab_records_kept.specs.Limits.{IsWithin}
use Rattle.lab_records_kept.specs.Lookups.{records_within}
use Rattle.lab_copy_rows.specs.Copies.{counts_of, IsSoundCopy}
use Rattle.lab_copy_rows.specs.Lines.{IsLine}
use Rattle.lab_records_copies.specs.declared.orders.CopyOrder.{CopyOrder}
use Rattle.lab_records_copies.specs.CopyLines.{body_lines, copy_lines, copy_of}

-- codes, names, notes, numbers and moments in the lines of the copy are such as their types admit
abbrev pub AreLines : Lab → CopyOrder → Type 0
AreLines lab order =
    AllByRecursion IsLine
    (copy_lines lab.code lab.name order (records_within order.from order.to lab.records))

-- the copy of a laboratory that is bound, under dual control and within its limits is sound, and
-- has as many rows of each kind as its records have
abbrev pub CopiesAreSound : Type 0
CopiesAreSound =
    (lab : Lab) (order : CopyOrder) → order.from ≤ order.to → IsBound lab → IsDual lab
    → IsWithin lab → AreLines lab order
    → IsSoundCopy (copy_of lab order)
    (counts_of (body_lines lab.code (records_within order.from order.to lab.records)))
