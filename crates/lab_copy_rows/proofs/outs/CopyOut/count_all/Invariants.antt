-- The rows so far are counted.
use Rattle.std.proofs.Common.{◌≡◌, take}
use Rattle.lab_copy_rows.specs.declared.outs.CopyOut.{CopyOut}
use Rattle.lab_copy_rows.specs.Outs.{counted_all}
use Rattle.lab_copy_rows.proofs.outs.CopyOut.count_all.Given as goal

abbrev pub invariant-loop-row : goal.invariant-loop-row
invariant-loop-row l =
    let start : CopyOut = l.initial.self in
    l.self ≡ record start { counts = counted_all start.counts (take l.row-index l.rows) }
