-- The text of the rows so far went out, and nothing else reached the writer.
use Rattle.std.proofs.Common.{◌-◌, ◌≤◌, length, take}
use Rattle.std.specs.Io.KnownBytes.{Appends}
use Rattle.lab_copy_rows.specs.Csv.{csv_text}
use Rattle.lab_copy_rows.proofs.outs.write_copy.Given as goal

abbrev pub invariant-loop-sent : goal.invariant-loop-sent
invariant-loop-sent g l = record {
  within : l.sent ≤ length l.rows;
  text : Appends (g.W.Write.contents l.initial.writer) (g.W.Write.contents l.writer)
      (csv_text (take l.sent l.rows));
}

abbrev pub decreases-loop-sent : goal.decreases-loop-sent
decreases-loop-sent g l = length l.rows - l.sent
