use Rattle.std.proofs.Common.{◌≡◌, ◌+◌, ◌≤◌, length}
use Rattle.lab_wire_heads.specs.Heads.{head_lines, has_end}
use Rattle.lab_wire_heads.proofs.heads.head_size.Given as goal

-- the lines so far and those of what is left are those of the text
abbrev pub invariant-loop-end : goal.invariant-loop-end
invariant-loop-end l = record {
  fits : l.lines + length l.rest ≤ length l.text;
  lines : l.lines + length (head_lines l.rest) ≡ length (head_lines l.text);
  end : has_end l.rest ≡ has_end l.text;
}

abbrev pub decreases-loop-end : goal.decreases-loop-end
decreases-loop-end l = length l.rest
