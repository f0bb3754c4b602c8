use Rattle.std.proofs.Common.{◌≡◌, ◌+◌, ◌≤◌, length}
use Rattle.lab_wire_heads.specs.Heads.{without_front, front_length}
use Rattle.lab_wire_heads.proofs.heads.without_front.Given as goal

-- what was passed over, and what is left to
abbrev pub invariant-loop-rest : goal.invariant-loop-rest
invariant-loop-rest l = record {
  text : without_front l.rest ≡ without_front l.bytes;
  front : l.front + front_length l.rest ≡ front_length l.bytes;
  fits : l.front + length l.rest ≤ length l.bytes;
}

abbrev pub decreases-loop-rest : goal.decreases-loop-rest
decreases-loop-rest l = length l.rest
