use Rattle.std.proofs.Common.{◌≡◌, ◌≤◌, count_by, take}
use Rattle.httparse.specs.Spans.{span_bytes}
use Rattle.lab_wire_heads.specs.Heads.{is_host}
use Rattle.lab_wire_heads.proofs.heads.host_count.Given as goal

-- the hosts among the headers so far
abbrev pub invariant-loop-header : goal.invariant-loop-header
invariant-loop-header l = record {
  fits : l.hosts ≤ l.header-index;
  counts : l.hosts ≡ count_by (λ header. is_host (span_bytes l.text header.name)) (take l.header-index l.headers);
}
