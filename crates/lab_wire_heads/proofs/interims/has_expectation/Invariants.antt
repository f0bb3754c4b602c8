use Rattle.std.proofs.Common.{◌≡◌, length, All, map}
use Rattle.std.specs.List.{list_any}
use Rattle.httparse.specs.Spans.{IsHeaderWithin}
use Rattle.lab_wire_heads.specs.Heads.{field_at}
use Rattle.lab_wire_heads.specs.Interims.{is_expectation}
use Rattle.lab_wire_heads.proofs.interims.has_expectation.Given as goal

-- what is left has the expectation, if any has
abbrev pub invariant-loop-rest : goal.invariant-loop-rest
invariant-loop-rest l = record {
  within : All (IsHeaderWithin (length l.text)) l.rest;
  answer : list_any is_expectation (map (field_at l.text) l.rest) ≡ list_any is_expectation (map (field_at l.text) l.fields);
}

abbrev pub decreases-loop-rest : goal.decreases-loop-rest
decreases-loop-rest l = length l.rest
