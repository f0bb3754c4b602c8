use Rattle.std.proofs.Common.{◌≡◌, length, All, map}
use Rattle.httparse.specs.Spans.{IsHeaderWithin}
use Rattle.lab_wire_heads.specs.Heads.{field_at}
use Rattle.lab_wire_heads.specs.Fields.{value_named}
use Rattle.lab_wire_heads.proofs.fields.find_value.Given as goal

-- what is left has the value
abbrev pub invariant-loop-rest : goal.invariant-loop-rest
invariant-loop-rest l = record {
  within : All (IsHeaderWithin (length l.text)) l.rest;
  value : value_named l.name (map (field_at l.text) l.rest) ≡ value_named l.name (map (field_at l.text) l.fields);
}

abbrev pub decreases-loop-rest : goal.decreases-loop-rest
decreases-loop-rest l = length l.rest
