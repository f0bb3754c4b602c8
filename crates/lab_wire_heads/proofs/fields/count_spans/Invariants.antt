use Rattle.std.proofs.Common.{◌≡◌, ◌≤◌, count_by, take}
use Rattle.lab_wire_heads.specs.Heads.{field_at}
use Rattle.lab_wire_heads.specs.Fields.{is_named}
use Rattle.lab_wire_heads.proofs.fields.count_spans.Given as goal

-- the fields of the name so far
abbrev pub invariant-loop-field : goal.invariant-loop-field
invariant-loop-field l = record {
  fits : l.count ≤ l.field-index;
  counts : l.count ≡ count_by (λ field. is_named l.name (field_at l.text field)) (take l.field-index l.fields);
}
