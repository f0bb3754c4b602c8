use Rattle.std.proofs.Common.{◌≡◌, map, take, Some, None}
use Rattle.lab_records_versions.specs.Entering.{first_altered_refusal, entered_row}
use Rattle.lab_records_versions.proofs.amending.altered_rows.Given as goal

-- the first items are refused for nothing, and their rows stand
abbrev pub invariant-loop-item : goal.invariant-loop-item
invariant-loop-item l = record {
  nothing : first_altered_refusal l.kept (take l.item-index l.items) ≡ None;
  rows : l.rows.items
      ≡ map (λ item. entered_row item (Some l.reason) l.caller l.moment) (take l.item-index l.items);
}
