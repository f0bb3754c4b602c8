use Rattle.std.proofs.Common.{◌≡◌, map, take}
use Rattle.serde_json.specs.View.{view}
use Rattle.lab_wire_replies.specs.Records.{value_data}
use Rattle.lab_wire_replies.proofs.records.values_list.Given as goal

-- the values of the rows that were passed
abbrev pub invariant-loop-row : goal.invariant-loop-row
invariant-loop-row l = map view l.list.items ≡ map value_data (take l.row-index l.rows)
