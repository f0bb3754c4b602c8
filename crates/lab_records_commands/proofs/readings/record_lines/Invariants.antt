use Rattle.std.proofs.Common.{◌≡◌, map, take}
use Rattle.lab_records_rules.specs.Reading.{record_line}
use Rattle.lab_records_commands.proofs.readings.record_lines.Given as goal

-- the lines of the first records
abbrev pub invariant-loop-kept : goal.invariant-loop-kept
invariant-loop-kept l = l.lines ≡ map record_line (take l.kept-index l.records)
