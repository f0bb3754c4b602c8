use Rattle.std.proofs.Common.{◌≡◌, map, take}
use Rattle.lab_records_rules.specs.Reading.{version_line}
use Rattle.lab_records_rules.proofs.reading.version_lines.Given as goal

-- the lines of the first versions
abbrev pub invariant-loop-place : goal.invariant-loop-place
invariant-loop-place l = l.lines ≡ map (version_line l.lab l.found) (take l.place l.found.versions)
