use Rattle.std.proofs.Common.{◌≡◌, map, take}
use Rattle.lab_records_rules.specs.Reading.{person_line}
use Rattle.lab_records_commands.proofs.readings.person_lines.Given as goal

-- the lines of the first persons
abbrev pub invariant-loop-person : goal.invariant-loop-person
invariant-loop-person l = l.lines ≡ map (person_line l.moment) (take l.person-index l.persons)
