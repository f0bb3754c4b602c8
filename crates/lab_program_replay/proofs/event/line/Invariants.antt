use Rattle.std.proofs.Common.{◌+◌, ◌-◌, ◌≤◌, length}
use Rattle.lab_program_replay.specs.Event.{most_line}
use Rattle.lab_program_replay.proofs.ReadLemmas.{HasRead}
use Rattle.lab_program_replay.proofs.event.line.Given as goal

abbrev pub invariant-loop-reader : goal.invariant-loop-reader
invariant-loop-reader g l = (length l.line.items ≤ most_line + 1)
    × HasRead (g.B.Read.remaining l.fn.reader) (g.B.Read.remaining l.reader) l.line.items

abbrev pub decreases-loop-reader : goal.decreases-loop-reader
decreases-loop-reader g l = most_line + 1 - length l.line.items
