-- those so far were moved
use Rattle.std.proofs.Common.{take}
use Rattle.sqlite.specs.Held.{state}
use Rattle.lab_move_tables.specs.Standing.{StandsBy}
use Rattle.lab_move.proofs.EachLab.{HasMoved}
use Rattle.lab_move.proofs.filling.move_each.Given as goal

abbrev pub invariant-loop-place : goal.invariant-loop-place
invariant-loop-place g l =
    HasMoved (StandsBy l.fn.older) (take l.place l.codes) (g.D.Readable.state l.fn.old) (g.D.Readable.state l.old) (state g.T.Store l.fn.new) (state g.T.Store l.new)
