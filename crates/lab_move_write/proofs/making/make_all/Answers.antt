use Rattle.std.proofs.Common.{map, ap}
use Rattle.lab_move_write.proofs.MadeTables.{makes_then, makes_stopped}
use Rattle.lab_move_write.proofs.making.make_all.Goals as goal

pub returns-in_err-make_each : goal.returns-in_err-make_each
returns-in_err-make_each g c =
    makes_stopped c.from_residual.result c.from_residual.ensures.1 (c.in_err-make_each.ensures (ap (map (λ text. text.now)) c.as_slice.ensures))

pub returns : goal.returns
returns g c = makes_then (c.in_ok-make_each.ensures (ap (map (λ text. text.now)) c.as_slice.ensures)) c.make_index.ensures
