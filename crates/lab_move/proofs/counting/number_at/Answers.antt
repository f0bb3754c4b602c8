use Rattle.std.proofs.Common.{◌≡◌, None, Some, rules}
use Rattle.std.specs.Prelude.{slice_get}
use Rattle.lab_move.proofs.Matching.{no_row, not_shown}
use Rattle.lab_move.proofs.counting.number_at.Goals as goal

pub returns-in-Some-clause-fault : goal.returns-in-Some-clause-fault
returns-in-Some-clause-fault c =
    let first : slice_get c.args.rows.now 0 ≡ Some c.in-Some.row.now = search rules in
    not_shown c.args.rows.now c.in-Some.row.now c.args.at first c.id_of.result c.id_of.ensures.fault

pub returns-in-None-clause-fault : goal.returns-in-None-clause-fault
returns-in-None-clause-fault c =
    let none : slice_get c.args.rows.now 0 ≡ None = search rules in
    no_row c.args.rows.now c.args.at none
