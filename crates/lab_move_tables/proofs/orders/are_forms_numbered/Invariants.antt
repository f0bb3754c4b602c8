use Rattle.std.proofs.Common.{◌≡◌, [], take, drop}
use Rattle.lab_move_tables.specs.Private.Orders.{are_forms_numbered}
use Rattle.lab_move_tables.proofs.orders.are_forms_numbered.Given as goal

-- what is left decides
abbrev pub invariant-loop-at : goal.invariant-loop-at
invariant-loop-at l = are_forms_numbered [] l.forms ≡ are_forms_numbered (take l.at l.forms) (drop l.at l.forms)
