use Rattle.std.proofs.Common.{◌≡◌, None, drop}
use Rattle.std.specs.Option.{option_copied}
use Rattle.lab_move_tables.specs.Private.Orders.{are_in_order_after}
use Rattle.lab_move_tables.proofs.orders.are_in_order.Given as goal

-- what is left decides
abbrev pub invariant-loop-person : goal.invariant-loop-person
invariant-loop-person l = are_in_order_after None l.persons ≡ are_in_order_after (option_copied l.before) (drop l.person-index l.persons)
