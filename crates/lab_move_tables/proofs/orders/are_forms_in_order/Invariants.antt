use Rattle.std.proofs.Common.{◌≡◌, None, drop}
use Rattle.std.specs.Option.{option_copied}
use Rattle.lab_move_tables.specs.Private.Orders.{are_forms_in_order_after}
use Rattle.lab_move_tables.proofs.orders.are_forms_in_order.Given as goal

-- what is left decides
abbrev pub invariant-loop-form : goal.invariant-loop-form
invariant-loop-form l = are_forms_in_order_after None l.forms ≡ are_forms_in_order_after (option_copied l.before) (drop l.form-index l.forms)
