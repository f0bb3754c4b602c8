-- The fault is that of the words, or that memory ran out.
use Rattle.std.proofs.Common.{inl, inr}
use Rattle.lab_program_app.proofs.explaining.order_error.Goals as goal

pub returns-in-Ok : goal.returns-in-Ok
returns-in-Ok c = inr (inl c.in-Ok.ensures)
