-- The fault is explained by its kind.
use Rattle.clap.specs.Words.{kind_of}
use Rattle.lab_program_app.proofs.explaining.explain_order.Goals as goal

pub returns : goal.returns
returns g c = (kind_of c.order_error-error.result, c.order_error-error.ensures, c.explain.ensures)
