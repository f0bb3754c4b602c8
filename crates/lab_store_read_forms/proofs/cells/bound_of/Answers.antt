use Rattle.lab_store_read.proofs.Unread.{no_text}
use Rattle.lab_store_read_forms.proofs.Values.{text_unmade}
use Rattle.lab_store_read_forms.proofs.cells.bound_of.Goals as goal

pub returns-in_err-from_str-in-Ok-clause-fault : goal.returns-in_err-from_str-in-Ok-clause-fault
returns-in_err-from_str-in-Ok-clause-fault c = text_unmade c.args.text.now c.in-Ok.ensures.cases.1 c.from_residual.result c.from_residual.ensures.1

pub returns-in-Err-clause-fault : goal.returns-in-Err-clause-fault
returns-in-Err-clause-fault c = no_text c.args.text.now _ c.in-Err.ensures.cases.0
