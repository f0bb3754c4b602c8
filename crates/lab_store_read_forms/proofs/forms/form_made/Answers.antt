use Rattle.std.proofs.Common.{sym, ◌∙◌}
use Rattle.lab_store_read_forms.proofs.FormsFound.{made_is}
use Rattle.lab_store_read_forms.proofs.FormsMade.{no_form}
use Rattle.lab_store_read_forms.proofs.forms.form_made.Goals as goal

pub returns-in-Ok-clause-value : goal.returns-in-Ok-clause-value
returns-in-Ok-clause-value c = made_is _ _ _ (sym c.in-Ok.is ∙ c.make.ensures.made)

pub returns-in-Err-clause-fault : goal.returns-in-Err-clause-fault
returns-in-Err-clause-fault c told = no_form c.args.fields.items c.args.approval _ (sym c.make.ensures.made ∙ c.in-Err.is)
