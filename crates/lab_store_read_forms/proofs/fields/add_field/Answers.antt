use Rattle.std.proofs.Common.{[], ◌∷◌, ◌++◌, ap, ◌∙◌}
use Rattle.lab_store_read.proofs.Readers.{may_end, may_and}
use Rattle.lab_store_read.proofs.Causes.{passed_on}
use Rattle.lab_store_read_forms.proofs.fields.add_field.Goals as goal

pub returns-in_err-field-clause-reads : goal.returns-in_err-field-clause-reads
returns-in_err-field-clause-reads g c = may_end c.in_err-field.ensures.reads c.from_residual.result _ c.from_residual.ensures.1

pub returns-in_err-push-clause-reads : goal.returns-in_err-push-clause-reads
returns-in_err-push-clause-reads g c = may_end c.in_ok-field.ensures.reads c.from_residual-in_err-push.result _ c.from_residual-in_err-push.ensures.1

pub returns-clause-reads : goal.returns-clause-reads
returns-clause-reads g c = may_and c.in_ok-field.ensures.reads (λ is. c.in_ok-push.ensures.items ∙ ap (λ one. c.args.made.now.items ++ one ∷ []) is)

pub returns-in_err-field-clause-cause : goal.returns-in_err-field-clause-cause
returns-in_err-field-clause-cause g c = passed_on c.in_err-field.ensures.cause (λ has. has) c.from_residual.result c.from_residual.ensures.1
