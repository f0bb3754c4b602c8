use Rattle.std.proofs.Common.{[], ◌∷◌, ◌++◌, ap, ◌∙◌}
use Rattle.lab_store_read.proofs.Readers.{reads_fail, reads_and}
use Rattle.lab_store_read.proofs.Causes.{passed_on}
use Rattle.lab_store_read_forms.proofs.filed.add_formed.Goals as goal

pub returns-in_err-kept-clause-reads : goal.returns-in_err-kept-clause-reads
returns-in_err-kept-clause-reads g c = reads_fail c.in_err-kept.ensures.reads c.from_residual.result _ c.from_residual.ensures.1

pub returns-in_err-push-clause-reads : goal.returns-in_err-push-clause-reads
returns-in_err-push-clause-reads g c = reads_fail c.in_ok-kept.ensures.reads c.from_residual-in_err-push.result _ c.from_residual-in_err-push.ensures.1

pub returns-clause-reads : goal.returns-clause-reads
returns-clause-reads g c = reads_and c.in_ok-kept.ensures.reads (λ kept is. c.in_ok-push.ensures.items ∙ ap (λ one. c.args.made.now.items ++ one ∷ []) (c.into_kept.ensures ∙ is))

pub returns-in_err-kept-clause-cause : goal.returns-in_err-kept-clause-cause
returns-in_err-kept-clause-cause g c = passed_on c.in_err-kept.ensures.cause (λ has. has) c.from_residual.result c.from_residual.ensures.1
