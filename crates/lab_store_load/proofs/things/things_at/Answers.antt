use Rattle.lab_store_read.proofs.Causes.{passed_on, passed_so, then_so}
use Rattle.lab_store_read.proofs.Readers.{may_both}
use Rattle.lab_store_load.proofs.ThingLemmas.{same_things}
use Rattle.lab_store_load.proofs.things.things_at.Goals as goal

pub returns-in_err-form-clause-cause : goal.returns-in_err-form-clause-cause
returns-in_err-form-clause-cause g c = passed_on c.in_err-form.ensures.cause (λ there. there.form) c.from_residual.result c.from_residual.ensures.1

pub returns-in_err-filed-clause-cause : goal.returns-in_err-filed-clause-cause
returns-in_err-filed-clause-cause g c =
    passed_so (then_so c.in_ok-form.ensures.reads c.in_ok-form.ensures.cause.limit c.in_err-filed.ensures.reads c.in_err-filed.ensures.cause (λ form there. there.filed))
    c.from_residual-in_err-filed.result c.from_residual-in_err-filed.ensures.1

pub returns-clause-reads : goal.returns-clause-reads
returns-clause-reads g c = may_both c.in_ok-form.ensures.reads c.in_ok-filed.ensures.reads (λ form filed. same_things _ _ form filed)
