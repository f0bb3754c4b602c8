use Rattle.std.proofs.Common.{ap}
use Rattle.std.proofs.lemmas.Result.{err_from_is_err_and}
use Rattle.lab_store_read.proofs.Causes.{passed_on, passed_so, then_so}
use Rattle.lab_store_read.proofs.Readers.{may_both, may_fail}
use Rattle.lab_store_load.specs.declared.people.Callers.{Callers}
use Rattle.lab_store_load.proofs.PeopleLemmas.{same_people}
use Rattle.lab_store_load.proofs.people.people_at.Goals as goal

pub returns-in_err-callers-clause-cause : goal.returns-in_err-callers-clause-cause
returns-in_err-callers-clause-cause g c = passed_on c.in_err-callers.ensures.cause (λ there. there.callers) c.from_residual.result c.from_residual.ensures.1

pub returns-in_err-person-clause-reads : goal.returns-in_err-person-clause-reads
returns-in_err-person-clause-reads g c =
    rw (err_from_is_err_and c.from_residual-in_err-person.result c.from_residual-in_err-person.ensures.1).1
    (may_fail c.in_ok-callers.ensures.reads c.in_err-person.ensures.reads)

pub returns-in_err-person-clause-cause : goal.returns-in_err-person-clause-cause
returns-in_err-person-clause-cause g c =
    passed_so (then_so c.in_ok-callers.ensures.reads c.in_ok-callers.ensures.cause.limit c.in_err-person.ensures.reads c.in_err-person.ensures.cause (λ callers there. there.person))
    c.from_residual-in_err-person.result c.from_residual-in_err-person.ensures.1

pub returns-clause-reads : goal.returns-clause-reads
returns-clause-reads g c = may_both c.in_ok-callers.ensures.reads c.in_ok-person.ensures.reads (λ callers person.
    same_people _ _ (ap (λ (it : Callers). it.session) callers) (ap (λ (it : Callers). it.caller) callers) person)
