use Rattle.std.proofs.lemmas.Result.{err_from_is_err_and}
use Rattle.lab_store_read.proofs.Causes.{passed_on, passed_so, then_so}
use Rattle.lab_store_read.proofs.Readers.{may_end, may_both, may_fail}
use Rattle.lab_store_load.specs.Private.Parts.{slice_of}
use Rattle.lab_store_load.proofs.loading.slice_with.Goals as goal

pub returns-in_err-people-clause-reads : goal.returns-in_err-people-clause-reads
returns-in_err-people-clause-reads g c = may_end c.in_err-people.ensures.reads c.from_residual.result _ c.from_residual.ensures.1

pub returns-in_err-people-clause-cause : goal.returns-in_err-people-clause-cause
returns-in_err-people-clause-cause g c = passed_on c.in_err-people.ensures.cause (λ there. there.0) c.from_residual.result c.from_residual.ensures.1

pub returns-in_err-things-clause-reads : goal.returns-in_err-things-clause-reads
returns-in_err-things-clause-reads g c =
    rw (err_from_is_err_and c.from_residual-in_err-things.result c.from_residual-in_err-things.ensures.1).1
    (may_fail c.in_ok-people.ensures.reads c.in_err-things.ensures.reads)

pub returns-in_err-things-clause-cause : goal.returns-in_err-things-clause-cause
returns-in_err-things-clause-cause g c =
    passed_so (then_so c.in_ok-people.ensures.reads c.in_ok-people.ensures.cause.limit c.in_err-things.ensures.reads c.in_err-things.ensures.cause (λ people there. there.1))
    c.from_residual-in_err-things.result c.from_residual-in_err-things.ensures.1

pub returns-clause-reads : goal.returns-clause-reads
returns-clause-reads g c =
    may_both c.in_ok-people.ensures.reads c.in_ok-things.ensures.reads
    (λ people things. λ i. slice_of c.args.head c.args.counts c.args.listed (people i) (things i))
