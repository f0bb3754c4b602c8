use Rattle.std.proofs.Common.{ap, w64, rules, SFits}
use Rattle.std.proofs.lemmas.Int.{to_z-of_z}
use Rattle.lab_store_read.proofs.Readers.{may_end, may_and}
use Rattle.lab_store_read.proofs.Causes.{passed_on}
use Rattle.lab_store_read_records.proofs.Found.{entry_with}
use Rattle.lab_store_read_records.proofs.entries.entry_whole.Goals as goal

pub returns-in_err-person-clause-reads : goal.returns-in_err-person-clause-reads
returns-in_err-person-clause-reads g c = may_end c.in_err-person.ensures.reads c.from_residual.result _ c.from_residual.ensures.1

pub returns-in_err-person-clause-cause : goal.returns-in_err-person-clause-cause
returns-in_err-person-clause-cause g c =
    let fits : SFits w64 c.args.head.person = search rules in
    passed_on (rw (to_z-of_z w64 c.args.head.person fits) at c.in_err-person.ensures.cause) (λ has. has) c.from_residual.result c.from_residual.ensures.1

pub returns-clause-reads : goal.returns-clause-reads
returns-clause-reads g c =
    let fits : SFits w64 c.args.head.person = search rules in
    may_and (rw (to_z-of_z w64 c.args.head.person fits) at c.in_ok-person.ensures.reads)
    (λ once are. let it = once are in (ap (entry_with c.args.head) it.0, it.1))
