use Rattle.std.proofs.Common.{w64, rules, SFits}
use Rattle.std.proofs.lemmas.Int.{to_z-of_z}
use Rattle.lab_store_tables.specs.Ready.{tables_of}
use Rattle.lab_store_read.proofs.Readers.{may_and, may_end}
use Rattle.lab_store_load.specs.Lists.{counts_by}
use Rattle.lab_store_load.proofs.lists.counts_at.Goals as goal

pub returns-in_err-persons-clause-reads : goal.returns-in_err-persons-clause-reads
returns-in_err-persons-clause-reads g c = may_end c.in_err-persons.ensures.reads c.from_residual.result _ c.from_residual.ensures.1

pub returns-clause-reads : goal.returns-clause-reads
returns-clause-reads g c =
    let lab = c.args.lab.now in
    let fits : SFits w64 lab.id = search rules in
    may_and (rw (to_z-of_z w64 lab.id fits) at c.in_ok-persons.ensures.reads) (λ persons right.
    λ i. record (counts_by (tables_of (g.D.Readable.state c.args.conn.now)) lab) { persons = persons right i })
