use Rattle.std.proofs.Common.{sym, ap, subst, ◌∙◌, IfSome}
use Rattle.lab_store_tables.specs.Ready.{tables_of}
use Rattle.lab_store_read.proofs.Causes.{cause_as}
use Rattle.lab_store_read.proofs.Readers.{may_read, reads_as}
use Rattle.lab_store_read_records.specs.Laboratories.{lab_by}
use Rattle.lab_store_load.specs.Lists.{listed_by}
use Rattle.lab_store_load.specs.Readable.{HasListOf}
use Rattle.lab_store_load.proofs.lists.listed_at.Goals as goal

pub returns-in-Some-clause-reads : goal.returns-in-Some-clause-reads
returns-in-Some-clause-reads g c =
    let t = tables_of (g.D.Readable.state c.args.conn.now) in
    may_read (reads_as c.list_wanted.ensures.reads (λ _ is. is ∙ ap (listed_by (lab_by t c.args.lab.now)) (sym c.in-Some.is)))

pub returns-in-Some-clause-cause : goal.returns-in-Some-clause-cause
returns-in-Some-clause-cause g c =
    let t = tables_of (g.D.Readable.state c.args.conn.now) in
    cause_as c.list_wanted.ensures.cause (λ there. subst (λ o. IfSome o (HasListOf t c.args.lab.now.id)) c.in-Some.is there)
