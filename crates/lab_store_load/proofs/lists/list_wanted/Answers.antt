use Rattle.std.proofs.Common.{subst}
use Rattle.lab_store_tables.specs.Ready.{tables_of}
use Rattle.lab_store_read.proofs.Causes.{cause_as}
use Rattle.lab_store_load.specs.Readable.{HasListOf}
use Rattle.lab_store_load.proofs.lists.list_wanted.Goals as goal

pub returns-in-Persons-clause-cause : goal.returns-in-Persons-clause-cause
returns-in-Persons-clause-cause g c =
    let t = tables_of (g.D.Readable.state c.args.conn.now) in
    cause_as c.persons_listed.ensures.cause (λ there. subst (HasListOf t c.args.lab.now.id) c.in-Persons.is there)

pub returns-in-Records-clause-cause : goal.returns-in-Records-clause-cause
returns-in-Records-clause-cause g c =
    let t = tables_of (g.D.Readable.state c.args.conn.now) in
    cause_as c.records_listed.ensures.cause (λ there. subst (HasListOf t c.args.lab.now.id) c.in-Records.is there)

pub returns-in-Trail-clause-cause : goal.returns-in-Trail-clause-cause
returns-in-Trail-clause-cause g c =
    let t = tables_of (g.D.Readable.state c.args.conn.now) in
    cause_as c.trail_listed.ensures.cause (λ there. subst (HasListOf t c.args.lab.now.id) c.in-Trail.is there)
