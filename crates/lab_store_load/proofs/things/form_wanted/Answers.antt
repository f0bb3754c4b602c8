use Rattle.std.proofs.Common.{subst, w64, rules, SFits}
use Rattle.std.proofs.lemmas.Int.{to_z-of_z}
use Rattle.lab_store_tables.specs.Ready.{tables_of}
use Rattle.lab_store_read.proofs.Causes.{cause_as}
use Rattle.lab_store_load.specs.Readable.{HasFormOf}
use Rattle.lab_store_load.proofs.things.form_wanted.Goals as goal

pub returns-in-Last-clause-cause : goal.returns-in-Last-clause-cause
returns-in-Last-clause-cause g c =
    let lab = c.args.lab.now in
    let fits : SFits w64 lab.id = search rules in
    cause_as (rw (to_z-of_z w64 lab.id fits) at c.last_form_at.ensures.cause)
    (λ there. subst (HasFormOf (tables_of (g.D.Readable.state c.args.conn.now)) lab.id) c.in-Last.is there)

pub returns-in-Exact-clause-cause : goal.returns-in-Exact-clause-cause
returns-in-Exact-clause-cause g c =
    let lab = c.args.lab.now in
    let fits : SFits w64 lab.id = search rules in
    cause_as (rw (to_z-of_z w64 lab.id fits) at c.exact_form_at.ensures.cause)
    (λ there. subst (HasFormOf (tables_of (g.D.Readable.state c.args.conn.now)) lab.id) c.in-Exact.is there)
