use Rattle.std.proofs.Common.{subst, w64, rules, SFits}
use Rattle.std.proofs.lemmas.Int.{to_z-of_z}
use Rattle.lab_store_tables.specs.Ready.{tables_of}
use Rattle.lab_store_read.proofs.Causes.{cause_as}
use Rattle.lab_store_load.specs.Readable.{HasCallerOf}
use Rattle.lab_store_load.proofs.people.caller_if.Goals as goal

pub returns-in-Some-clause-cause : goal.returns-in-Some-clause-cause
returns-in-Some-clause-cause g c =
    let lab = c.args.lab.now in
    let fits : SFits w64 lab.id = search rules in
    cause_as (rw (to_z-of_z w64 lab.id fits) at c.person_at.ensures.cause)
    (λ there. subst (HasCallerOf (tables_of (g.D.Readable.state c.args.conn.now)) lab.id) c.in-Some.is there)
