use Rattle.std.proofs.Common.{◌∙◌, ap, sym, subst, option_and_then, w64, rules, SFits}
use Rattle.std.proofs.lemmas.Int.{to_z-of_z}
use Rattle.lab_records_kept.specs.Lookups.{session_at}
use Rattle.lab_store_tables.specs.Ready.{tables_of}
use Rattle.lab_store_read.proofs.Causes.{cause_as}
use Rattle.lab_store_read.proofs.Readers.{may_read, reads_as}
use Rattle.lab_store_read_records.specs.Laboratories.{lab_by}
use Rattle.lab_store_load.specs.Readable.{HasSessionOf}
use Rattle.lab_store_load.proofs.people.session_if.Goals as goal

pub returns-in-Some-clause-reads : goal.returns-in-Some-clause-reads
returns-in-Some-clause-reads g c =
    let t = tables_of (g.D.Readable.state c.args.conn.now) in
    let lab = c.args.lab.now in
    let fits : SFits w64 lab.id = search rules in
    may_read (reads_as (rw (to_z-of_z w64 lab.id fits) at c.session_at.ensures.reads)
    (λ session is. is ∙ ap (option_and_then (session_at (lab_by t lab))) (sym c.in-Some.is)))

pub returns-in-Some-clause-cause : goal.returns-in-Some-clause-cause
returns-in-Some-clause-cause g c =
    let lab = c.args.lab.now in
    let fits : SFits w64 lab.id = search rules in
    cause_as (rw (to_z-of_z w64 lab.id fits) at c.session_at.ensures.cause)
    (λ there. subst (HasSessionOf (tables_of (g.D.Readable.state c.args.conn.now)) lab.id) c.in-Some.is there)
