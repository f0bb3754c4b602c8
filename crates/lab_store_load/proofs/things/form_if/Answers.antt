use Rattle.std.proofs.Common.{option_and_then, sym, ap, subst, ◌∙◌, IfSome}
use Rattle.lab_records_kept.specs.Parts.{form_meant}
use Rattle.lab_store_tables.specs.Ready.{tables_of}
use Rattle.lab_store_read.proofs.Causes.{cause_as}
use Rattle.lab_store_read.proofs.Readers.{none_read, may_read, reads_as}
use Rattle.lab_store_read_records.specs.Laboratories.{lab_by}
use Rattle.lab_store_load.specs.Readable.{HasFormOf}
use Rattle.lab_store_load.proofs.things.form_if.Goals as goal

pub returns-in-Some-clause-reads : goal.returns-in-Some-clause-reads
returns-in-Some-clause-reads g c =
    let t = tables_of (g.D.Readable.state c.args.conn.now) in
    may_read (reads_as c.form_wanted.ensures.reads (λ _ is. is ∙ ap (option_and_then (form_meant (lab_by t c.args.lab.now))) (sym c.in-Some.is)))

pub returns-in-Some-clause-cause : goal.returns-in-Some-clause-cause
returns-in-Some-clause-cause g c =
    let t = tables_of (g.D.Readable.state c.args.conn.now) in
    cause_as c.form_wanted.ensures.cause (λ there. subst (λ o. IfSome o (HasFormOf t c.args.lab.now.id)) c.in-Some.is there)

pub returns-in-None-clause-reads : goal.returns-in-None-clause-reads
returns-in-None-clause-reads g c =
    let t = tables_of (g.D.Readable.state c.args.conn.now) in
    none_read (sym (ap (option_and_then (form_meant (lab_by t c.args.lab.now))) c.in-None.is))
