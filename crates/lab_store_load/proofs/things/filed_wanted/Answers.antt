use Rattle.std.proofs.Common.{◌∙◌, ap, sym, subst, w64, rules, SFits}
use Rattle.std.proofs.lemmas.Int.{to_z-of_z}
use Rattle.lab_records_kept.specs.Parts.{record_meant}
use Rattle.lab_store_tables.specs.Ready.{tables_of}
use Rattle.lab_store_read.proofs.Causes.{cause_as}
use Rattle.lab_store_read.proofs.Readers.{reads_as}
use Rattle.lab_store_read_records.specs.Laboratories.{lab_by}
use Rattle.lab_store_load.specs.Readable.{HasFiledOf}
use Rattle.lab_store_load.proofs.things.filed_wanted.Goals as goal

pub returns-in-Numbered-clause-reads : goal.returns-in-Numbered-clause-reads
returns-in-Numbered-clause-reads g c =
    let t = tables_of (g.D.Readable.state c.args.conn.now) in
    let lab = c.args.lab.now in
    let fits : SFits w64 lab.id = search rules in
    reads_as (rw (to_z-of_z w64 lab.id fits) at c.numbered_at.ensures.reads) (λ filed is. is ∙ ap (record_meant (lab_by t lab)) (sym c.in-Numbered.is))

pub returns-in-About-clause-reads : goal.returns-in-About-clause-reads
returns-in-About-clause-reads g c =
    let t = tables_of (g.D.Readable.state c.args.conn.now) in
    let lab = c.args.lab.now in
    let fits : SFits w64 lab.id = search rules in
    reads_as (rw (to_z-of_z w64 lab.id fits) at c.about_at.ensures.reads) (λ filed is. is ∙ ap (record_meant (lab_by t lab)) (sym c.in-About.is))

pub returns-in-Numbered-clause-cause : goal.returns-in-Numbered-clause-cause
returns-in-Numbered-clause-cause g c =
    let lab = c.args.lab.now in
    let fits : SFits w64 lab.id = search rules in
    cause_as (rw (to_z-of_z w64 lab.id fits) at c.numbered_at.ensures.cause)
    (λ there. subst (HasFiledOf (tables_of (g.D.Readable.state c.args.conn.now)) lab.id) c.in-Numbered.is there)

pub returns-in-About-clause-cause : goal.returns-in-About-clause-cause
returns-in-About-clause-cause g c =
    let lab = c.args.lab.now in
    let fits : SFits w64 lab.id = search rules in
    cause_as (rw (to_z-of_z w64 lab.id fits) at c.about_at.ensures.cause)
    (λ there. subst (HasFiledOf (tables_of (g.D.Readable.state c.args.conn.now)) lab.id) c.in-About.is there)
