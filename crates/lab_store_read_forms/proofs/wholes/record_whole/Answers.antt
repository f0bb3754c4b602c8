use Rattle.std.proofs.Common.{w64, ◌∙◌, ap, rules, SFits}
use Rattle.std.proofs.lemmas.Int.{to_z-of_z}
use Rattle.lab_records_kept.specs.declared.records.FormVersion.{FormVersion}
use Rattle.lab_store_tables.specs.Meaning.{leaves_of}
use Rattle.lab_store_tables.specs.Ready.{tables_of}
use Rattle.lab_store_read.proofs.Readers.{reads_fail, may_read, reads_then}
use Rattle.lab_store_read.proofs.Causes.{then_so, passed_on}
use Rattle.lab_store_read_forms.specs.Wholes.{record_with}
use Rattle.lab_store_read_forms.proofs.wholes.record_whole.Goals as goal

pub returns-in_err-form-clause-reads : goal.returns-in_err-form-clause-reads
returns-in_err-form-clause-reads g c = reads_fail c.in_err-form.ensures.reads c.from_residual.result _ c.from_residual.ensures.1

pub returns-clause-reads : goal.returns-clause-reads
returns-clause-reads g c =
    let t = tables_of (g.D.Readable.state c.args.conn.now) in
    let head = c.args.head in
    let fits : SFits w64 head.form = search rules in
    reads_then (rw (to_z-of_z w64 head.form fits) at c.in_ok-form.ensures.reads) (may_read c.record_by_form.ensures.reads)
    (λ kept form it is. is ∙ ap (λ (one : FormVersion). record_with c.args.lab.now head one (leaves_of t head.id)) form)

pub returns-in_err-form-clause-cause : goal.returns-in_err-form-clause-cause
returns-in_err-form-clause-cause g c =
    let fits : SFits w64 c.args.head.form = search rules in
    passed_on (rw (to_z-of_z w64 c.args.head.form fits) at c.in_err-form.ensures.cause) (λ has. has.form) c.from_residual.result c.from_residual.ensures.1

pub returns-clause-cause : goal.returns-clause-cause
returns-clause-cause g c =
    let fits : SFits w64 c.args.head.form = search rules in
    then_so (may_read (rw (to_z-of_z w64 c.args.head.form fits) at c.in_ok-form.ensures.reads)) c.in_ok-form.ensures.cause.limit
    (may_read c.record_by_form.ensures.reads) c.record_by_form.ensures.cause (λ form has. has)
