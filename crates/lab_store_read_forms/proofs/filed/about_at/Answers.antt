use Rattle.std.proofs.Common.{w64, ◌∙◌, ap, option_map}
use Rattle.std.proofs.lemmas.Int.{to_z-of_z}
use Rattle.lab_store_tables.specs.Ready.{tables_of}
use Rattle.lab_store_read.proofs.Readers.{may_read, reads_then}
use Rattle.lab_store_read_forms.specs.Wholes.{record_by}
use Rattle.lab_store_read_forms.proofs.FiledFound.{about_found}
use Rattle.lab_store_read.proofs.Causes.{then_so, passed_on}
use Rattle.lab_store_read_forms.proofs.Below.{first_own, about_below}
use Rattle.lab_store_read_records.specs.Readable.{HasRecord}
use Rattle.lab_store_read_records.specs.Retrieved.{abouts_shown}
use Rattle.lab_store_read_forms.specs.Readable.{HasWholeRecord}
use Rattle.lab_store_read_forms.proofs.filed.about_at.Goals as goal

pub returns-clause-reads : goal.returns-clause-reads
returns-clause-reads g c =
    let t = tables_of (g.D.Readable.state c.args.conn.now) in
    let code = c.args.code.now in
    reads_then (rw (to_z-of_z w64 c.args.lab c.ranges.lab) at c.in_ok-head.ensures.reads) c.record_if.ensures.reads (λ kept found it is. is
    ∙ ap (option_map (record_by t code)) found ∙ about_found t kept.rows code c.args.lab c.args.form.now c.args.sample.now)

pub returns-in_err-head-clause-cause : goal.returns-in_err-head-clause-cause
returns-in_err-head-clause-cause g c =
    let t = tables_of (g.D.Readable.state c.args.conn.now) in
    passed_on (rw (to_z-of_z w64 c.args.lab c.ranges.lab) at c.in_err-head.ensures.cause)
    (first_own (HasWholeRecord t) HasRecord (λ row has. has.own) (abouts_shown t c.args.lab c.args.form.now c.args.sample.now))
    c.from_residual.result c.from_residual.ensures.1

pub returns-clause-cause : goal.returns-clause-cause
returns-clause-cause g c =
    let t = tables_of (g.D.Readable.state c.args.conn.now) in
    then_so (may_read (rw (to_z-of_z w64 c.args.lab c.ranges.lab) at c.in_ok-head.ensures.reads)) c.in_ok-head.ensures.cause.limit
    c.record_if.ensures.reads c.record_if.ensures.cause (λ found has. about_below t c.args.lab c.args.form.now c.args.sample.now c.in_ok-head.head found has)
