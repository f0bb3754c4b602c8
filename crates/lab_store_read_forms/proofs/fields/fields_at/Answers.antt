use Rattle.std.proofs.Common.{w64, ◌∙◌, ◌++◌, ap, map}
use Rattle.std.proofs.lemmas.Int.{to_z-of_z}
use Rattle.lab_store_tables.specs.Ready.{tables_of}
use Rattle.lab_store_read.proofs.Readers.{may_read, reads_both}
use Rattle.lab_store_read_forms.specs.Private.Forms.{field_by}
use Rattle.lab_store_read_forms.proofs.FormsFound.{fields_built}
use Rattle.lab_store_read.proofs.Causes.{then_so, passed_on, none_told}
use Rattle.lab_store_read_forms.proofs.Below.{own_fields, names_below}
use Rattle.std.specs.Prelude.{All}
use Rattle.lab_store_read_forms.specs.Readable.{HasWholeField}
use Rattle.lab_store_read_forms.specs.Shown.{fields_shown}
use Rattle.lab_store_read_forms.proofs.fields.fields_at.Goals as goal

pub returns-clause-reads : goal.returns-clause-reads
returns-clause-reads g c =
    let t = tables_of (g.D.Readable.state c.args.conn.now) in
    reads_both (rw (to_z-of_z w64 c.args.form c.ranges.form) at c.in_ok-heads.ensures.reads) c.in_ok-add_fields.ensures.reads (λ kept given made. made
    ∙ ap (λ l. l ++ map (field_by t) c.in_ok-heads.heads.items) c.new-made.ensures.items ∙ ap (map (field_by t)) given ∙ fields_built t c.args.form)

pub returns-in_err-heads-clause-cause : goal.returns-in_err-heads-clause-cause
returns-in_err-heads-clause-cause g c =
    let t = tables_of (g.D.Readable.state c.args.conn.now) in
    passed_on (rw (to_z-of_z w64 c.args.form c.ranges.form) at c.in_err-heads.ensures.cause) (own_fields t c.args.form)
    c.from_residual.result c.from_residual.ensures.1

pub returns-in_err-add_fields-clause-cause : goal.returns-in_err-add_fields-clause-cause
returns-in_err-add_fields-clause-cause g c =
    let t = tables_of (g.D.Readable.state c.args.conn.now) in
    passed_on {Was = λ t. All (HasWholeField t) (fields_shown t c.args.form)}
    (then_so (may_read (rw (to_z-of_z w64 c.args.form c.ranges.form) at c.in_ok-heads.ensures.reads)) c.in_ok-heads.ensures.cause.limit
    c.in_err-add_fields.ensures.reads c.in_err-add_fields.ensures.cause (λ given has. names_below t c.args.form c.in_ok-heads.heads.items given has))
    (λ has. has) c.from_residual-in_err-add_fields.result c.from_residual-in_err-add_fields.ensures.1

pub returns-clause-cause : goal.returns-clause-cause
returns-clause-cause g c = none_told (c.in_ok-add_fields.ensures.cause.limit ∙ c.in_ok-heads.ensures.cause.limit)
