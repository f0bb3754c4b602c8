use Rattle.std.proofs.Common.{w64, ◌∙◌, sym}
use Rattle.std.proofs.lemmas.Int.{to_z-of_z}
use Rattle.lab_store_tables.specs.Ready.{tables_of}
use Rattle.lab_store_read.proofs.Readers.{may_read, reads_then}
use Rattle.lab_store_read_forms.proofs.FormsFound.{form_is}
use Rattle.lab_store_read.proofs.Causes.{made_so, then_so, passed_on}
use Rattle.lab_store_read_forms.proofs.Below.{form_own, form_there, form_below}
use Rattle.lab_store_read_forms.proofs.forms.form_at.Goals as goal

pub returns-clause-reads : goal.returns-clause-reads
returns-clause-reads g c =
    reads_then (rw (to_z-of_z w64 c.args.id c.ranges.id) at c.in_ok-head.ensures.reads) (may_read c.form_whole.ensures.reads) (λ kept found form is. is
    ∙ form_is (tables_of (g.D.Readable.state c.args.conn.now)) c.args.id c.in-Some.head (sym found ∙ c.in-Some.is))

pub returns-in_err-head-clause-cause : goal.returns-in_err-head-clause-cause
returns-in_err-head-clause-cause g c =
    let t = tables_of (g.D.Readable.state c.args.conn.now) in
    passed_on (rw (to_z-of_z w64 c.args.id c.ranges.id) at c.in_err-head.ensures.cause) (form_own t c.args.id) c.from_residual.result c.from_residual.ensures.1

pub returns-in_default-clause-cause : goal.returns-in_default-clause-cause
returns-in_default-clause-cause g c =
    let t = tables_of (g.D.Readable.state c.args.conn.now) in
    made_so (rw (to_z-of_z w64 c.args.id c.ranges.id) at c.in_ok-head.ensures.reads) c.in_ok-head.ensures.cause.limit
    (λ found has. absurd (form_there t c.args.id has (sym found ∙ c.in_default.is)))

pub returns-clause-cause : goal.returns-clause-cause
returns-clause-cause g c =
    let t = tables_of (g.D.Readable.state c.args.conn.now) in
    then_so (may_read (rw (to_z-of_z w64 c.args.id c.ranges.id) at c.in_ok-head.ensures.reads)) c.in_ok-head.ensures.cause.limit
    (may_read c.form_whole.ensures.reads) c.form_whole.ensures.cause (λ found has. form_below t c.args.id has c.in-Some.head (sym found ∙ c.in-Some.is))
