-- The form is read by the row's id of it.
use Rattle.std.proofs.Common.{◌∙◌, ap, w64, rules, SFits}
use Rattle.std.proofs.lemmas.Int.{to_z-of_z}
use Rattle.lab_store_read.proofs.Readers.{reads_and}
use Rattle.lab_store_read.proofs.Causes.{none_told, passed_so}
use Rattle.lab_store_read_forms.specs.Wholes.{cover_of}
use Rattle.lab_store_read_copies.proofs.covers.cover_at.Goals as goal

pub returns-clause-reads : goal.returns-clause-reads
returns-clause-reads g c =
    let head = c.args.head in
    let fits : SFits w64 head.form = search rules in
    reads_and (rw (to_z-of_z w64 head.form fits) at c.in_ok-form.ensures.reads) (λ kept form. c.cover_of.ensures ∙ ap (cover_of head) form)

pub returns-in_err-form-clause-cause : goal.returns-in_err-form-clause-cause
returns-in_err-form-clause-cause g c =
    let head = c.args.head in
    let fits : SFits w64 head.form = search rules in
    passed_so (rw (to_z-of_z w64 head.form fits) at c.in_err-form.ensures.cause)
    c.from_residual.result c.from_residual.ensures.1

pub returns-clause-cause : goal.returns-clause-cause
returns-clause-cause g c = none_told c.in_ok-form.ensures.cause.limit
