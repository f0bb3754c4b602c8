use Rattle.std.proofs.Common.{w64, ap₂}
use Rattle.std.proofs.lemmas.Int.{to_z-of_z}
use Rattle.lab_store_read.proofs.Readers.{reads_fail, reads_and}
use Rattle.lab_store_read.proofs.Causes.{none_told, passed_so}
use Rattle.lab_store_read_forms.proofs.FormsBehind.{form_with}
use Rattle.lab_store_read_forms.proofs.forms_behind.form_with_id.Goals as goal

pub returns-in_err-form-clause-reads : goal.returns-in_err-form-clause-reads
returns-in_err-form-clause-reads g c = reads_fail c.in_err-form.ensures.reads c.from_residual.result _ c.from_residual.ensures.1

pub returns-clause-reads : goal.returns-clause-reads
returns-clause-reads g c =
    let id = to_z-of_z w64 c.args.id c.ranges.id in
    reads_and (rw id at c.in_ok-form.ensures.reads) (λ kept form. ap₂ form_with id form)

pub returns-in_err-form-clause-cause : goal.returns-in_err-form-clause-cause
returns-in_err-form-clause-cause g c =
    passed_so (rw (to_z-of_z w64 c.args.id c.ranges.id) at c.in_err-form.ensures.cause) c.from_residual.result c.from_residual.ensures.1

pub returns-clause-cause : goal.returns-clause-cause
returns-clause-cause g c = none_told c.in_ok-form.ensures.cause.limit
