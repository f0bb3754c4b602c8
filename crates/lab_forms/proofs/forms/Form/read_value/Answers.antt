-- What the field of the key answers is what the form answers.
use Rattle.std.proofs.Common.{sym}
use Rattle.lab_forms.proofs.FormLemmas.{value_refusal-none, value_refusal-some, fits_form-some}
use Rattle.lab_forms.proofs.forms.Form.read_value.Goals as goal

pub returns-in_default-clause-fault : goal.returns-in_default-clause-fault
returns-in_default-clause-fault c =
    value_refusal-none c.args.self.now.fields c.args.key.now c.args.text.now c.args.unit.now (rw c.in_default.is at (sym c.field.ensures.value))

pub returns-clause-fits : goal.returns-clause-fits
returns-clause-fits c =
    let at = fits_form-some c.args.self.now.fields c.args.key.now c.args.text.now c.args.unit.now c.in-Some.field.now (sym c.in-Some.ensures.value) in
    rw at c.read_as.ensures.fits

pub returns-clause-fault : goal.returns-clause-fault
returns-clause-fault c =
    let at = value_refusal-some c.args.self.now.fields c.args.key.now c.args.text.now c.args.unit.now c.in-Some.field.now (sym c.in-Some.ensures.value) in
    rw at c.read_as.ensures.fault
