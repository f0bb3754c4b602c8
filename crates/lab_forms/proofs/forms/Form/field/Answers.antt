-- A form may ask for the kind of the field that is found.
use Rattle.std.proofs.Common.{◌≡◌, subst, IsTrue, rules}
use Rattle.std.specs.Option.{option_copied}
use Rattle.lab_forms.specs.Forms.{FormSheet, is_form, field_of}
use Rattle.lab_forms.proofs.FormLemmas.{kind_found}
use Rattle.lab_forms.proofs.forms.Form.field.Goals as goal

pub returns-clause-kind : goal.returns-clause-kind
returns-clause-kind c =
    let found : option_copied c.field_among.result ≡ field_of c.args.self.now.fields c.args.key.now = search rules in
    kind_found c.args.self.now.fields c.args.key.now c.field_among.result (subst (λ (form : FormSheet). IsTrue (is_form form.fields)) c.self.view_is c.self.invariant) found
