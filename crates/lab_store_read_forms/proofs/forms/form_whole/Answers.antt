use Rattle.std.proofs.Common.{w64, rules, List, IsTrue, SFits, sym, subst}
use Rattle.std.proofs.lemmas.Int.{to_z-of_z}
use Rattle.lab_store_read.proofs.Causes.{passed_on, unread_so}
use Rattle.lab_forms.specs.declared.forms.Field.{Field}
use Rattle.lab_forms.specs.Forms.{is_form}
use Rattle.lab_store_read_forms.proofs.forms.form_whole.Goals as goal

pub returns-in_err-fields-clause-cause : goal.returns-in_err-fields-clause-cause
returns-in_err-fields-clause-cause g c =
    let id = c.args.head.id in
    let fits : SFits w64 id = search rules in
    passed_on (rw (to_z-of_z w64 id fits) at c.in_err-fields.ensures.cause) (λ has. has.fields) c.from_residual.result c.from_residual.ensures.1

pub returns-in_err-form-clause-cause : goal.returns-in_err-form-clause-cause
returns-in_err-form-clause-cause g c =
    let id = c.args.head.id in
    let fits : SFits w64 id = search rules in
    unread_so (rw (to_z-of_z w64 id fits) at c.in_ok-fields.ensures.reads) c.in_ok-fields.ensures.cause.limit
    c.from_residual-in_err-form.result c.from_residual-in_err-form.ensures.1
    (λ is has told. c.in_err-form.ensures.fault told (subst (λ (l : List Field). IsTrue (is_form l)) (sym is) has.made))
