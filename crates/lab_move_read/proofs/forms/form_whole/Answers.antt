use Rattle.std.proofs.Common.{w64, IsTrue, sym, subst, ◌∙◌, SFits, rules}
use Rattle.std.proofs.lemmas.Int.{to_z-of_z}
use Rattle.lab_move_tables.proofs.Wheres.{where_and}
use Rattle.lab_move_read_people.proofs.Found.{found_ends, store_made}
use Rattle.lab_forms.specs.Forms.{is_form}
use Rattle.lab_move_read.proofs.forms.form_whole.Goals as goal

pub returns-in_err-fields : goal.returns-in_err-fields
returns-in_err-fields g c =
    let id_fits : SFits w64 c.args.head.id = search rules in
    found_ends c.in_err-fields.field-0.0 (rw (to_z-of_z w64 c.args.head.id id_fits) at c.in_err-fields.ensures) (λ t file fails. fails) c.from_residual.result c.from_residual.ensures.1 (λ t wanted. wanted.fields)

pub returns-in_err-form : goal.returns-in_err-form
returns-in_err-form g c =
    let id_fits : SFits w64 c.args.head.id = search rules in
    store_made (rw (to_z-of_z w64 c.args.head.id id_fits) at c.in_ok-fields.ensures) (λ t file wanted is told. c.in_err-form.ensures.fault told (subst (λ l. IsTrue (is_form l)) (sym (c.into_vec.ensures ∙ is.1)) wanted.made))
    c.from_residual-in_err-form.result c.from_residual-in_err-form.ensures.1

pub returns : goal.returns
returns g c =
    let head = c.args.head in
    let id_fits : SFits w64 head.id = search rules in
    where_and (rw (to_z-of_z w64 head.id id_fits) at c.in_ok-fields.ensures) (λ t file is.
    let fields = c.into_vec.ensures ∙ is.1 in
    (is.0, λ i. record { id = to_z-of_z w64 head.id id_fits i; form = record { code = head.code; version = head.version; form = (c.in_ok-form.ensures.value ∙ (λ j. record { fields = fields j; approval = head.approval })) i } })) (λ t file wanted is. tt)
