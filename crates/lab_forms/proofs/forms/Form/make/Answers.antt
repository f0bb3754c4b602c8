-- Fields that are not refused make a form.
use Rattle.std.proofs.Common.{◌≡◌, ◌≤◌, rules, arith, true, length}
use Rattle.std.specs.List.{list_all}
use Rattle.std.proofs.lemmas.Bool.Decides.{nat_tests}
use Rattle.lab_forms.specs.Forms.{is_field}
use Rattle.lab_forms.proofs.FormLemmas.{form_of}
use Rattle.lab_forms.proofs.forms.Form.make.Goals as goal

pub invariant_of-result : goal.invariant_of-result
invariant_of-result c =
    let some : 1 ≤ length c.args.fields.items = grind (arith, nat_tests, c.is_empty.ensures) in
    let all : list_all is_field c.args.fields.items ≡ true = search rules in
    form_of c.args.fields.items some (search rules) (omega arith) all

pub returns-clause-admitted : goal.returns-clause-admitted
returns-clause-admitted c =
    let some : 1 ≤ length c.args.fields.items = grind (arith, nat_tests, c.is_empty.ensures) in
    let all : list_all is_field c.args.fields.items ≡ true = search rules in
    form_of c.args.fields.items some (search rules) (omega arith) all
