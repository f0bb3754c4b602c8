-- Kinds, fields and forms are compared by equivalences, since each part of them is.
use Rattle.std.specs.Cmp.{IsEquivalence, on_equiv, and_equiv, nat_eq_equiv, bool_eq_equiv}
use Rattle.std.specs.Cmp.Lexicographic.{nat_list_eq_equiv, lists_equiv, options_equiv}
use Rattle.lab_forms.specs.declared.forms.Field.{Field}
use Rattle.lab_forms.specs.Kinds.{kind_word, unit_of, decimals_of, min_of, max_of, size_of, choices_of, kind_eq}
use Rattle.lab_forms.specs.Forms.{FormSheet, field_eq, form_eq}

pub kinds_equiv : IsEquivalence kind_eq
kinds_equiv =
    let words = on_equiv kind_word nat_list_eq_equiv in
    let units = on_equiv unit_of nat_list_eq_equiv in
    let decimals = on_equiv decimals_of nat_eq_equiv in
    let least = on_equiv min_of (options_equiv nat_list_eq_equiv) in
    let greatest = on_equiv max_of (options_equiv nat_list_eq_equiv) in
    let sizes = on_equiv size_of nat_eq_equiv in
    let choices = on_equiv choices_of (lists_equiv nat_list_eq_equiv) in
    let numbers = and_equiv (and_equiv words units) decimals in
    let bounds = and_equiv (and_equiv numbers least) greatest in
    and_equiv (and_equiv bounds sizes) choices

pub fields_equiv : IsEquivalence field_eq
fields_equiv =
    let keys = on_equiv (λ (field : Field). field.key) nat_list_eq_equiv in
    let labels = on_equiv (λ (field : Field). field.label) nat_list_eq_equiv in
    let wants = on_equiv (λ (field : Field). field.required) bool_eq_equiv in
    let kinds = on_equiv (λ (field : Field). field.kind) kinds_equiv in
    and_equiv (and_equiv (and_equiv keys labels) wants) kinds

pub forms_equiv : IsEquivalence form_eq
forms_equiv =
    let fields = on_equiv (λ (form : FormSheet). form.fields) (lists_equiv fields_equiv) in
    let wants = on_equiv (λ (form : FormSheet). form.approval) bool_eq_equiv in
    and_equiv fields wants
