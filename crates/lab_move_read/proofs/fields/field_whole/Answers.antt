use Rattle.std.proofs.Common.{w64, ap, ◌∙◌, SFits, rules}
use Rattle.std.proofs.lemmas.Int.{to_z-of_z}
use Rattle.lab_store_read_forms.specs.Kinds.{kind_with}
use Rattle.lab_move_tables.proofs.Wheres.{where_and}
use Rattle.lab_move_read_people.proofs.Found.{found_ends}
use Rattle.lab_move_read.proofs.fields.field_whole.Goals as goal

pub returns-in_err-names : goal.returns-in_err-names
returns-in_err-names g c =
    let id_fits : SFits w64 c.args.head.id = search rules in
    found_ends c.in_err-names.field-0.0 (rw (to_z-of_z w64 c.args.head.id id_fits) at c.in_err-names.ensures) (λ t file fails. fails) c.from_residual.result c.from_residual.ensures.1 (λ t wanted. wanted)

pub returns : goal.returns
returns g c =
    let head = c.args.head in
    let id_fits : SFits w64 head.id = search rules in
    where_and (rw (to_z-of_z w64 head.id id_fits) at c.in_ok-names.ensures) (λ t file is.
    (is.0, λ i. record { key = head.key; label = head.label; required = head.required; kind = (c.kind_with.ensures ∙ ap (kind_with head.kind) is.1) i })) (λ t file wanted is. tt)
