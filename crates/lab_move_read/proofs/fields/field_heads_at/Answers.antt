use Rattle.std.proofs.Common.{w64, ◌∙◌, sym, subst}
use Rattle.std.proofs.lemmas.Int.{to_z-of_z}
use Rattle.lab_move_read_people.proofs.Found.{rows_tried, store_ends}
use Rattle.lab_move_read.proofs.FormsFound.{field_rows_done}
use Rattle.lab_move_read.specs.Readable.{AreFields}
use Rattle.lab_move_read.proofs.fields.field_heads_at.Goals as goal

pub returns-in_err-rows : goal.returns-in_err-rows
returns-in_err-rows g c = store_ends (rw (to_z-of_z w64 c.args.form c.ranges.form) at c.in_err-rows.ensures) c.from_residual.result c.from_residual.ensures.1 (λ t wanted. wanted.0)

pub returns : goal.returns
returns g c =
    rows_tried (rw (to_z-of_z w64 c.args.form c.ranges.form) at c.in_ok-rows.ensures) _ c.fields_tried.result c.fields_tried.ensures.tried c.fields_tried.ensures.fault
    (λ t file rows. let it = field_rows_done t c.args.form _ (c.deref.ensures.value ∙ rows) in (it.0, λ made is. is ∙ it.1))
    (λ t wanted rows. subst AreFields (sym (c.deref.ensures.value ∙ rows)) wanted.1)
