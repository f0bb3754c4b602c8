use Rattle.std.proofs.Common.{w64, ◌∙◌, sym, subst}
use Rattle.std.proofs.lemmas.Int.{to_z-of_z}
use Rattle.lab_move_read_people.proofs.Found.{rows_tried, store_ends}
use Rattle.lab_move_read.proofs.FormsFound.{names_done}
use Rattle.lab_move_read.specs.Readable.{AreNames}
use Rattle.lab_move_read.proofs.fields.names_at.Goals as goal

pub returns-in_err-rows : goal.returns-in_err-rows
returns-in_err-rows g c = store_ends (rw (to_z-of_z w64 c.args.field c.ranges.field) at c.in_err-rows.ensures) c.from_residual.result c.from_residual.ensures.1 (λ t wanted. wanted.taken)

pub returns : goal.returns
returns g c =
    rows_tried (rw (to_z-of_z w64 c.args.field c.ranges.field) at c.in_ok-rows.ensures) _ c.names_tried.result c.names_tried.ensures.tried c.names_tried.ensures.fault
    (λ t file rows. let it = names_done t c.args.field _ (c.deref.ensures.value ∙ rows) in (it.0, λ made is. is ∙ it.1))
    (λ t wanted rows. subst AreNames (sym (c.deref.ensures.value ∙ rows)) wanted.rows)
