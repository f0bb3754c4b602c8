use Rattle.std.proofs.Common.{w64, map, ap, sym, subst, All, ◌∙◌}
use Rattle.std.proofs.lemmas.Int.{to_z-of_z}
use Rattle.lab_store_read.proofs.Queries.{if_then}
use Rattle.lab_move_tables.proofs.Wheres.{where_and, where_end}
use Rattle.lab_move_read.specs.Forms.{form_read}
use Rattle.lab_move_read.proofs.FormsFound.{forms_found}
use Rattle.lab_move_read.specs.Readable.{HasOldForm}
use Rattle.lab_store_read.specs.Cells.{storage}
use Rattle.lab_move_read_people.proofs.ReadableRows.{unread_none}
use Rattle.lab_move_read.proofs.forms.form_heads_at.Goals as goal

pub returns-in_err-rows : goal.returns-in_err-rows
returns-in_err-rows g c =
    where_end (rw (to_z-of_z w64 c.args.lab c.ranges.lab) at c.in_err-rows.ensures) c.from_residual.result _ c.from_residual.ensures.1 (λ e is told. sym is ∙ told) (λ t wanted. wanted.0)

pub returns : goal.returns
returns g c = where_and (rw (to_z-of_z w64 c.args.lab c.ranges.lab) at c.in_ok-rows.ensures) (λ t file rows.
    if_then c.forms_of_rows.result (λ made is. is ∙ ap (map (form_read c.args.older)) (c.deref.ensures.value ∙ rows)
    ∙ forms_found c.args.older t file.lifted c.args.lab) c.forms_of_rows.ensures.value)
    (λ t file wanted rows. unread_none storage (subst (All HasOldForm) (sym (c.deref.ensures.value ∙ rows)) wanted.1) c.forms_of_rows.result c.forms_of_rows.ensures.fault)
