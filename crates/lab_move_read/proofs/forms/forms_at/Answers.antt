use Rattle.std.proofs.Common.{w64, None, sym, ap, ◌∙◌}
use Rattle.std.proofs.lemmas.Int.{to_z-of_z}
use Rattle.lab_move_tables.proofs.Wheres.{where_by_schema, where_and}
use Rattle.lab_move_read_people.proofs.Found.{rows_then, store_ends}
use Rattle.lab_move_read.specs.Private.Forms.{forms_run}
use Rattle.lab_move_read.proofs.FormsFound.{forms_done, forms_fail}
use Rattle.lab_move_read.proofs.ReadableParts.{all_form_parts}
use Rattle.lab_move_read.proofs.forms.forms_at.Goals as goal

pub returns-in_err-heads : goal.returns-in_err-heads
returns-in_err-heads g c = store_ends (rw (to_z-of_z w64 c.args.lab c.ranges.lab) at c.in_err-heads.ensures) c.from_residual.result c.from_residual.ensures.1 (λ t wanted. (wanted.taken, wanted.rows))

pub returns-then-not-forms_run : goal.returns-then-not-forms_run
returns-then-not-forms_run g c =
    let tried = sym c.forms_run.ensures ∙ c.if-not-forms_run.true in
    where_and (rw (to_z-of_z w64 c.args.lab c.ranges.lab) at c.in_ok-heads.ensures) (λ t file given. forms_fail t c.args.lab c.in_ok-heads.heads.items given (sym (ap (forms_run None) c.deref.ensures.value) ∙ tried)) (λ t file wanted given. tt)

pub returns : goal.returns
returns g c =
    let tried = sym c.forms_run.ensures ∙ c.if-not-forms_run.false in
    rows_then (rw (to_z-of_z w64 c.args.lab c.ranges.lab) at c.in_ok-heads.ensures) c.forms_whole.result (where_by_schema c.forms_whole.ensures)
    (λ t file given. let it = forms_done t c.args.lab c.in_ok-heads.heads.items given (sym (ap (forms_run None) c.deref.ensures.value) ∙ tried) in (it.0, λ made is. is ∙ it.1))
    (λ t file wanted given. all_form_parts c.args.older t file.lifted (g.D.Readable.state c.args.conn.now).now c.args.lab c.in_ok-heads.heads.items given wanted.parts)
