use Rattle.std.proofs.Common.{w64, ◌∙◌}
use Rattle.std.proofs.lemmas.Int.{to_z-of_z}
use Rattle.lab_move_read_people.proofs.Found.{first_fails, found_ends, rows_then}
use Rattle.lab_move_read.proofs.FormsFound.{fields_done}
use Rattle.lab_move_read.proofs.ReadableParts.{all_field_names}
use Rattle.lab_move_read.proofs.fields.fields_at.Goals as goal

pub returns-in_err-heads : goal.returns-in_err-heads
returns-in_err-heads g c =
    found_ends c.in_err-heads.field-0.0 (rw (to_z-of_z w64 c.args.form c.ranges.form) at c.in_err-heads.ensures) (λ t file fails. first_fails _ _ fails) c.from_residual.result c.from_residual.ensures.1 (λ t wanted. (wanted.taken, wanted.rows))

pub returns : goal.returns
returns g c =
    rows_then (rw (to_z-of_z w64 c.args.form c.ranges.form) at c.in_ok-heads.ensures) c.fields_whole.result c.fields_whole.ensures
    (λ t file given. let it = fields_done t c.args.form c.in_ok-heads.heads.items given.0 given.1 in (it.0, λ made is. is ∙ it.1))
    (λ t file wanted given. all_field_names t (g.D.Readable.state c.args.conn.now).now c.args.form c.in_ok-heads.heads.items given.1 wanted.names)
