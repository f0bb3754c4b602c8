use Rattle.std.proofs.Common.{w64}
use Rattle.std.proofs.lemmas.Int.{to_z-of_z}
use Rattle.lab_move_tables.proofs.Wheres.{rows_where}
use Rattle.lab_move_tables.proofs.OldTexts.{form_means}
use Rattle.lab_move_tables.proofs.forms.form_rows.Goals as goal

pub returns : goal.returns
returns g c =
    rows_where (form_means c.args.older).read (rw (to_z-of_z w64 c.args.lab c.ranges.lab, c.form_text.ensures) at c.rows_by_one.ensures)
    (λ t file rows. file.forms c.args.lab rows.items) (λ t is. is)
