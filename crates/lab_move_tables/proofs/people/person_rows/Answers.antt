use Rattle.std.proofs.Common.{w64}
use Rattle.std.proofs.lemmas.Int.{to_z-of_z}
use Rattle.lab_move_tables.proofs.Wheres.{rows_where}
use Rattle.lab_move_tables.proofs.OldTexts.{person_means}
use Rattle.lab_move_tables.proofs.people.person_rows.Goals as goal

pub returns : goal.returns
returns g c =
    rows_where (person_means c.args.older).read (rw (to_z-of_z w64 c.args.lab c.ranges.lab, c.person_text.ensures) at c.rows_by_one.ensures)
    (λ t file rows. file.persons c.args.lab rows.items) (λ t is. is)
