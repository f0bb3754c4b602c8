use Rattle.std.proofs.Common.{w64}
use Rattle.std.proofs.lemmas.Int.{to_z-of_z}
use Rattle.lab_move_tables.proofs.Wheres.{rows_where}
use Rattle.lab_move_tables.proofs.OldTexts.{version_means}
use Rattle.lab_move_tables.proofs.records.version_rows.Goals as goal

pub returns : goal.returns
returns g c =
    rows_where (version_means c.args.older).read (rw (to_z-of_z w64 c.args.kept c.ranges.kept, c.version_text.ensures) at c.rows_by_one.ensures)
    (λ t file rows. file.versions c.args.kept rows.items) (λ t is. is)
