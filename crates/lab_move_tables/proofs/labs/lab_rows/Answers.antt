use Rattle.lab_move_tables.specs.declared.older.Older.TheVariants.{Two}
use Rattle.lab_move_tables.proofs.Wheres.{rows_where}
use Rattle.lab_move_tables.proofs.OldTexts.{lab_means}
use Rattle.lab_move_tables.proofs.labs.lab_rows.Goals as goal

pub returns : goal.returns
returns g c = rows_where (lab_means Two).read c.rows_by_text.ensures (λ t file rows. file.1.lab c.args.code.now rows.items) (λ t is. is)
