use Rattle.lab_move_tables.specs.declared.older.Older.TheVariants.{Two}
use Rattle.lab_move_tables.proofs.Wheres.{rows_where}
use Rattle.lab_move_tables.proofs.OldTexts.{codes_means}
use Rattle.lab_move_tables.proofs.labs.code_rows.Goals as goal

pub returns : goal.returns
returns g c = rows_where (codes_means Two).read c.rows_by_none.ensures (λ t file rows. file.1.labs rows.items) (λ t is. is)
