use Rattle.std.proofs.Common.{w64}
use Rattle.std.proofs.lemmas.Int.{to_z-of_z}
use Rattle.lab_move_tables.specs.declared.older.Older.TheVariants.{Two}
use Rattle.lab_move_tables.proofs.Wheres.{rows_where}
use Rattle.lab_move_tables.proofs.OldTexts.{field_means}
use Rattle.lab_move_tables.proofs.forms.field_rows.Goals as goal

pub returns : goal.returns
returns g c =
    rows_where (field_means Two).read (rw (to_z-of_z w64 c.args.form c.ranges.form) at c.rows_by_one.ensures)
    (λ t file rows. file.1.fields c.args.form rows.items) (λ t is. is)
