use Rattle.std.proofs.Common.{w64}
use Rattle.std.proofs.lemmas.Int.{to_z-of_z}
use Rattle.lab_move_tables.specs.declared.older.Older.TheVariants.{Two}
use Rattle.lab_move_tables.proofs.Wheres.{rows_where}
use Rattle.lab_move_tables.proofs.OldTexts.{signature_place_means}
use Rattle.lab_move_tables.proofs.records.signature_places.Goals as goal

pub returns : goal.returns
returns g c =
    rows_where (signature_place_means Two).read (rw (to_z-of_z w64 c.args.version c.ranges.version) at c.rows_by_one.ensures)
    (λ t file rows. file.1.signature_places c.args.version rows.items) (λ t is. is)
