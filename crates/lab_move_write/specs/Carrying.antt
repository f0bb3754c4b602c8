-- A laboratory that is carried into a file which is being filled: it is there under its code, where
-- none was, every other means what it meant, and the file can be filled on (ISO/IEC 17025:2017,
-- 8.4.2, records are kept "for a period consistent with its contractual obligations", wherever they
-- are kept).
use Rattle.sqlite.specs.Effect.{Database}
use Rattle.lab_records_kept.specs.declared.labs.Lab.{Lab}
use Rattle.lab_records_keeper.specs.Worlds.{Places}
use Rattle.lab_store_tables.specs.Rows.{tables_in}
use Rattle.lab_store_tables.specs.Meaning.{meaning}
use Rattle.lab_move_write.specs.Unfinished.{IsBeingFilled}

abbrev pub Carries : Lab → Database → Database → Type 0
Carries lab was db =
    IsBeingFilled was
    → IsBeingFilled db × Places lab (meaning (tables_in was.trees)) (meaning (tables_in db.trees))
