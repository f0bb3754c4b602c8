-- What proofs alone name, beside Readable.antt of specs/.
use Rattle.std.specs.Prelude.{All}
use Rattle.sqlite.specs.Effect.{Database}
use Rattle.lab_store_tables.specs.Rows.{Tables}
use Rattle.lab_move_tables.specs.declared.older.Older.{Older}
use Rattle.lab_move_read.specs.Laboratories.{codes_of}
use Rattle.lab_move_read.specs.Readable.{HasWhole, HasCodes}

-- ---- laboratories

-- all laboratories of a file
pub record IsReadable (older : Older) (db : Database) (t : Tables) : Type 0 where
  pub listed : HasCodes db t
  pub labs : All (λ code. HasWhole older code db t) (codes_of t)
