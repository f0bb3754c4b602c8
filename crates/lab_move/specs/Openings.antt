-- What became of a connection to a file that may be one of an older schema. It is asked once, and
-- what it answered is kept beside it.
use Rattle.std.specs.Prelude.{Result, Ok, Err, refl}
use Rattle.std.specs.Coded.{Coded, code_by, coded×}
use Rattle.sqlite.specs.Held.{Held, held_code}
use Rattle.lab_store_files.specs.declared.faults.FileFault.{FileFault}
use Rattle.lab_move_tables.specs.contracts.older.Older as schema
use Rattle.lab_move_tables.specs.declared.older.Older.{Older}
use Rattle.lab_move.specs.declared.opening.Unopened.{Unopened}

-- a file of an older schema: the connection to it, and which one it is
pub record Opened (S : Type 0) : Type 0 where
  pub conn : Held S
  pub older : Older

abbrev pub opened_code : {S : Type 0} → Coded S → Coded (Opened S)
opened_code {S} store =
    code_by (Held S × Older) (coded× (held_code store) schema.the_row.coded)
    (λ file. (file.conn, file.older)) (λ p. record { conn = p.0; older = p.1 }) (λ _. refl)

-- what the file answered
abbrev pub ending_of : {S : Type 0} → Result (Opened S) (Unopened S) → Result Older FileFault
ending_of (Ok file) = Ok file.older
ending_of (Err unopened) = Err unopened.fault

-- the connection: the file's, or the one that was handed back
abbrev pub left_by : {S : Type 0} → Result (Opened S) (Unopened S) → Held S
left_by (Ok file) = file.conn
left_by (Err unopened) = unopened.conn
