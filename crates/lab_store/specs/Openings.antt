-- What became of a connection over which a store was wanted.
use Rattle.std.specs.Prelude.{Result, Ok, Err}
use Rattle.sqlite.specs.Held.{Held}
use Rattle.lab_store_files.specs.declared.faults.FileFault.{FileFault}
use Rattle.lab_store.specs.declared.openings.Unopened.{Unopened}

-- how the making, or the opening, ended
abbrev pub ending_of : {S : Type 0} → Result (Held S) (Unopened S) → Result (Unit {0}) FileFault
ending_of (Ok store) = Ok tt
ending_of (Err unopened) = Err unopened.fault

-- the connection: the store's, or the one that was handed back
abbrev pub left_by : {S : Type 0} → Result (Held S) (Unopened S) → Held S
left_by (Ok store) = store
left_by (Err unopened) = unopened.conn
