-- Definitions for proofs only, which belong to specs/StoreWorlds.antt: no clause names them.
use Rattle.std.specs.Prelude.{◌≡◌}
use Rattle.sqlite.specs.State.{State}
use Rattle.lab_store_tables.specs.Ready.{tables_of}

-- the rows of all tables are as they were
abbrev pub SameRows : State → State → Type 0
SameRows old new = tables_of new ≡ tables_of old
