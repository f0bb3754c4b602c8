-- Two files agree on a laboratory where it is the same in both, whatever else they hold and under
-- whichever ids. These definitions are for proofs only: no clause names them.
use Rattle.std.specs.Prelude.{◌≡◌, ℕ, List}
use Rattle.lab_store_tables.specs.Rows.{Tables}
use Rattle.lab_store_tables.specs.Meaning.{meaning}

abbrev pub Agree : Tables → Tables → List ℕ → Type 0
Agree one other code = meaning one code ≡ meaning other code
