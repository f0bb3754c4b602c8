-- Codes of persons that were read, each kept with the id of the person's row.
use Rattle.std.specs.Prelude.{◌≡◌, List, All}
use Rattle.lab_store_tables.specs.Rows.{Tables}
use Rattle.lab_store_tables.specs.Meaning.{code_of}
use Rattle.lab_store_read.specs.declared.known.KnownCode.{KnownCode}

abbrev pub IsKnown : Tables → KnownCode → Type 0
IsKnown t one = one.code ≡ code_of t one.id

-- each code is the one that the tables have of the person with its id
pub record AreKnown (t : Tables) (known : List KnownCode) : Type 0 where
  pub codes : All (IsKnown t) known
