-- What clauses of private functions say beside Known.antt.
use Rattle.std.specs.Prelude.{ℕ, ℤ, List, find, reverse, Option, option_map}
use Rattle.std.specs.Ordering.{int_eq}
use Rattle.lab_store_tables.specs.Rows.{Tables}
use Rattle.lab_store_tables.specs.Meaning.{code_of}
use Rattle.lab_store_read.specs.declared.known.KnownCode.{KnownCode}

-- the code of the person with the id
abbrev pub known_by : Tables → ℤ → KnownCode
known_by t id = record { id = id; code = code_of t id }

abbrev pub kept_code : KnownCode → List ℕ
kept_code one = one.code

-- the code that is kept with the id, if one is: the last one
abbrev pub code_among : List KnownCode → ℤ → Option (List ℕ)
code_among known id =
    option_map kept_code (find (λ (one : KnownCode). int_eq one.id id) (reverse known))
