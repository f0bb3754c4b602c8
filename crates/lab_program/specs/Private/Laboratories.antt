-- What clauses of private functions say beside Laboratories.antt.
use Rattle.std.specs.Prelude.{ℕ, ◌+◌, List, Option, option_map, take}
use Rattle.lab_desk_foundings.specs.Foundings.{body_limit}

-- the first bytes of an input, one more than a founding's body may have
abbrev pub front_of : Option (List ℕ) → Option (List ℕ)
front_of = option_map (take (body_limit + 1))
