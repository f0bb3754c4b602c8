-- Of what a founding gives.
use Rattle.std.specs.Prelude.{Bool, ◌||◌, is_some}
use Rattle.lab_records_kept.specs.declared.births.Newborn.{Newborn}

-- whether something was asked for a founder
abbrev pub is_asked : Newborn → Bool
is_asked newborn =
    is_some newborn.first.ask || is_some newborn.second.ask || is_some newborn.third.ask
