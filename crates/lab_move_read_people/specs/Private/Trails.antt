-- The rows of a trail as they are read, and whether the person of one is of the laboratory.
use Rattle.std.specs.Prelude.{ℕ, ℤ, Bool, List, map}
use Rattle.lab_store_tables.specs.Rows.{Tables}
use Rattle.lab_store_read_trail.specs.declared.heads.ToldHead.{ToldHead}
use Rattle.lab_store_read_trail.specs.Private.Trails.{told_head}
use Rattle.lab_move_tables.specs.Owned.{own_trail}
use Rattle.lab_move_tables.specs.KeptLabs.{is_nobody_or_theirs}
use Rattle.lab_move_tables.specs.Shown.{trail_shown}
use Rattle.lab_move_read_people.specs.Kept.{are_counted}

abbrev pub is_kept_told : Tables → ℤ → ToldHead → Bool
is_kept_told t lab head = is_nobody_or_theirs t lab head.person

-- all of a laboratory
abbrev pub told_heads_of : Tables → ℤ → List ToldHead
told_heads_of t lab = map told_head (own_trail t lab)

-- they are so many, and numbered
abbrev pub is_counted_trail : Tables → ℤ → ℕ → Bool
is_counted_trail t lab count = are_counted 0 count (trail_shown t lab)
