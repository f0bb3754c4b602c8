-- The query of a reading of records or of the trail, or of a copy: exactly `from=A&to=B`, at most a
-- hundred numbers (docs/HTTP.md).
use Rattle.std.specs.Prelude.{ℕ, ◌+◌, ◌==◌, ◌&&◌, Bool, nat_le, List, [], ◌∷◌, codes, if◌then◌else◌, Option, Some, None, option_and_then}
use Rattle.std.specs.List.{slice_split}
use Rattle.lab_wire.specs.declared.queries.Range.{Range}
use Rattle.lab_wire.specs.declared.queries.TheConstants.{RANGE_LIMIT}
use Rattle.lab_wire.specs.Numbers.{ordinal_in}
use Rattle.lab_wire.specs.Paths.{behind}

-- b'&', between two members of a query
abbrev pub ampersand : ℕ
ampersand = 38

abbrev pub is_ampersand : ℕ → Bool
is_ampersand b = b == ampersand

-- how far the last number of a range may be from its first
abbrev pub range_limit : ℕ
range_limit = RANGE_LIMIT

-- the number that a member gives behind its name
abbrev pub number_behind : List ℕ → List ℕ → Option ℕ
number_behind name piece = option_and_then ordinal_in (behind name piece)

-- A <= B <= A + 99
abbrev pub range_of : Option ℕ → Option ℕ → Option Range
range_of (Some from) (Some to) =
    if nat_le from to && nat_le to (from + range_limit) then Some (record { from = from; to = to })
    else None
range_of _ _ = None

-- two members in this order, and no more
abbrev pub range_by : List (List ℕ) → Option Range
range_by (one ∷ other ∷ []) =
    range_of (number_behind (codes "from=") one) (number_behind (codes "to=") other)
range_by _ = None

-- the range that a query gives
unfoldable pub range_in : List ℕ → Option Range
range_in query = range_by (slice_split is_ampersand query)
