-- Definitions for proofs only, which belong to specs/ListLaws.antt: no clause names them.
use Rattle.std.proofs.Common.{◌≡◌, ℕ, List, [], refl, Option, Some, None, ◌∙◌}
use Rattle.std.specs.Prelude.{slice_get, slice_set, MatchOption}
use Rattle.std.specs.List.{position_or_len}
use Rattle.lab_records_kept.specs.declared.labs.Lab.{Lab}
use Rattle.lab_records_memory.specs.Lists.{ChangesInPlace, has_code}
use Rattle.lab_records_memory.specs.ListLaws.{set_same}

-- and what no change made is the list as it was
pub nothing_moved : (old new : List Lab) (code : List ℕ) → ChangesInPlace old new code [] →
    new ≡ old
nothing_moved old new code moved = by_place (slice_get old place) refl moved
  where
    place : ℕ
    place = position_or_len (has_code code) old

    by_place : (found : Option Lab) → slice_get old place ≡ found → MatchOption found (new ≡ old)
        (λ lab. new ≡ slice_set old place lab) → new ≡ old
    by_place None none same = same
    by_place (Some lab) there set = set ∙ set_same old place lab there
