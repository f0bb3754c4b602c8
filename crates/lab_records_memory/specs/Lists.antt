-- What a plain list of laboratories means for each code, what changes do to the list, and what is
-- known of it as a keeper.
use Rattle.std.specs.Prelude.{◌≡◌, ℕ, List, Option, Bool, find, slice_get, slice_set, bytes_eq, MatchOption}
use Rattle.std.specs.List.{position_or_len}
use Rattle.lab_records_kept.specs.declared.labs.Lab.{Lab}
use Rattle.lab_records_kept.specs.declared.changes.Change.{Change}
use Rattle.lab_records_kept.specs.Changes.{changed}
use Rattle.lab_records_keeper.specs.Worlds.{World, SameMeaning}

-- whether a laboratory has the code
abbrev pub has_code : List ℕ → Lab → Bool
has_code code lab = bytes_eq lab.code code

-- the laboratory of a code, or none
abbrev pub lab_of : List Lab → List ℕ → Option Lab
lab_of labs code = find (has_code code) labs

-- the laboratory of the code is changed in its place, where there is one, and all else stays
abbrev pub ChangesInPlace : List Lab → List Lab → List ℕ → List Change → Type 0
ChangesInPlace old new code changes =
    let place = position_or_len (has_code code) old in
    MatchOption (slice_get old place) (new ≡ old)
    (λ lab. new ≡ slice_set old place (changed lab changes))

-- a list is always honest, live and well kept, never refuses, and a crash leaves the list itself
abbrev pub world_of : List Lab → World
world_of labs = record {
  meaning = lab_of labs;
  is_honest = Unit {0};
  is_live = Unit {0};
  faults = 0;
  is_reached = Unit {0};
  may_refuse = ⊥;
  may_leave = λ held. SameMeaning (lab_of labs) held;
  is_safe = Unit {0};
}
