-- The places of the table, each once, with what is asked there by each method.
use Rattle.std.specs.Prelude.{ℕ, List, [], ◌∷◌, bytes_eq, map, if◌then◌else◌}
use Rattle.std.specs.List.{list_any}
use Rattle.lab_wire.specs.Routes.{routes}

-- ---- the places of the table

-- each text once
abbrev pub once : List (List ℕ) → List (List ℕ)
once [] = []
once (text ∷ texts) =
    if list_any (bytes_eq text) texts then once texts else text ∷ once texts

abbrev pub texts : List (List ℕ)
texts = once (map (λ row. row.place) routes)
