-- Lists of things that are known by a text, as names are by their own and fields by their keys.
use Rattle.std.specs.Prelude.{ℕ, Bool, false, ◌||◌, List, [], ◌∷◌, bytes_eq}
use Rattle.std.specs.List.{list_any}

-- one of the texts is this one
abbrev pub has_text : List (List ℕ) → List ℕ → Bool
has_text texts text = list_any (λ one. bytes_eq one text) texts

-- two of the texts are equal
abbrev pub has_text_twice : List (List ℕ) → Bool
has_text_twice [] = false
has_text_twice (text ∷ texts) = has_text texts text || has_text_twice texts
