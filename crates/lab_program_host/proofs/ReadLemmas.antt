-- The bytes of a reader, where they are known.
use Rattle.std.proofs.Common.{◌≡◌, ℕ, List, [], Option, Some, None, refl, unwrap_or, ◌∙◌}
use Rattle.std.specs.Prelude.{IfSome}

-- some bytes, which are all of a reader's where these are known
pub all_of : (known : Option (List ℕ)) → IfSome known (λ all. unwrap_or known [] ≡ all)
all_of None = tt
all_of (Some all) = refl

-- bytes that were read, under another name
pub known_as : (known : Option (List ℕ)) (bytes read : List ℕ) → bytes ≡ read →
    IfSome known (λ all. read ≡ all) → IfSome known (λ all. bytes ≡ all)
known_as None bytes read same whole = tt
known_as (Some all) bytes read same whole = same ∙ whole
