-- How bytes are gone over, and what a reader gives of them.
use Rattle.std.specs.Prelude.{◌<◌, option_map}
use Rattle.std.proofs.Common.{◌≡◌, ℕ, ◌+◌, ◌≤◌, Bool, true, false, if◌then◌else◌, List, [], ◌∷◌, ◌++◌, take, drop, length, get_or, Option, Some, None, refl, sym, ap, ◌∙◌, append_assoc, arith}
use Rattle.std.proofs.lemmas.List.{append-nil, drop_all, drop_more, take_more, take-take, length-take-le}
use Rattle.std.specs.Io.KnownBytes.{Consumes, IsAtEnd, Keeps}
use Rattle.lab_copy.specs.Fronts.{SoFar, after, front, is_too_long}

-- a row that is too long has no more
pub front_cut : (row : SoFar) (xs : List ℕ) → is_too_long row ≡ true → front row xs ≡ []
unfolding front
front_cut row [] e = refl
front_cut row (c ∷ xs) e = ap (λ t. if t then [] else c ∷ front (after row c) xs) e

pub front_next : (row : SoFar) (c : ℕ) (xs : List ℕ) → is_too_long row ≡ false → front row (c ∷ xs) ≡ c ∷ front (after row c) xs
unfolding front
front_next row c xs e = ap (λ t. if t then [] else c ∷ front (after row c) xs) e

pub front_nil : (row : SoFar) → front row [] ≡ []
unfolding front
front_nil row = refl

-- so many bytes were gone over
abbrev pub Passes : SoFar → List ℕ → ℕ → SoFar → Type 0
Passes start bytes at row = (rest : List ℕ) → front start (bytes ++ rest) ≡ take at bytes ++ front row (drop at bytes ++ rest)

-- and are all that are given
abbrev pub Gives : SoFar → List ℕ → ℕ → SoFar → Type 0
Gives start bytes count row = (rest : List ℕ) → front start (bytes ++ rest) ≡ take count bytes ++ front row rest

pub passes_none : (start : SoFar) (bytes : List ℕ) → Passes start bytes 0 start
passes_none start bytes rest = refl

pub passes_one : (start row next : SoFar) (bytes : List ℕ) (at : ℕ) → at < length bytes → is_too_long row ≡ false
    → next ≡ after row (get_or bytes at 0) → Passes start bytes at row → Passes start bytes (at + 1) next
passes_one start row next bytes at within short e passes rest =
    let c : ℕ = get_or bytes at 0 in
    let more : List ℕ = drop (at + 1) bytes ++ rest in
    passes rest
    ∙ ap (λ (l : List ℕ). take at bytes ++ front row (l ++ rest)) (drop_more bytes at 0 within)
    ∙ ap (λ (l : List ℕ). take at bytes ++ l) (front_next row c more short)
    ∙ sym (append_assoc (take at bytes) (c ∷ []) (front (after row c) more))
    ∙ ap (λ (l : List ℕ). l ++ front (after row c) more) (sym (take_more bytes at 0 within))
    ∙ ap (λ (one : SoFar). take (at + 1) bytes ++ front one more) (sym e)

pub gives_cut : (start row : SoFar) (bytes : List ℕ) (at : ℕ) → is_too_long row ≡ true → Passes start bytes at row → Gives start bytes at row
gives_cut start row bytes at long passes rest =
    passes rest
    ∙ ap (λ (l : List ℕ). take at bytes ++ l) (front_cut row (drop at bytes ++ rest) long ∙ sym (front_cut row rest long))

pub gives_all : (start row : SoFar) (bytes : List ℕ) → Passes start bytes (length bytes) row → Gives start bytes (length bytes) row
gives_all start row bytes passes rest =
    passes rest ∙ ap (λ (l : List ℕ). take (length bytes) bytes ++ front row (l ++ rest)) (drop_all (length bytes) bytes (omega arith))

-- ---- a reader

-- what it gave, of what its source gave
abbrev pub HasRead : Option (List ℕ) → Option (List ℕ) → List ℕ → ℕ → Type 0
HasRead before after buffer count = Consumes before after (take count buffer) × (count ≡ 0 → 0 < length buffer → IsAtEnd after)

pub read_part : (row next : SoFar) (before after : Option (List ℕ)) (buffer : List ℕ) (count given : ℕ)
    → count ≤ length buffer → given ≤ length (take count buffer) → (given ≡ 0 → length (take count buffer) ≡ 0)
    → Gives row (take count buffer) given next → HasRead before after buffer count
    → HasRead (option_map (front row) before) (option_map (front next) after) buffer given
read_part row next before after buffer count given fits within none gives has = (consumed before after has.0, λ e some. ended after (has.1 (empty e) some))
  where
    size : length (take count buffer) ≡ count
    size = length-take-le count buffer fits

    empty : given ≡ 0 → count ≡ 0
    empty e = omega (arith, none e, size)

    ended : (after : Option (List ℕ)) → IsAtEnd after → IsAtEnd (option_map (front next) after)
    ended None e = tt
    ended (Some ys) e = ap (front next) e ∙ front_nil next

    consumed : (before after : Option (List ℕ)) → Consumes before after (take count buffer)
        → Consumes (option_map (front row) before) (option_map (front next) after) (take given buffer)
    consumed None after e = tt
    consumed (Some xs) None e = absurd e
    consumed (Some xs) (Some ys) e =
        ap (front row) e ∙ gives ys ∙ ap (λ (l : List ℕ). l ++ front next ys) (take-take given count buffer (omega (arith, within, size)))

pub read_none : (row : SoFar) (source : Option (List ℕ)) (buffer : List ℕ) → is_too_long row ≡ true
    → HasRead (option_map (front row) source) (option_map (front row) source) buffer 0
read_none row None buffer long = (tt, λ e some. tt)
read_none row (Some xs) buffer long = (refl, λ e some. front_cut row xs long)

pub keeps_part : (row : SoFar) (before after : Option (List ℕ)) → Keeps before after
    → Keeps (option_map (front row) before) (option_map (front row) after)
keeps_part row None after e = tt
keeps_part row (Some xs) None e = absurd e
keeps_part row (Some xs) (Some ys) e = ap (front row) e
