-- The parts of a target and of a place.
use Rattle.std.proofs.Common.{◌≡◌, refl, ℕ, zero, suc, ◌-◌, ◌<◌, List, [], ◌∷◌, sym, ap, ◌∙◌, take, drop, get_or, length, Option, Some, None, true, false, Bool, Bor, arith, length-take, take-append-drop, take_all, drop-cons, add-one, nat_lt}
use Rattle.std.specs.Prelude.{MatchOption, option_map, nat_eq, not}
use Rattle.std.specs.Str.Pattern.{FindsTextPrefix, StripsPrefix}
use Rattle.std.specs.List.{starts_with, position_or_len, after_first, slice_split}
use Rattle.std.proofs.lemmas.Slice.Eq.{starts_is}
use Rattle.std.proofs.lemmas.Bool.Decides.{Decides-eqb, nat_tests}
use Rattle.std.proofs.lemmas.Str.Pattern.{starts_text}
use Rattle.std.proofs.lemmas.List.Splits.{slice_split_first, slice_split-cons_yes}
use Rattle.std.proofs.lemmas.List.Sums.{passes_at_first, prefix_len-le-length}
use Rattle.std.proofs.lemmas.Grind.{common_steps}
use native.Mathlib.Numerals.{unary_clauses}
use Rattle.lab_wire.proofs.Parts.{one_part}
use Rattle.lab_wire.specs.Paths.{behind, is_slash, lab_in, place_in, segments}

pub behind_is : (prefix path : List ℕ) (found : Option (Bor (List ℕ)))
    → MatchOption found (FindsTextPrefix prefix path None) (λ rest. StripsPrefix (FindsTextPrefix prefix) path rest.now)
    → option_map (λ (rest : Bor (List ℕ)). rest.now) found ≡ behind prefix path
unfolding behind
behind_is prefix path None none = rw (sym (starts_text false prefix path none))
behind_is prefix path (Some rest) found =
    let begins = (starts_is Decides-eqb path prefix _ refl).1 _ found.1.1 in
    rw begins (ap Some (found.2 ∙ ap (λ n. drop n path) found.1.0))

-- a text begins with its front
pub begins_with_front : (k : ℕ) (text : List ℕ) → starts_with nat_eq text (take k text) ≡ true
begins_with_front k text = (starts_is Decides-eqb text (take k text) _ refl).1 (drop k text) (sym (take-append-drop k text))

pub place_behind : (rest : List ℕ) → behind (lab_in rest) rest ≡ Some (place_in rest)
unfolding behind
place_behind rest = rw (begins_with_front (position_or_len is_slash rest) rest) refl

-- ---- segments

-- where the first segment is all, the place is empty
all_lab : (rest : List ℕ) → position_or_len is_slash rest ≡ length rest → lab_in rest ≡ rest
all_lab rest none = ap (λ k. take k rest) none ∙ take_all (length rest) rest (omega arith)

no_place : (rest : List ℕ) → position_or_len is_slash rest ≡ length rest → place_in rest ≡ []
no_place rest none =
    let over : drop (length rest) rest ≡ [] = grind (arith, common_steps) in
    ap (λ l. drop (length l) rest) (all_lab rest none) ∙ over

last_segment : (rest : List ℕ) → position_or_len is_slash rest ≡ length rest
    → slice_split is_slash rest ≡ lab_in rest ∷ segments (place_in rest)
unfolding segments
last_segment rest none =
    one_part is_slash rest none ∙ ap (λ l. l ∷ []) (sym (all_lab rest none)) ∙ ap (λ l. lab_in rest ∷ segments l) (sym (no_place rest none))

-- where a slash follows it, it begins the place
pub slash_begins : (rest : List ℕ) → position_or_len is_slash rest < length rest
    → place_in rest ≡ get_or rest (position_or_len is_slash rest) 0 ∷ after_first is_slash rest
slash_begins rest found =
    let k : ℕ = position_or_len is_slash rest in
    let size : length (lab_in rest) ≡ k = grind (arith, common_steps, length-take) in
    let slashed : drop k rest ≡ get_or rest k 0 ∷ after_first is_slash rest = rw add-one (drop-cons rest k 0 found) in
    ap (λ n. drop n rest) size ∙ slashed

more_segments : (rest : List ℕ) → position_or_len is_slash rest < length rest
    → slice_split is_slash rest ≡ lab_in rest ∷ segments (place_in rest)
unfolding segments
more_segments rest found =
    let k : ℕ = position_or_len is_slash rest in
    let split = slice_split-cons_yes is_slash (get_or rest k 0) (after_first is_slash rest) (passes_at_first is_slash rest 0 found) in
    let rest_split : segments (place_in rest) ≡ slice_split is_slash (after_first is_slash rest) = ap segments (slash_begins rest found) ∙ ap (drop 1) split in
    slice_split_first is_slash rest 0 found ∙ ap (λ l. lab_in rest ∷ l) (sym rest_split)

-- a place that isn't within is the end
all_passed : (p : ℕ → Bool) (text : List ℕ) → nat_lt (position_or_len p text) (length text) ≡ false → position_or_len p text ≡ length text
all_passed p text is =
    let most = prefix_len-le-length (λ x. not (p x)) text in
    grind (arith, common_steps, most)

one_or_more : (rest : List ℕ) (b : Bool) → nat_lt (position_or_len is_slash rest) (length rest) ≡ b
    → slice_split is_slash rest ≡ lab_in rest ∷ segments (place_in rest)
one_or_more rest true is = more_segments rest (grind (arith, common_steps))
one_or_more rest false is = last_segment rest (all_passed is_slash rest is)

-- what follows a laboratory's code is empty, or begins with a slash
pub slash_follows : (rest : List ℕ) → nat_lt (position_or_len is_slash rest) (length rest) ≡ true → place_in rest ≡ 47 ∷ after_first is_slash rest
slash_follows rest is =
    let found : position_or_len is_slash rest < length rest = grind (arith, common_steps) in
    let slashed : is_slash (get_or rest (position_or_len is_slash rest) 0) ≡ true = passes_at_first is_slash rest 0 found in
    let same : get_or rest (position_or_len is_slash rest) 0 ≡ 47 = grind (arith, nat_tests) in
    slash_begins rest found ∙ ap (λ b. b ∷ after_first is_slash rest) same

pub nothing_follows : (rest : List ℕ) → nat_lt (position_or_len is_slash rest) (length rest) ≡ false → place_in rest ≡ []
nothing_follows rest is = no_place rest (all_passed is_slash rest is)

-- a place without a slash has no segment
pub no_segment : (place : List ℕ) → position_or_len is_slash place ≡ length place → segments place ≡ []
unfolding segments
no_segment place none = ap (drop 1) (one_part is_slash place none)

-- behind the first slash stand the first segment and the others
pub first_segment : (place : List ℕ) → position_or_len is_slash place < length place
    → segments place ≡ lab_in (after_first is_slash place) ∷ segments (place_in (after_first is_slash place))
unfolding segments
first_segment place found =
    ap (drop 1) (slice_split_first is_slash place 0 found) ∙ one_or_more (after_first is_slash place) _ refl
