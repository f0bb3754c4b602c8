-- Where the first item that passes a test stands, or the end where none does.
use Rattle.std.proofs.Common.{ℕ, ◌≡◌, ◌+◌, ◌≤◌, Bool, true, false, not, cond, refl, List, [], ◌∷◌, Some, None, length, arith}
use Rattle.std.specs.Prelude.{position, nat_lt}
use Rattle.std.specs.List.{position_or_len}
use borrow.Author.Tests.{ltb-false}

found_place : (within : Bool) (first place : ℕ) → cond within (Some first) None ≡ Some place → place ≡ first
found_place true first place found = cc
found_place false first place found = absurd (cc)

no_place : (within : Bool) (first : ℕ) → cond within (Some first) None ≡ None → within ≡ false
no_place true first found = absurd (cc)
no_place false first found = refl

within_next : {A : Type 0} (passes : Bool) (k : ℕ) (others : List A) → k ≤ length others → cond (not passes) (1 + k) 0 ≤ 1 + length others
within_next true k others le = omega arith
within_next false k others le = omega arith

pub place_within : {A : Type 0} (p : A → Bool) (items : List A) → position_or_len p items ≤ length items
place_within p [] = omega arith
place_within p (one ∷ others) =
    let within = within_next (p one) (position_or_len p others) others (place_within p others) in
    omega arith

pub place_found : {A : Type 0} (p : A → Bool) (items : List A) (place : ℕ) → position p items ≡ Some place → place ≡ position_or_len p items
place_found p items place found = found_place (nat_lt (position_or_len p items) (length items)) (position_or_len p items) place found

pub place_at_end : {A : Type 0} (p : A → Bool) (items : List A) → position p items ≡ None → length items ≡ position_or_len p items
place_at_end p items none =
    let past = ltb-false (position_or_len p items) (length items)
    (no_place (nat_lt (position_or_len p items) (length items)) (position_or_len p items) none) in
    let within = place_within p items in
    omega arith
