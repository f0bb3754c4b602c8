-- The parts of a number's text, how large the numbers are that digits write, and how one digit more changes them.
use Rattle.std.proofs.Common.{◌≡◌, ℕ, ◌+◌, ◌-◌, ◌*◌, ◌^◌, ◌<◌, ◌≤◌, List, [], length, get_or, take, drop, refl, sym, ap, arith, true, false, Bool, Some, None}
use Rattle.std.specs.Prelude.{◌&&◌, cond, nat_lt, position, if◌then◌else◌}
use Rattle.std.specs.List.{position_or_len}
use Rattle.std.proofs.Math.Nat.{pow-le-pow_right, mul-le-mul}
use Rattle.std.proofs.lemmas.Grind.{pow_more}
use Rattle.std.proofs.lemmas.Bool.Decides.{nat_tests}
use Rattle.std.proofs.Math.Bool.{and-true}
use Rattle.std.proofs.lemmas.List.{take_all, drop_all}
use Rattle.std.proofs.lemmas.List.Sums.{fold_more}
use Rattle.lab_forms.specs.Numbers.{is_point, has_point, whole_part, fraction_part, is_digits, decimal_value, is_unsigned_number, millionths_of}

-- one digit more
pub number_of-more : (text : List ℕ) (i : ℕ) → i < length text → decimal_value (take (i + 1) text) ≡ decimal_value (take i text) * 10 + (get_or text i 0 - 48)
unfolding decimal_value
number_of-more text i h = fold_more (λ number digit. number * 10 + (digit - 48)) 0 text i 0 h

-- a number below 10 ^ i gets a digit that keeps it below 10 ^ (i + 1), which is 10 ^ 15 at most
pub record HasRoom (number digit i : ℕ) : Type 0 where
  pub scaled : number * 10 < 10 ^ 15
  pub whole : number * 10 + digit < 10 ^ 15
  pub next : number * 10 + digit < 10 ^ (i + 1)

-- a power of ten up to a greater one
pub tens : (i j : ℕ) → i ≤ j → 10 ^ i ≤ 10 ^ j
tens i j h = let some : 0 < 10 = omega arith in pow-le-pow_right {n = 10} some {i = i} {j = j} h

pub has_room : (number digit i : ℕ) → number < 10 ^ i → digit < 10 → i < 15 → HasRoom number digit i
has_room number digit i small below few =
    let next : 10 ^ (i + 1) ≡ 10 ^ i * 10 = pow_more 10 i in
    let most : 10 ^ (i + 1) ≤ 10 ^ 15 = tens (i + 1) 15 (omega arith) in
    record {
      scaled = omega arith;
      whole = omega arith;
      next = omega arith;
    }

-- what a test lets through, and what not
pub read_none : {A : Type 0} (b : Bool) (x : A) → None ≡ (if b then Some x else None) → b ≡ false
read_none true x e = cc
read_none false x e = refl

pub read_some : {A : Type 0} (b : Bool) (x y : A) → Some y ≡ (if b then Some x else None) → (b ≡ true) × (y ≡ x)
read_some true x y e = (refl, cc)
read_some false x y e = (cc, cc)

-- where the point stands, and the parts of the text round it
pub record Splits (text : List ℕ) (i : ℕ) : Type 0 where
  pub whole : whole_part text ≡ take i text
  pub fraction : fraction_part text ≡ drop (i + 1) text
  pub point : has_point text ≡ true

place_is : (n k i : ℕ) → cond (nat_lt n k) (Some n) None ≡ Some i → n ≡ i
place_is n k i e = grind (arith, nat_tests)

no_place : (n k : ℕ) → cond (nat_lt n k) (Some n) None ≡ None → k ≤ n
no_place n k e = grind (arith, nat_tests)

pub splits : (text : List ℕ) (i : ℕ) → Some i ≡ position is_point text → Splits text i
splits text i e =
    let at : position_or_len is_point text ≡ i = place_is (position_or_len is_point text) (length text) i (sym e) in
    record {
      whole = ap (λ n. take n text) at;
      fraction = ap (λ n. drop (n + 1) text) at;
      point = rw (← e) refl;
    }

-- a text without a point is whole
pub record IsWhole (text : List ℕ) : Type 0 where
  pub whole : whole_part text ≡ text
  pub fraction : fraction_part text ≡ []
  pub point : has_point text ≡ false

pub is_whole : (text : List ℕ) → None ≡ position is_point text → IsWhole text
is_whole text e =
    let past : length text ≤ position_or_len is_point text = no_place (position_or_len is_point text) (length text) (sym e) in
    record {
      whole = take_all (position_or_len is_point text) text past;
      fraction = drop_all (position_or_len is_point text + 1) text (omega arith);
      point = rw (← e) refl;
    }

-- the test and the amount of a text without a point
pub unsigned-whole : (decimals : ℕ) (text : List ℕ) → None ≡ position is_point text → (is_unsigned_number decimals text ≡ is_digits 15 text) × (millionths_of text ≡ decimal_value text * 1000000)
unfolding is_unsigned_number millionths_of decimal_value
unsigned-whole decimals text e =
    let parts = is_whole text e in
    (rw (parts.whole, parts.point) (and-true (is_digits 15 text)), rw (parts.whole, parts.fraction) (omega arith))

-- and of one with a point
pub unsigned-split : (decimals i : ℕ) (text : List ℕ) → Some i ≡ position is_point text → (is_unsigned_number decimals text ≡ (is_digits 15 (take i text) && is_digits decimals (drop (i + 1) text))) × (millionths_of text ≡ decimal_value (take i text) * 1000000 + decimal_value (drop (i + 1) text) * 10 ^ (6 - length (drop (i + 1) text)))
unfolding is_unsigned_number millionths_of
unsigned-split decimals i text e =
    let parts = splits text i e in
    (rw (parts.whole, parts.fraction, parts.point) refl, rw (parts.whole, parts.fraction) refl)

-- millionths below 10 ^ 15 whole ones and the parts of one fit
pub fits_wide : (whole parts left : ℕ) → whole < 10 ^ 15 → parts < 10 ^ 15 → left ≤ 6 → (whole * 1000000 + parts * 10 ^ left < 2 ^ 127) × (10 ^ left < 2 ^ 64) × (parts * 10 ^ left < 2 ^ 127)
fits_wide whole parts left w p l =
    let scale : 10 ^ left ≤ 10 ^ 6 = tens left 6 l in
    let most : parts ≤ 10 ^ 15 = omega arith in
    let scaled : parts * 10 ^ left ≤ 10 ^ 15 * 10 ^ 6 = mul-le-mul {n₁ = parts} {m₁ = 10 ^ left} {n₂ = 10 ^ 15} {m₂ = 10 ^ 6} most scale in
    (omega arith, omega arith, omega arith)
