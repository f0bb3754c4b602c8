-- Lower hexadecimal digits are read as the bytes that are written so, and every bytes' digits are read.
use Rattle.std.proofs.Common.{◌≡◌, ◌≢◌, ℕ, zero, suc, ◌+◌, ◌*◌, ◌/◌, ◌%◌, ◌<◌, Bool, true, false, List, [], ◌∷◌, length, slice_index, Option, Some, None, unwrap_or, Result, Ok, Err, refl, sym, ap, ◌∙◌, arith, IsTrue, inl, inr}
use Rattle.std.specs.Prelude.{◌&&◌, ◌||◌, ◌==◌, ◌↔◌, nat_lt, not, is_some, IsSome, IfSome, IsOk}
use Rattle.std.specs.List.{AllPass, list_all}
use Rattle.std.specs.Result.{result_ok}
use Rattle.std.proofs.lemmas.Bool.{and_parts, and_from, cond-true, cond-false, cases_eq, cases_lt, eqb-true, ltb-true}
use Rattle.std.proofs.lemmas.List.Sums.{AllPass-from_list_all, list_all-from_AllPass}
use Rattle.hex.specs.Hex.{IsBytes, hex_digit_value, is_hex_digit, value_at, digit_or_error, pair_value, decode_pairs, decode_sized, decode_of, encode_lower, encode_with, lower_digits}
use Rattle.hex.specs.declared.error.FromHexError.{FromHexError}
use Rattle.hex.proofs.HexLemmas.{length-encode_with, decode_sized-twice, decode_sized-ok, decode_of-even, decode_of-same, decode_of-ok, decode_sized-encode_lower}
use Rattle.hex.proofs.Pairs.{cons_byte, decode_pairs-ok_pair}
use Rattle.lab_seal_hashes.specs.Digits.{is_lower_digit, AreLowerDigits, bytes_of_digits}

-- ---- tests of one place that compute, over all places below a bound

abbrev all_below : (ℕ → Bool) → ℕ → Bool
all_below test zero = true
all_below test (suc n) = test n && all_below test n

all_below-at : (test : ℕ → Bool) (n k : ℕ) → all_below test n ≡ true → k < n → test k ≡ true
all_below-at test zero k h lt = absurd (omega arith)
all_below-at test (suc n) k h lt =
    let parts = and_parts (test n) (all_below test n) h in
    elim (cases_lt k n) [
      | inl below ↦ all_below-at test n k parts.1 below
      | inr top ↦
          let e : k ≡ n = omega arith in
          rw e parts.0
    ]

abbrev value : ℕ → ℕ
value c = unwrap_or (hex_digit_value c) 99

-- a lower digit has a value, of which it is the digit
abbrev spells_back : ℕ → Bool
spells_back c = not (is_lower_digit c) || (nat_lt (value c) 16 && (slice_index lower_digits (value c) == c))

abbrev is_written_lower : ℕ → Bool
is_written_lower v = is_lower_digit (slice_index lower_digits v)

record IsDigitOf (c v : ℕ) : Type 0 where
  pub read : hex_digit_value c ≡ Some v
  pub small : v < 16
  pub back : slice_index lower_digits v ≡ c

lower_small : (c : ℕ) → is_lower_digit c ≡ true → c < 103
lower_small c h = grind (arith)

from_test : (o : Option ℕ) → unwrap_or o 99 < 16 → o ≡ Some (unwrap_or o 99)
from_test (Some v) lt = refl
from_test None lt = absurd (omega arith)

digit_of : (c : ℕ) → is_lower_digit c ≡ true → IsDigitOf c (value c)
digit_of c h =
    let test : spells_back c ≡ true = all_below-at spells_back 103 c refl (lower_small c h) in
    let is_small : Bool = nat_lt (value c) 16 in
    let is_back : Bool = slice_index lower_digits (value c) == c in
    let both : (is_small && is_back) ≡ true = rw h at test in
    let parts = and_parts is_small is_back both in
    let small : value c < 16 = ltb-true (value c) 16 parts.0 in
    record { read = from_test (hex_digit_value c) small; small = small; back = eqb-true _ c parts.1 }

written_lower : (v : ℕ) → v < 16 → is_lower_digit (slice_index lower_digits v) ≡ true
written_lower v lt = all_below-at is_written_lower 16 v refl lt

-- ---- lists of them

-- digits that are read
record IsRead (i : ℕ) (digits : List ℕ) : Type 0 where
  pub bytes : List ℕ
  pub read : decode_pairs i digits ≡ Ok bytes
  pub back : encode_lower bytes ≡ digits

read_lower : (i : ℕ) (digits : List ℕ) → length digits % 2 ≡ 0 → list_all is_lower_digit digits ≡ true → IsRead i digits
unfolding decode_pairs encode_with
read_lower i [] even h = record { bytes = []; read = refl; back = refl }
read_lower i (a ∷ []) even h = absurd (omega arith)
read_lower i (a ∷ b ∷ rest) even h =
    let first = and_parts (is_lower_digit a) (list_all is_lower_digit (b ∷ rest)) h in
    let second = and_parts (is_lower_digit b) (list_all is_lower_digit rest) first.1 in
    let high = digit_of a first.0 in
    let low = digit_of b second.0 in
    let more = read_lower (i + 2) rest (omega arith) second.1 in
    let byte : ℕ = value a * 16 + value b in
    let small = low.small in
    let pair : pair_value a b i ≡ Ok byte = rw (high.read, low.read) refl in
    let over : byte / 16 ≡ value a = omega (arith, small) in
    let under : byte % 16 ≡ value b = omega (arith, small) in
    record {
      bytes = byte ∷ more.bytes;
      read = decode_pairs-ok_pair i a b _ rest pair ∙ ap (cons_byte byte) more.read;
      back = rw (over, under, high.back, low.back, more.back) refl;
    }

lower_written : (bytes : List ℕ) → IsBytes bytes → list_all is_lower_digit (encode_lower bytes) ≡ true
unfolding encode_with
lower_written [] h = refl
lower_written (b ∷ rest) h =
    let fits : b < 256 = h 0 in
    and_from _ _ (written_lower (b / 16) (omega arith))
    (and_from _ _ (written_lower (b % 16) (omega arith)) (lower_written rest (λ k. h (suc k))))

-- ---- bytes of digits

-- the bytes that are read of digits
pub record AreBytesOf (n : ℕ) (digits bytes : List ℕ) : Type 0 where
  pub long : length bytes ≡ n
  pub each : IsBytes bytes
  pub spelled : digits ≡ encode_lower bytes

pub digits_complete : (n : ℕ) (bytes : List ℕ) → length bytes ≡ n → IsBytes bytes
    → bytes_of_digits n (encode_lower bytes) ≡ Some bytes
unfolding bytes_of_digits
digits_complete n bytes long is =
    rw (lower_written bytes is, decode_sized-encode_lower bytes n long is) refl

none_read : (n : ℕ) (digits : List ℕ) → list_all is_lower_digit digits ≡ false → bytes_of_digits n digits ≡ None
unfolding bytes_of_digits
none_read n digits h = rw h refl

some_read : (n : ℕ) (digits : List ℕ) → list_all is_lower_digit digits ≡ true
    → bytes_of_digits n digits ≡ result_ok (decode_sized digits n)
unfolding bytes_of_digits
some_read n digits h = rw h refl

pub digits_exact : (n : ℕ) (digits : List ℕ) → IsSome (bytes_of_digits n digits) ↔ AreLowerDigits (2 * n) digits
digits_exact n digits = (λ h. of_some (list_all is_lower_digit digits) refl h, some_of)
  where
    of_some : (t : Bool) → list_all is_lower_digit digits ≡ t → IsSome (bytes_of_digits n digits) → AreLowerDigits (2 * n) digits
    of_some false e h = absurd (cc (rw (none_read n digits e) at h))
    of_some true e h =
        by (decode_sized digits n) refl (rw (some_read n digits e) at h)
      where
        by : (d : Result (List ℕ) FromHexError) → decode_sized digits n ≡ d → IsSome (result_ok d) → AreLowerDigits (2 * n) digits
        by (Ok bytes) is h = (decode_sized-ok digits n bytes is, AllPass-from_list_all is_lower_digit digits e)
        by (Err fault) is h = absurd (cc)

    some_of : AreLowerDigits (2 * n) digits → IsSome (bytes_of_digits n digits)
    some_of h =
        let long = h.0 in
        let lower = list_all-from_AllPass is_lower_digit digits h.1 in
        let even : length digits % 2 ≡ 0 = omega (arith, long) in
        let read = read_lower 0 digits even lower in
        rw (some_read n digits lower, decode_sized-twice digits n long, decode_of-even digits even, read.read) refl

pub digits_sound : (n : ℕ) (digits bytes : List ℕ) → bytes_of_digits n digits ≡ Some bytes → AreBytesOf n digits bytes
digits_sound n digits bytes h = by (list_all is_lower_digit digits) refl
  where
    by : (t : Bool) → list_all is_lower_digit digits ≡ t → AreBytesOf n digits bytes
    by false e = let never : None ≡ Some bytes = sym (none_read n digits e) ∙ h in absurd (cc)
    by true e = decoded (decode_sized digits n) refl (sym (some_read n digits e) ∙ h)
      where
        decoded : (d : Result (List ℕ) FromHexError) → decode_sized digits n ≡ d → result_ok d ≡ Some bytes → AreBytesOf n digits bytes
        decoded (Err fault) is g = absurd (cc)
        decoded (Ok found) is g =
            let long = decode_sized-ok digits n found is in
            let even : length digits % 2 ≡ 0 = omega (arith, long) in
            let read = read_lower 0 digits even e in
            let whole : decode_of digits ≡ Ok found = sym (decode_sized-twice digits n long) ∙ is in
            let same : read.bytes ≡ found = decode_of-same digits _ _ (decode_of-even digits even ∙ read.read) whole in
            let both : found ≡ bytes = ap (λ o. unwrap_or o []) g in
            let parts = decode_of-ok digits found whole in
            let twice : length digits ≡ 2 * length bytes = rw both at parts.2 in
            let size : length bytes ≡ n = omega (arith, long, twice) in
            record {
              long = size;
              each = rw both at parts.3;
              spelled = sym read.back ∙ ap encode_lower (same ∙ both);
            }

pub spelled_if_read : (n : ℕ) (digits : List ℕ) (o : Option (List ℕ)) → bytes_of_digits n digits ≡ o
    → IfSome o (λ bytes. digits ≡ encode_lower bytes)
spelled_if_read n digits None h = tt
spelled_if_read n digits (Some bytes) h = (digits_sound n digits bytes h).spelled
