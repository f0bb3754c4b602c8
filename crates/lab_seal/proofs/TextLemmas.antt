-- What a code, a name, a note, a unit or a moment is written as is UTF-8, and short.
use Rattle.std.proofs.Common.{◌≡◌, ℕ, ◌+◌, ◌/◌, ◌%◌, ◌^◌, ◌<◌, ◌≤◌, Bool, List, [], ◌∷◌, ◌++◌, length, refl, true, ◌==◌, arith, IsTrue, inl, inr}
use Rattle.std.specs.Prelude.{◌&&◌, nat_le}
use Rattle.std.specs.List.{list_all}
use Rattle.std.specs.Str.{IsAscii, IsUtf8}
use Rattle.std.proofs.lemmas.Bool.{and_parts, or_cases, leb-true, eqb-true}
use Rattle.std.proofs.lemmas.Bool.Decides.{nat_tests}
use Rattle.std.proofs.lemmas.Str.{IsAscii-append, IsUtf8-from_ascii, IsUtf8-from_is_utf8, IsUtf8-nil}
use Rattle.std.proofs.lemmas.Str.Ascii.{IsAscii-nil, IsAscii-cons}
use Rattle.lab_forms_texts.specs.Calendar.{two_digits, four_digits, day_of, year_of, month_of, day_of_month, hour_of, minute_of, second_of}
use Rattle.lab_forms_texts.specs.Moment.{is_moment, date_time_text, moment_text}
use Rattle.lab_forms_texts.specs.Names.{is_code_byte, is_code, is_lab_code, is_person_code, is_key, is_name, is_note, is_unit}
use Rattle.lab_forms_texts.proofs.MomentLemmas.{in_width}

code_byte_ascii : (mark b : ℕ) → mark < 128 → is_code_byte mark b ≡ true → b < 128
code_byte_ascii mark b low h = grind (arith, nat_tests)

code_bytes_ascii : (mark : ℕ) (bs : List ℕ) → mark < 128 → list_all (is_code_byte mark) bs ≡ true → IsAscii bs
code_bytes_ascii mark [] low h = IsAscii-nil
code_bytes_ascii mark (b ∷ bs) low h =
    let parts = and_parts (is_code_byte mark b) (list_all (is_code_byte mark) bs) h in
    IsAscii-cons b bs (code_byte_ascii mark b low parts.0) (code_bytes_ascii mark bs low parts.1)

code_utf8 : (mark least most : ℕ) (text : List ℕ) → mark < 128 → is_code mark least most text ≡ true → IsUtf8 text
code_utf8 mark least most text low h =
    IsUtf8-from_ascii text (code_bytes_ascii mark text low (and_parts _ _ h).1)

pub lab_code_utf8 : (text : List ℕ) → IsTrue (is_lab_code text) → IsUtf8 text
unfolding is_lab_code
lab_code_utf8 text h = code_utf8 45 1 12 text (omega arith) h

pub person_code_utf8 : (text : List ℕ) → IsTrue (is_person_code text) → IsUtf8 text
unfolding is_person_code
person_code_utf8 text h = code_utf8 45 2 16 text (omega arith) h

pub key_utf8 : (text : List ℕ) → IsTrue (is_key text) → IsUtf8 text
unfolding is_key
key_utf8 text h = code_utf8 95 1 24 text (omega arith) h

pub name_utf8 : (text : List ℕ) → IsTrue (is_name text) → IsUtf8 text
unfolding is_name
name_utf8 text h =
    let ends = and_parts _ _ (and_parts _ _ h).0 in
    let sized = and_parts _ _ (and_parts _ _ ends.0).0 in
    IsUtf8-from_is_utf8 text (and_parts _ _ sized.0).0

pub note_utf8 : (text : List ℕ) → IsTrue (is_note text) → IsUtf8 text
unfolding is_note
note_utf8 text h =
    let sized = and_parts _ _ (and_parts _ _ h).0 in
    IsUtf8-from_is_utf8 text (and_parts _ _ sized.0).0

no_bytes : (text : List ℕ) → (length text == 0) ≡ true → IsUtf8 text
no_bytes [] h = IsUtf8-nil
no_bytes (b ∷ bs) h = absurd (grind (arith, nat_tests))

pub unit_utf8 : (text : List ℕ) → IsTrue (is_unit text) → IsUtf8 text
unfolding is_unit
unit_utf8 text h =
    elim (or_cases _ _ h) [
      | inl empty ↦ no_bytes text empty
      | inr named ↦ name_utf8 text (and_parts _ _ named).1
    ]

-- bytes below 128
record Plain (text : List ℕ) : Type 0 where
  pub ascii : IsAscii text

joined : {xs ys : List ℕ} → Plain xs → Plain ys → Plain (xs ++ ys)
joined {xs} {ys} one other = record { ascii = IsAscii-append xs ys one.ascii other.ascii }

sign : (c : ℕ) → c < 128 → Plain (c ∷ [])
sign c low = record { ascii = IsAscii-cons c [] low IsAscii-nil }

two_plain : (n : ℕ) → n < 100 → Plain (two_digits n)
two_plain n low =
    let tens : 48 + n / 10 < 128 = omega arith in
    let ones : 48 + n % 10 < 128 = omega arith in
    record { ascii = IsAscii-cons (48 + n / 10) ((48 + n % 10) ∷ []) tens (sign (48 + n % 10) ones).ascii }

four_plain : (n : ℕ) → n < 10000 → Plain (four_digits n)
four_plain n low = joined (two_plain (n / 100) (omega arith)) (two_plain (n % 100) (omega arith))

date_plain : (y m d h i s : ℕ) → y < 10000 → m < 100 → d < 100 → h < 100 → i < 100 → s < 100
    → Plain (date_time_text y m d h i s)
date_plain y m d h i s yl ml dl hl il sl =
    let hyphen = sign 45 (omega arith) in
    let colon = sign 58 (omega arith) in
    joined (four_plain y yl) (joined hyphen (joined (two_plain m ml) (joined hyphen (joined (two_plain d dl)
    (joined (sign 84 (omega arith)) (joined (two_plain h hl) (joined colon (joined (two_plain i il) (joined colon
    (joined (two_plain s sl) (sign 90 (omega arith))))))))))))

pub moment_utf8 : (n : ℕ) → IsTrue (is_moment n) → IsUtf8 (moment_text n)
unfolding moment_text
moment_utf8 n h =
    let w = in_width n h in
    let plain = date_plain (year_of (day_of n)) (month_of (day_of n)) (day_of_month (day_of n)) (hour_of n) (minute_of n)
    (second_of n) (omega (arith, w.year)) w.month w.day (omega (arith, w.hour)) (omega (arith, w.minute)) (omega (arith, w.second)) in
    IsUtf8-from_ascii _ plain.ascii

pub moment_short : (n : ℕ) → length (moment_text n) < 2 ^ 64
unfolding moment_text
moment_short n = let size : length (moment_text n) ≡ 20 = refl in omega arith

-- ---- all of these are short

bounded : (most : ℕ) (text : List ℕ) → most ≤ 1000 → nat_le (length text) most ≡ true → length text < 2 ^ 64
bounded most text low h = let within : length text ≤ most = leb-true (length text) most h in omega arith

code_short : (most : ℕ) (text : List ℕ) (a b c : Bool) → most ≤ 1000 → (a && nat_le (length text) most && b && c) ≡ true
    → length text < 2 ^ 64
code_short most text a b c low h = bounded most text low (and_parts _ _ (and_parts _ _ (and_parts _ _ h).0).0).1

pub lab_code_short : (text : List ℕ) → IsTrue (is_lab_code text) → length text < 2 ^ 64
unfolding is_lab_code
lab_code_short text h = code_short 12 text _ _ _ (omega arith) h

pub person_code_short : (text : List ℕ) → IsTrue (is_person_code text) → length text < 2 ^ 64
unfolding is_person_code
person_code_short text h = code_short 16 text _ _ _ (omega arith) h

pub key_short : (text : List ℕ) → IsTrue (is_key text) → length text < 2 ^ 64
unfolding is_key
key_short text h = code_short 24 text _ _ _ (omega arith) h

pub name_short : (text : List ℕ) → IsTrue (is_name text) → length text < 2 ^ 64
unfolding is_name
name_short text h =
    bounded 120 text (omega arith) (and_parts _ _ (and_parts _ _ (and_parts _ _ (and_parts _ _ h).0).0).0).1

pub note_short : (text : List ℕ) → IsTrue (is_note text) → length text < 2 ^ 64
unfolding is_note
note_short text h = bounded 1000 text (omega arith) (and_parts _ _ (and_parts _ _ h).0).1

pub unit_short : (text : List ℕ) → IsTrue (is_unit text) → length text < 2 ^ 64
unfolding is_unit
unit_short text h =
    elim (or_cases _ _ h) [
      | inl empty ↦ let none : length text ≡ 0 = eqb-true (length text) 0 empty in omega arith
      | inr named ↦ bounded 20 text (omega arith) (and_parts _ _ named).0
    ]
