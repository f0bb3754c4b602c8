-- Digits and moments are texts, and the first field of a row is its kind.
use Rattle.std.proofs.Common.{◌≡◌, ℕ, ◌<◌, List, [], ◌∷◌, IsTrue, true, String, Global, Some, None, map, refl, arith, slice_get, string_bytes}
use Rattle.std.specs.Prelude.{nat_le}
use Rattle.std.specs.List.{list_all}
use Rattle.std.specs.Str.{IsUtf8, IsAscii}
use Rattle.std.proofs.lemmas.Bool.{and_parts}
use Rattle.std.proofs.lemmas.Bool.Decides.{nat_tests}
use Rattle.std.proofs.lemmas.Str.{IsUtf8-from_ascii}
use Rattle.std.proofs.lemmas.Str.Ascii.{IsAscii-nil, IsAscii-cons}
use Rattle.hex.specs.Hex.{encode_lower, lower_digits}
use Rattle.hex.proofs.HexLemmas.{IsAscii-encode_with}
use Rattle.lab_forms_texts.specs.Moment.{is_moment, moment_text}
use Rattle.lab_seal.proofs.TextLemmas.{moment_utf8}
use Rattle.lab_copy_rows.specs.Rows.{kind_in}

pub moment_is_text : (n : ℕ) → IsTrue (is_moment n) → IsUtf8 (moment_text n)
moment_is_text n h = moment_utf8 n h

low_byte : (byte : ℕ) → nat_le byte 127 ≡ true → byte < 128
low_byte byte h = grind (arith, nat_tests)

low_bytes : (bytes : List ℕ) → list_all (λ byte. nat_le byte 127) bytes ≡ true → IsAscii bytes
low_bytes [] h = IsAscii-nil
low_bytes (byte ∷ bytes) h =
    let parts = and_parts (nat_le byte 127) (list_all (λ byte. nat_le byte 127) bytes) h in
    IsAscii-cons byte bytes (low_byte byte parts.0) (low_bytes bytes parts.1)

digits_ascii : IsAscii lower_digits
digits_ascii = low_bytes lower_digits refl

pub digits_are_text : (bytes : List ℕ) → IsUtf8 (encode_lower bytes)
digits_are_text bytes = IsUtf8-from_ascii _ (IsAscii-encode_with lower_digits bytes digits_ascii)

pub kind_told : (texts : List (String Global)) (one : String Global) → Some one ≡ slice_get texts 0 → string_bytes one ≡ kind_in (map string_bytes texts)
kind_told [] one is = let never : Some one ≡ None = is in absurd (cc)
kind_told (first ∷ texts) one is = let same : Some one ≡ Some first = is in cc

pub kind_missing : (texts : List (String Global)) → None ≡ slice_get texts 0 → [] ≡ kind_in (map string_bytes texts)
kind_missing [] is = refl
kind_missing (first ∷ texts) is = let never : None ≡ Some first = is in absurd (cc)
