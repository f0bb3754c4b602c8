-- What is left to test of a text that is UTF-8.
use Rattle.std.proofs.Common.{◌≡◌, ◌≢◌, ℕ, ◌-◌, ◌<◌, ◌≤◌, List, length, get_or, arith}
use Rattle.std.specs.Prelude.{◌&&◌, nat_lt, nat_le}
use Rattle.std.specs.List.{list_all}
use Rattle.std.specs.Str.{IsUtf8}
use Rattle.std.proofs.lemmas.Str.{is_utf8-from_IsUtf8}
use Rattle.std.proofs.lemmas.Bool.Decides.{nat_tests}
use Rattle.lab_forms_texts.specs.Names.{is_name, is_name_byte, is_note, is_note_byte}

pub is_name_of_bytes : (text : List ℕ) → IsUtf8 text → 0 < length text → length text ≤ 120 → get_or text 0 0 ≢ 32 → get_or text (length text - 1) 0 ≢ 32 → is_name text ≡ list_all is_name_byte text
unfolding is_name
is_name_of_bytes text utf8 some few first last =
    let is_text = is_utf8-from_IsUtf8 text utf8 in
    rw is_text (grind (arith, nat_tests))

pub is_note_of_bytes : (text : List ℕ) → IsUtf8 text → is_note text ≡ (nat_lt 0 (length text) && nat_le (length text) 1000 && list_all is_note_byte text)
unfolding is_note
is_note_of_bytes text utf8 = rw (is_utf8-from_IsUtf8 text utf8)
