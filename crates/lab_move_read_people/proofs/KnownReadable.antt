-- Values from outside, computed on the definitions: a row of an older schema that is readable, and columns that are not.
use Rattle.std.proofs.Common.{◌≡◌, pos, true, false, [], ◌∷◌, replicate, refl}
use Rattle.std.specs.Prelude.{codes}
use Rattle.std.specs.Str.{is_utf8, chars}
use lib.Utf8.{encode}
use Rattle.sqlite_value.specs.declared.value.Value.TheVariants.{Null, Int, Text, Blob}
use Rattle.sqlite_value.specs.Order.{Row}
use Rattle.lab_forms_texts.specs.Names.{is_name, is_note, is_person_code}
use Rattle.lab_store_read.specs.Cells.{is_number, stands}
use Rattle.lab_move_read_people.specs.Readable.{is_flag, is_sum, is_old_rounds, is_reason, HasOldPerson}

-- ann chose a password, and asked for nothing
abbrev ann : Row
ann =
    Text (codes "ann") ∷ Text (codes "Ann Ames") ∷ Int (pos 9) ∷ Int (pos 0) ∷ Int (pos 4) ∷ Null ∷ Int (pos 1) ∷ Blob (replicate 16 7) ∷ Int (pos 10000) ∷ Blob (replicate 32 8) ∷ Null ∷ Null ∷ Int (pos 900)
    ∷ Null ∷ Null ∷ Null ∷ Null ∷ []

pub known_person : HasOldPerson ann
unfolding is_person_code is_name is_utf8 chars encode
known_person = record {
  code = refl;
  name = refl;
  roles = refl;
  retired = refl;
  failures = refl;
  locked = refl;
  password = record {
    kind = refl;
    unset = λ wrong. absurd cc;
    chosen = λ _. record { verifier = record { salt = refl; rounds = refl; made = refl }; salt2 = refl; made2 = refl; changed = refl };
    one_time = λ wrong. absurd cc;
  };
  ask = record { asker = refl; asked = tt; unasked = λ _. record { asked = refl; salt = refl; made = refl } };
}

-- no flag but 0 and 1, no sum of roles above 31, no other rounds; a reason may be an empty text
pub known_columns : (stands (is_number is_flag) (Int (pos 1) ∷ []) 0 ≡ true) × (stands (is_number is_flag) (Int (pos 2) ∷ []) 0 ≡ false) × (stands (is_number is_sum) (Int (pos 31) ∷ []) 0 ≡ true)
    × (stands (is_number is_sum) (Int (pos 32) ∷ []) 0 ≡ false) × (stands (is_number is_old_rounds) (Int (pos 100000) ∷ []) 0 ≡ false) × (stands is_reason (Null ∷ []) 0 ≡ true)
    × (stands is_reason (Text [] ∷ []) 0 ≡ true) × (stands is_reason (Text (codes "x") ∷ []) 0 ≡ true) × (stands is_reason (Int (pos 1) ∷ []) 0 ≡ false)
unfolding is_note is_utf8 chars encode
known_columns = (refl, refl, refl, refl, refl, refl, refl, refl, refl)
