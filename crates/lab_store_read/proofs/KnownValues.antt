-- Values from outside, so that a wrong rule in the definitions does not check: faults, columns, and the code of a person of the
-- small file of `lab_store_tables`.
use Rattle.std.proofs.Common.{◌≡◌, ℕ, pos, negsuc, true, false, List, [], ◌∷◌, encode_utf8_all, refl}
use Rattle.std.specs.Prelude.{codes}
use Rattle.std.specs.Str.{is_utf8, all_scalars}
use Rattle.std.proofs.lemmas.Str.{is_utf8-from_IsUtf8}
use Rattle.sqlite_value.specs.declared.value.Value.TheVariants.{Null, Int, Text, Blob}
use Rattle.sqlite.specs.declared.error.Error.TheVariants.{SqliteFailure, QueryReturnedNoRows}
use Rattle.sqlite.specs.declared.error.ErrorCode.TheVariants.{OutOfMemory}
use Rattle.lab_store_tables.proofs.KnownFile.{file}
use Rattle.lab_forms_texts.specs.Moment.{is_moment}
use Rattle.lab_forms_texts.specs.Names.{is_person_code}
use Rattle.lab_forms_texts.specs.declared.refusals.Fault.TheVariants.{Refused, Memory}
use Rattle.lab_store_read.specs.Cells.{is_id, is_number, is_small, is_text_cell, is_digest, is_optional, stands}
use Rattle.lab_store_read.specs.Private.Faults.{name_fault}
use Rattle.lab_store_read.specs.Faults.{store_fault}
use Rattle.lab_store_read.specs.Shown.{codes_shown}

-- the code of one person alone
pub known_codes : (codes_shown file (pos 6) ≡ (Text (codes "eve") ∷ []) ∷ []) × (codes_shown file (pos 3) ≡ [])
known_codes = (refl, refl)

-- a text that is no name is a fault of what is stored, not of memory
pub known_faults : (name_fault (Refused (record {})) ≡ Refused (record {})) × (store_fault QueryReturnedNoRows ≡ Refused (record {}))
    × (store_fault (SqliteFailure OutOfMemory) ≡ Memory)
known_faults = (refl, refl, refl)

-- the last second of 9999 is a moment and the next is none; 2^32 is no count, and nothing below zero is a number
pub known_numbers : (is_number is_moment (Int (pos 253402300799)) ≡ true) × (is_number is_moment (Int (pos 253402300800)) ≡ false)
    × (is_number is_small (Int (pos 4294967295)) ≡ true) × (is_number is_small (Int (pos 4294967296)) ≡ false)
    × (is_number is_small (Int (negsuc 0)) ≡ false) × (is_number is_small (Text (codes "1")) ≡ false)
known_numbers = (refl, refl, refl, refl, refl, refl)

-- characters below 128 are their own bytes
plain : (text : List ℕ) → all_scalars text ≡ true → encode_utf8_all text ≡ text → is_utf8 text ≡ true
plain text scalars same = is_utf8-from_IsUtf8 text (text, (scalars, same))

-- a code in capitals is none, nor is one whose bytes aren't a text's
pub known_texts : (is_text_cell is_person_code (Text (codes "eve")) ≡ true) × (is_text_cell is_person_code (Text (codes "Eve")) ≡ false)
    × (is_text_cell is_person_code (Blob (codes "eve")) ≡ false)
unfolding is_person_code lib.Utf8.encode
known_texts = (rw (plain (codes "eve") refl refl), rw (plain (codes "Eve") refl refl), refl)

-- NULL is an id or none, and no id; behind a row's end stands not even NULL
pub known_places : (is_optional is_id Null ≡ true) × (is_id Null ≡ false) × (stands (is_optional is_id) (Null ∷ []) 0 ≡ true)
    × (stands (is_optional is_id) (Null ∷ []) 1 ≡ false) × (is_digest (Blob (codes "0123456789abcdef0123456789abcdef")) ≡ true)
    × (is_digest (Blob (codes "0123456789abcdef")) ≡ false)
known_places = (refl, refl, refl, refl, refl, refl)
