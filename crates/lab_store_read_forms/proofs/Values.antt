-- Columns that may be NULL, in which a value is wanted.
use Rattle.std.proofs.Common.{◌≡◌, ℕ, ◌&&◌, Bool, true, false, List, Option, Some, None, Result, Ok, Err, IfErr, slice_get, IsTrue, IsFalse, IsUtf8, refl}
use Rattle.std.specs.Prelude.{IsErrAnd}
use Rattle.std.specs.Str.{is_utf8}
use Rattle.std.proofs.lemmas.Str.{is_utf8-from_IsUtf8}
use Rattle.std.specs.Option.{option_map_or}
use Rattle.sqlite_value.specs.declared.value.Value.{Value}
use Rattle.sqlite_value.specs.declared.value.Value.TheVariants.{Null, Int, Real, Text, Blob}
use Rattle.sqlite_value.specs.Order.{Row}
use Rattle.lab_forms_texts.specs.declared.refusals.Fault.{Fault}
use Rattle.lab_forms_texts.specs.declared.refusals.Fault.TheVariants.{Refused, Memory}
use Rattle.lab_records_keeper.specs.declared.faults.BadStore.{BadStore}
use Rattle.lab_store_read.specs.Cells.{storage, is_optional, stands, IsNotRead, IsNotMade}

module _ (is_one : Value → Bool) (row : Row) (at : ℕ) where
  no_value : (o : Option Value) → IsFalse (option_map_or (is_optional is_one) o false) → ¬ IsTrue (option_map_or is_one o false)
  no_value None none is = absurd cc
  no_value (Some Null) none is = absurd cc
  no_value (Some (Int n)) none is = absurd cc
  no_value (Some (Real x)) none is = absurd cc
  no_value (Some (Text t)) none is = absurd cc
  no_value (Some (Blob b)) none is = absurd cc

  -- where neither NULL nor a value stands there
  pub unread : {fault : Fault BadStore} → IsNotRead (stands (is_optional is_one) row at) fault → ¬ IsTrue (stands is_one row at)
  unread it is = no_value (slice_get row at) it.0 is

  pub unmade : (fault : Fault BadStore) → IsNotMade (stands (is_optional is_one) row at) fault → fault ≡ storage → ¬ IsTrue (stands is_one row at)
  unmade (Refused bad) it told is = no_value (slice_get row at) it is
  unmade Memory it told is = absurd cc

  -- where NULL stands there
  pub null_there : is_one Null ≡ false → slice_get row at ≡ Some Null → ¬ IsTrue (stands is_one row at)
  null_there none null is = absurd (let wrong = rw (null, none) at is in cc)

-- memory ran out for a text that stands there
pub text_unmade : {B : Type 0} (bytes : List ℕ) → IsUtf8 bytes → (end : Result B (Fault BadStore)) → IsErrAnd end (λ fault. fault ≡ Memory)
    → IfErr end (IsNotMade (is_utf8 bytes && true))
text_unmade bytes utf8 (Ok b) failed = tt
text_unmade bytes utf8 (Err (Refused bad)) failed = absurd cc
text_unmade bytes utf8 (Err Memory) failed = rw (is_utf8-from_IsUtf8 bytes utf8) refl
