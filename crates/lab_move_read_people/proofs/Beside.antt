-- The rounds of the second half of a one-time word.
use Rattle.std.proofs.Common.{◌≡◌, ℕ, false, Option, refl}
use Rattle.sqlite_value.specs.declared.value.Value.{Value}
use Rattle.sqlite_value.specs.declared.value.Value.TheVariants.{Null, Int, Real, Text, Blob}
use Rattle.sqlite_value.specs.Order.{bytes}
use Rattle.lab_store_tables.specs.Rows.{optional_in}
use Rattle.lab_move_tables.specs.OldRows.{beside}
use Rattle.lab_move_read_people.specs.Cells.{is_null}

-- beside what is there stands the other
pub beside_filled : (value : Value) (other : Option ℕ) → is_null value ≡ false → beside (optional_in bytes value) other ≡ other
beside_filled Null other h = absurd cc
beside_filled (Int n) other h = refl
beside_filled (Real x) other h = refl
beside_filled (Text t) other h = refl
beside_filled (Blob b) other h = refl
