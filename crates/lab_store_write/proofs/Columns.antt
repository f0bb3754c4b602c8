-- What a column holds stays as it is when it is stored there: of one value, and of all columns of a table.
use Rattle.std.proofs.Common.{◌≡◌, ℕ, ℤ, pos, Bool, true, false, List, [], ◌∷◌, map, Option, Some, None, refl}
use Rattle.sqlite_value.specs.declared.value.Value.TheVariants.{Null, Int, Blob as Bytes, Text as Words}
use Rattle.sqlite_schema.specs.declared.schema.Kind.TheVariants.{Integer, Text, Blob}
use Rattle.sqlite_rules.specs.Cast.{cast, cast_all, cast_row}
use Rattle.lab_store_tables.specs.Values.{number, flag, optional}
use Rattle.lab_store_tables.specs.Family.{Name, RowOf, kept, id_of}
use Rattle.lab_store_tables.proofs.FamilyWords.{stored_row, table_in}
use Rattle.lab_store_tables.specs.Sheets.{Content, Id, Number, Flag, Words as InWords, Octets, Held, HeldIn, write, write_in, stored_kind, Described, Sheet, Cells, row_of, column_in, table_of}
use Rattle.lab_store_write.proofs.Writes.{cast_int, cast_null}

pub cast_flag : (one : Bool) → cast Integer (flag one) ≡ flag one
cast_flag true = cast_int (pos 1)
cast_flag false = cast_int (pos 0)

pub cast_number : (one : Option ℕ) → cast Integer (optional number one) ≡ optional number one
cast_number None = cast_null
cast_number (Some n) = cast_int (pos n)

pub cast_id : (one : Option ℤ) → cast Integer (optional Int one) ≡ optional Int one
cast_id None = cast_null
cast_id (Some id) = cast_int id

pub cast_words : (one : Option (List ℕ)) → cast Text (optional Words one) ≡ optional Words one
cast_words None = refl
cast_words (Some words) = refl

pub cast_blob : (one : Option (List ℕ)) → cast Blob (optional Bytes one) ≡ optional Bytes one
cast_blob None = refl
cast_blob (Some bytes) = refl

-- ---- all columns of a table

cast_one : (content : Content) (x : Held content) →
    cast (stored_kind content) (write content x) ≡ write content x
cast_one Id n = cast_int n
cast_one Number n = cast_int (pos n)
cast_one Flag b = cast_flag b
cast_one InWords t = refl
cast_one Octets b = refl

cast_none : (content : Content) → cast (stored_kind content) Null ≡ Null
cast_none Id = cast_null
cast_none Number = cast_null
cast_none Flag = cast_null
cast_none InWords = refl
cast_none Octets = refl

cast_in : (needed : Bool) (content : Content) (x : HeldIn needed content) →
    cast (stored_kind content) (write_in needed content x) ≡ write_in needed content x
cast_in true content x = cast_one content x
cast_in false content None = cast_none content
cast_in false content (Some x) = cast_one content x

pub cast_cells : (cs : List Described) (x : Cells cs) → cast_all (map column_in cs) (row_of cs x) ≡ row_of cs x
cast_cells [] x = refl
cast_cells (c ∷ cs) x = λ i. cast_in c.needed c.content x.0 i ∷ cast_cells cs x.1 i

-- a row under its id, and one that is still to get an id
pub cast_whole : (sheet : Sheet) (id : ℤ) (x : Cells sheet.columns) → cast_row (table_of sheet) (Int id ∷ Null ∷ row_of sheet.columns x) ≡ Int id ∷ Null ∷ row_of sheet.columns x
cast_whole sheet id x = λ i. cast_int id i ∷ cast_null i ∷ cast_cells sheet.columns x i

pub cast_new : (sheet : Sheet) (x : Cells sheet.columns) → cast_row (table_of sheet) (Null ∷ Null ∷ row_of sheet.columns x) ≡ Null ∷ Null ∷ row_of sheet.columns x
cast_new sheet x = λ i. cast_null i ∷ cast_null i ∷ cast_cells sheet.columns x i

-- a row of a table, as it stands there
pub stays : (k : Name) (one : RowOf k) → cast_row (table_in k) (stored_row k one) ≡ stored_row k one
stays k one = cast_whole (kept k).sheet (id_of k one) ((kept k).cells one)
