-- What is written of a row's columns is read back, for every list of columns.
use Rattle.std.proofs.Common.{◌≡◌, ◌+◌, Bool, true, false, [], ◌∷◌, ◌++◌, List, length, Some, None, refl, sym, ap, ap₂, ◌∙◌, append_assoc, length-append}
use Rattle.sqlite_value.specs.declared.value.Value.{Value}
use Rattle.sqlite_value.specs.Order.{Row, column}
use Rattle.lab_store_tables.specs.Values.{optional_in}
use Rattle.lab_store_tables.specs.Sheets.{Content, Id, Number, Flag, Words, Octets, Held, HeldIn, write, read, write_in, read_in, Described, Cells, row_of, cells_at}

read_one : (content : Content) (x : Held content) → read content (write content x) ≡ x
read_one Id n = refl
read_one Number n = refl
read_one Flag true = refl
read_one Flag false = refl
read_one Words t = refl
read_one Octets b = refl

read_some : (content : Content) (x : Held content) →
    optional_in (read content) (write content x) ≡ Some x
read_some Id n = refl
read_some Number n = refl
read_some Flag true = refl
read_some Flag false = refl
read_some Words t = refl
read_some Octets b = refl

back_in : (needed : Bool) (content : Content) (x : HeldIn needed content) →
    read_in needed content (write_in needed content x) ≡ x
back_in true content x = read_one content x
back_in false content None = refl
back_in false content (Some x) = read_some content x

at_end : (before : Row) (v : Value) (vs : Row) → column (before ++ v ∷ vs) (length before) ≡ v
at_end [] v vs = refl
at_end (b ∷ before) v vs = at_end before v vs

cells_behind : (cs : List Described) (x : Cells cs) (before : Row) → cells_at cs (length before) (before ++ row_of cs x) ≡ x
cells_behind [] x before = refl
cells_behind (c ∷ cs) x before =
    let v = write_in c.needed c.content x.0 in
    let vs = row_of cs x.1 in
    let first : read_in c.needed c.content (column (before ++ v ∷ vs) (length before)) ≡ x.0 = ap (read_in c.needed c.content) (at_end before v vs) ∙ back_in c.needed c.content x.0 in
    let places : length before + 1 ≡ length (before ++ v ∷ []) = sym (length-append before (v ∷ [])) in
    let rows : before ++ v ∷ vs ≡ (before ++ v ∷ []) ++ vs = sym (append_assoc before (v ∷ []) vs) in
    let others : cells_at cs (length before + 1) (before ++ v ∷ vs) ≡ x.1 = ap₂ (cells_at cs) places rows ∙ cells_behind cs x.1 (before ++ v ∷ []) in
    λ i. (first i, others i)

pub cells_back : (cs : List Described) (x : Cells cs) (a b : Value) → cells_at cs 2 (a ∷ b ∷ row_of cs x) ≡ x
cells_back cs x a b = cells_behind cs x (a ∷ b ∷ [])
