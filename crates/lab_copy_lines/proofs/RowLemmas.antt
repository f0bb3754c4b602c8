-- Thirteen fields as columns, and the header's.
use Rattle.std.proofs.Common.{◌≡◌, ◌≢◌, ℕ, false, List, [], ◌∷◌, length, Some, None, refl, ap, sym, ◌∙◌, arith}
use Rattle.std.specs.Str.{bytes_eq}
use Rattle.std.specs.Cmp.Lexicographic.{pointwise, unequal}
use Rattle.csv.specs.Records.{field_at}
use Rattle.lab_seal.proofs.ReadLemmas.{some_same}
use Rattle.lab_copy_rows.specs.Rows.{Columns, fields_in, header_row}
use Rattle.lab_copy_rows.specs.Copies.{is_header}
use Rattle.lab_copy_rows.specs.Reading.{columns_of}
use Rattle.lab_copy_lines.specs.Fields.{columns_in}
use Rattle.lab_copy_lines.specs.declared.columns.RowFields.{RowFields}
use Rattle.lab_copy_lines.specs.Private.Lines.{field_in, has_header_names}

no_some : {A P : Type 0} (x : A) → None ≡ Some x → P
no_some x e = let never : None ≡ Some x = e in absurd (cc)

-- the columns of the fields in order
abbrev pub columns_by : List (List ℕ) → Columns
columns_by fields = record {
  kind = field_in fields 0;
  lab = field_in fields 1;
  record_number = field_in fields 2;
  version = field_in fields 3;
  key = field_in fields 4;
  value = field_in fields 5;
  unit = field_in fields 6;
  person = field_in fields 7;
  name = field_in fields 8;
  moment = field_in fields 9;
  reason = field_in fields 10;
  digest = field_in fields 11;
  seal = field_in fields 12;
}

pub thirteen : (fields : List (List ℕ)) → length fields ≡ 13 → columns_of fields ≡ Some (columns_by fields)
unfolding field_at
thirteen [] few = absurd (omega arith)
thirteen (a ∷ []) few = absurd (omega arith)
thirteen (a ∷ b ∷ []) few = absurd (omega arith)
thirteen (a ∷ b ∷ c ∷ []) few = absurd (omega arith)
thirteen (a ∷ b ∷ c ∷ d ∷ []) few = absurd (omega arith)
thirteen (a ∷ b ∷ c ∷ d ∷ e ∷ []) few = absurd (omega arith)
thirteen (a ∷ b ∷ c ∷ d ∷ e ∷ f ∷ []) few = absurd (omega arith)
thirteen (a ∷ b ∷ c ∷ d ∷ e ∷ f ∷ g ∷ []) few = absurd (omega arith)
thirteen (a ∷ b ∷ c ∷ d ∷ e ∷ f ∷ g ∷ h ∷ []) few = absurd (omega arith)
thirteen (a ∷ b ∷ c ∷ d ∷ e ∷ f ∷ g ∷ h ∷ i ∷ []) few = absurd (omega arith)
thirteen (a ∷ b ∷ c ∷ d ∷ e ∷ f ∷ g ∷ h ∷ i ∷ j ∷ []) few = absurd (omega arith)
thirteen (a ∷ b ∷ c ∷ d ∷ e ∷ f ∷ g ∷ h ∷ i ∷ j ∷ k ∷ []) few = absurd (omega arith)
thirteen (a ∷ b ∷ c ∷ d ∷ e ∷ f ∷ g ∷ h ∷ i ∷ j ∷ k ∷ l ∷ []) few = absurd (omega arith)
thirteen (a ∷ b ∷ c ∷ d ∷ e ∷ f ∷ g ∷ h ∷ i ∷ j ∷ k ∷ l ∷ m ∷ []) few = refl
thirteen (a ∷ b ∷ c ∷ d ∷ e ∷ f ∷ g ∷ h ∷ i ∷ j ∷ k ∷ l ∷ m ∷ n ∷ rest) few = absurd (omega arith)

-- what the code has of them
pub columns_made : (fields : List (List ℕ)) (row : RowFields) → length fields ≡ 13
    → columns_in row ≡ columns_by fields → Some (columns_in row) ≡ columns_of fields
columns_made fields row few same = ap (λ columns. Some columns) same ∙ sym (thirteen fields few)

pub not_thirteen : (fields : List (List ℕ)) → (length fields ≢ 13) → columns_of fields ≡ None
not_thirteen [] other = refl
not_thirteen (a ∷ []) other = refl
not_thirteen (a ∷ b ∷ []) other = refl
not_thirteen (a ∷ b ∷ c ∷ []) other = refl
not_thirteen (a ∷ b ∷ c ∷ d ∷ []) other = refl
not_thirteen (a ∷ b ∷ c ∷ d ∷ e ∷ []) other = refl
not_thirteen (a ∷ b ∷ c ∷ d ∷ e ∷ f ∷ []) other = refl
not_thirteen (a ∷ b ∷ c ∷ d ∷ e ∷ f ∷ g ∷ []) other = refl
not_thirteen (a ∷ b ∷ c ∷ d ∷ e ∷ f ∷ g ∷ h ∷ []) other = refl
not_thirteen (a ∷ b ∷ c ∷ d ∷ e ∷ f ∷ g ∷ h ∷ i ∷ []) other = refl
not_thirteen (a ∷ b ∷ c ∷ d ∷ e ∷ f ∷ g ∷ h ∷ i ∷ j ∷ []) other = refl
not_thirteen (a ∷ b ∷ c ∷ d ∷ e ∷ f ∷ g ∷ h ∷ i ∷ j ∷ k ∷ []) other = refl
not_thirteen (a ∷ b ∷ c ∷ d ∷ e ∷ f ∷ g ∷ h ∷ i ∷ j ∷ k ∷ l ∷ []) other = refl
not_thirteen (a ∷ b ∷ c ∷ d ∷ e ∷ f ∷ g ∷ h ∷ i ∷ j ∷ k ∷ l ∷ m ∷ []) other = absurd (other refl)
not_thirteen (a ∷ b ∷ c ∷ d ∷ e ∷ f ∷ g ∷ h ∷ i ∷ j ∷ k ∷ l ∷ m ∷ n ∷ rest) other = refl

-- ---- the header

pub columns_back : (fields : List (List ℕ)) (row : Columns) → columns_of fields ≡ Some row → fields ≡ fields_in row
columns_back [] row is = no_some row is
columns_back (a ∷ []) row is = no_some row is
columns_back (a ∷ b ∷ []) row is = no_some row is
columns_back (a ∷ b ∷ c ∷ []) row is = no_some row is
columns_back (a ∷ b ∷ c ∷ d ∷ []) row is = no_some row is
columns_back (a ∷ b ∷ c ∷ d ∷ e ∷ []) row is = no_some row is
columns_back (a ∷ b ∷ c ∷ d ∷ e ∷ f ∷ []) row is = no_some row is
columns_back (a ∷ b ∷ c ∷ d ∷ e ∷ f ∷ g ∷ []) row is = no_some row is
columns_back (a ∷ b ∷ c ∷ d ∷ e ∷ f ∷ g ∷ h ∷ []) row is = no_some row is
columns_back (a ∷ b ∷ c ∷ d ∷ e ∷ f ∷ g ∷ h ∷ i ∷ []) row is = no_some row is
columns_back (a ∷ b ∷ c ∷ d ∷ e ∷ f ∷ g ∷ h ∷ i ∷ j ∷ []) row is = no_some row is
columns_back (a ∷ b ∷ c ∷ d ∷ e ∷ f ∷ g ∷ h ∷ i ∷ j ∷ k ∷ []) row is = no_some row is
columns_back (a ∷ b ∷ c ∷ d ∷ e ∷ f ∷ g ∷ h ∷ i ∷ j ∷ k ∷ l ∷ []) row is = no_some row is
columns_back (a ∷ b ∷ c ∷ d ∷ e ∷ f ∷ g ∷ h ∷ i ∷ j ∷ k ∷ l ∷ m ∷ []) row is =
    ap fields_in (some_same _ row is)
columns_back (a ∷ b ∷ c ∷ d ∷ e ∷ f ∷ g ∷ h ∷ i ∷ j ∷ k ∷ l ∷ m ∷ n ∷ rest) row is = no_some row is

pub header_found : (fields : List (List ℕ)) (row : Columns) → Some row ≡ columns_of fields → has_header_names row ≡ is_header fields
header_found fields row is =
    sym (ap (λ all. pointwise bytes_eq all (fields_in header_row)) (columns_back fields row (sym is)))

pub header_missing : (fields : List (List ℕ)) → None ≡ columns_of fields → false ≡ is_header fields
header_missing fields is = sym (unequal bytes_eq fields (fields_in header_row) (λ long. no_some (columns_by fields) (is ∙ thirteen fields long)))
