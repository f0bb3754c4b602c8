-- A key, a text and a unit that fit a form are refused for nothing; and where a key has a value.
use Rattle.std.proofs.Common.{◌≡◌, ℕ, List, [], ◌∷◌, reverse, Bool, true, false, cond, refl, sym, ap, ◌∙◌, Option, Some, None}
use Rattle.std.specs.Prelude.{IsTrue, ◌&&◌, ◌||◌, not, find, is_some, if◌then◌else◌}
use Rattle.std.specs.List.{list_any}
use Rattle.std.proofs.lemmas.List.Folds.{list_any-append}
use Rattle.std.proofs.lemmas.List.Sorted.{list_any-IsPermutation, IsPermutation-reverse}
use Rattle.std.specs.Option.{option_map_or}
use Rattle.lab_forms.specs.declared.forms.Field.{Field}
use Rattle.lab_forms.specs.declared.faults.FormRefusal.{FormRefusal}
use Rattle.lab_forms.specs.declared.faults.FormRefusal.TheVariants.{NoSuchField, BadValue, WrongUnit, OutOfRange}
use Rattle.lab_forms.specs.Kinds.{fits, is_value, unit_of, is_in_range}
use Rattle.std.specs.Prelude.{bytes_eq}
use Rattle.lab_records_kept.specs.declared.records.Version.{Version}
use Rattle.lab_records_kept.specs.Values.{all_rows, has_key, value_of}
use Rattle.lab_forms.specs.Forms.{field_of, fits_form, kind_refusal, value_refusal}

no_test_fails : (one other third : Bool) (x y z : FormRefusal) → IsTrue (one && other && third)
    → (if not one then Some x else (if not other then Some y else (if not third then Some z else None))) ≡ None
no_test_fails true true true x y z all = refl
no_test_fails true true false x y z all = cc
no_test_fails true false third x y z all = cc
no_test_fails false other third x y z all = cc

fits_at : (found : Option Field) (text unit : List ℕ)
    → IsTrue (option_map_or (λ field. fits field.kind text unit) found false)
    → option_map_or (λ field. kind_refusal field.kind text unit) found (Some NoSuchField) ≡ None
fits_at None text unit all = cc
fits_at (Some field) text unit all =
    no_test_fails (is_value field.kind text) (bytes_eq unit (unit_of field.kind)) (is_in_range field.kind text)
    BadValue WrongUnit OutOfRange all

pub no_refusal : (fields : List Field) (key text unit : List ℕ)
    → IsTrue (fits_form fields key text unit) → value_refusal fields key text unit ≡ None
unfolding fits_form value_refusal
no_refusal fields key text unit all = fits_at (field_of fields key) text unit all

-- ---- whether a key has a value

found_first : {A : Type 0} (test : Bool) (x : A) (rest : Option A) (others : Bool) → is_some rest ≡ others
    → is_some (cond test (Some x) rest) ≡ (test || others)
found_first true x rest others same = refl
found_first false x rest others same = same

-- one is found where there is one
is_found : {A : Type 0} (test : A → Bool) (list : List A) → is_some (find test list) ≡ list_any test list
is_found test [] = refl
is_found test (x ∷ rest) = found_first (test x) x (find test rest) (list_any test rest) (is_found test rest)

-- the rows of versions, walked version by version
any_row : (key : List ℕ) (versions : List Version)
    → list_any (has_key key) (all_rows versions) ≡ list_any (λ version. list_any (has_key key) version.rows) versions
any_row key [] = refl
any_row key (version ∷ others) =
    list_any-append (has_key key) version.rows (all_rows others)
    ∙ ap (λ (more : Bool). list_any (has_key key) version.rows || more) (any_row key others)

-- a key has a value where a row of a version has the key
pub value_found : (versions : List Version) (key : List ℕ)
    → is_some (value_of (all_rows versions) key) ≡ list_any (λ version. list_any (has_key key) version.rows) versions
value_found versions key =
    is_found (has_key key) (reverse (all_rows versions))
    ∙ sym (list_any-IsPermutation (has_key key) (all_rows versions) (reverse (all_rows versions))
    (IsPermutation-reverse (all_rows versions)))
    ∙ any_row key versions
