-- What a form, a key, a text and a unit come to, once the field of the key is known.
use Rattle.std.proofs.Common.{◌≡◌, ℕ, ◌≤◌, List, [], ◌∷◌, Bool, true, false, Option, Some, None, refl, sym, IsTrue, arith}
use Rattle.std.specs.Prelude.{◌&&◌, not, nat_le, length, map, find, bytes_eq}
use Rattle.std.specs.List.{list_all}
use Rattle.std.specs.Option.{option_copied, IfSome}
use Rattle.std.proofs.lemmas.Bool.Decides.{nat_tests}
use denote.Ref.{Bor}
use Rattle.lab_forms.specs.declared.forms.Field.{Field}
use Rattle.lab_forms.specs.declared.faults.FormRefusal.TheVariants.{NoSuchField}
use Rattle.lab_forms.specs.Words.{has_text_twice}
use Rattle.lab_forms.specs.Kinds.{is_kind, fits}
use Rattle.lab_forms.specs.Forms.{is_form, is_field, key_of, field_of, fits_form, kind_refusal, value_refusal}

pub value_refusal-none : (fields : List Field) (key text unit : List ℕ) → field_of fields key ≡ None → value_refusal fields key text unit ≡ Some NoSuchField
unfolding value_refusal
value_refusal-none fields key text unit e = rw e refl

pub value_refusal-some : (fields : List Field) (key text unit : List ℕ) (field : Field) → field_of fields key ≡ Some field → value_refusal fields key text unit ≡ kind_refusal field.kind text unit
unfolding value_refusal
value_refusal-some fields key text unit field e = rw e refl

pub fits_form-some : (fields : List Field) (key text unit : List ℕ) (field : Field) → field_of fields key ≡ Some field → fits_form fields key text unit ≡ fits field.kind text unit
unfolding fits_form
fits_form-some fields key text unit field e = rw e refl

-- what is found in a list passes what all of the list pass
found_passes : {X : Type 0} (p q : X → Bool) (xs : List X) (x : X) → list_all q xs ≡ true → find p xs ≡ Some x → q x ≡ true
found_passes p q [] x all e = cc
found_passes p q (y ∷ ys) x all e = grind (arith, found_passes p q ys x)

last_test : (a b c d : Bool) → (a && b && c && d) ≡ true → d ≡ true
last_test a b c d e = grind arith

-- a form may ask for the kinds of its fields
kind_of_field : (fields : List Field) (key : List ℕ) (field : Field) → IsTrue (is_form fields) → field_of fields key ≡ Some field → is_kind field.kind ≡ true
unfolding is_form
kind_of_field fields key field form e =
    found_passes (λ f. bytes_eq f.key key) is_field fields field
    (last_test (nat_le 1 (length fields)) (not (has_text_twice (map key_of fields))) (nat_le (length fields) 60) (list_all is_field fields) form)
    e

pub kind_found : (fields : List Field) (key : List ℕ) (found : Option (Bor Field)) → IsTrue (is_form fields) → option_copied found ≡ field_of fields key → IfSome found (λ field. IsTrue (is_kind field.now.kind))
kind_found fields key None form e = tt
kind_found fields key (Some field) form e = kind_of_field fields key field.now form (sym e)

-- what is not refused is a form
pub form_of : (fields : List Field) → 1 ≤ length fields → has_text_twice (map key_of fields) ≡ false → length fields ≤ 60 → list_all is_field fields ≡ true → IsTrue (is_form fields)
unfolding is_form
form_of fields some once few all = rw (once, all) (grind (arith, nat_tests))
