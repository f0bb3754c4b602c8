-- Fields of which no form was made.
use Rattle.std.proofs.Common.{◌≡◌, ℕ, ◌==◌, ◌&&◌, Bool, true, false, List, length, map, Some, None, Result, Ok, Err, IsTrue, refl, ap}
use Rattle.std.proofs.lemmas.Bool.{eqb-true}
use Rattle.std.specs.Prelude.{not, nat_le, if◌then◌else◌}
use Rattle.std.specs.List.{list_all}
use Rattle.std.specs.Option.{option_map_or}
use Rattle.lab_forms.specs.declared.forms.Field.{Field}
use Rattle.lab_forms.specs.declared.faults.FormRefusal.{FormRefusal}
use Rattle.lab_forms.specs.declared.faults.FormRefusal.TheVariants.{NoFields, KeyTwice, TooManyFields, BadField}
use Rattle.lab_forms.specs.Forms.{FormSheet, form_made, form_refusal, is_form, key_of, field_limit, is_field}
use Rattle.lab_forms.specs.Words.{has_text_twice}

none_there : (n : ℕ) → (n == 0) ≡ true → nat_le 1 n ≡ false
none_there n none = ap (nat_le 1) (eqb-true n 0 none)

by_parts : (none some twice few all : Bool) (sheet : FormSheet) (e : FormRefusal) → (none ≡ true → some ≡ false)
    → ◌≡◌ {A = Result FormSheet FormRefusal}
    (option_map_or Err (if none then Some NoFields else (if twice then Some KeyTwice
    else (if not few then Some TooManyFields else (if not all then Some BadField else None)))) (Ok sheet))
    (Err e) → ¬ IsTrue (some && not twice && few && all)
by_parts none false twice few all sheet e empty told is = absurd cc
by_parts true true twice few all sheet e empty told is = absurd (let wrong = empty refl in cc)
by_parts false true true few all sheet e empty told is = absurd cc
by_parts false true false false all sheet e empty told is = absurd cc
by_parts false true false true false sheet e empty told is = absurd cc
by_parts false true false true true sheet e empty told is = absurd cc

pub no_form : (fields : List Field) (approval : Bool) (e : FormRefusal) → form_made fields approval ≡ Err e → ¬ IsTrue (is_form fields)
unfolding is_form form_refusal
no_form fields approval e told =
    by_parts (length fields == 0) (nat_le 1 (length fields)) (has_text_twice (map key_of fields)) (nat_le (length fields) field_limit) (list_all is_field fields)
    (record { fields = fields; approval = approval }) e (none_there (length fields)) told
