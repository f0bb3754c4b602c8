-- The tests that decide whether lists are numbered from 1 on, and stand in order (ISO/IEC
-- 17025:2017, 7.11.3(d), "the integrity of the data and information").
use Rattle.std.specs.Prelude.{ℕ, Bool, true, not, ◌&&◌, ◌==◌, ◌+◌, List, [], ◌∷◌, ◌++◌, Option, Some}
use Rattle.std.specs.Option.{option_map_or}
use Rattle.lab_people_access.specs.declared.persons.Person.{Person}
use Rattle.lab_records_kept.specs.declared.records.FormVersion.{FormVersion}
use Rattle.lab_records_kept.specs.Lookups.{comes_before, last_form, next_form_version}

abbrev pub are_numbered_after : {A : Type 0} → (A → ℕ) → ℕ → List A → Bool
are_numbered_after number before [] = true
are_numbered_after number before (one ∷ others) =
    (number one == before + 1) && are_numbered_after number (before + 1) others

abbrev pub are_numbered : {A : Type 0} → (A → ℕ) → List A → Bool
are_numbered number list = are_numbered_after number 0 list

-- persons behind one, or behind nobody
abbrev pub are_in_order_after : Option Person → List Person → Bool
are_in_order_after before [] = true
are_in_order_after before (one ∷ others) =
    option_map_or (λ (other : Person). comes_before other.code one.code) before true
    && are_in_order_after (Some one) others

abbrev pub are_forms_in_order_after : Option FormVersion → List FormVersion → Bool
are_forms_in_order_after before [] = true
are_forms_in_order_after before (one ∷ others) =
    option_map_or (λ (other : FormVersion). not (comes_before one.code other.code)) before true
    && are_forms_in_order_after (Some one) others

-- a version of a form has the number behind the last one of its code
abbrev pub follows : List FormVersion → FormVersion → Bool
follows earlier one = one.version == next_form_version (last_form earlier one.code)

abbrev pub are_forms_numbered : List FormVersion → List FormVersion → Bool
are_forms_numbered earlier [] = true
are_forms_numbered earlier (one ∷ others) =
    follows earlier one && are_forms_numbered (earlier ++ one ∷ []) others
