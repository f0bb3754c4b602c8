-- The rows of versions of a form, by its code.
use Rattle.std.specs.Prelude.{ℕ, ℤ, Bool, ◌&&◌, ◌==◌, bytes_eq, List, map, filter}
use Rattle.std.specs.Ordering.{int_eq}
use Rattle.sqlite_keyed.specs.Lists.{sort_by}
use Rattle.sqlite_value.specs.Order.{Row}
use Rattle.lab_store_tables.specs.Rows.{FormRow, Tables}
use Rattle.lab_store_tables.specs.Meaning.{by_form}
use Rattle.lab_store_read_forms.specs.Shown.{form_shown}

-- the version of a number
abbrev pub is_exact : ℤ → List ℕ → ℕ → FormRow → Bool
is_exact lab code version one =
    int_eq one.lab lab && (bytes_eq one.code code && (one.version == version))

abbrev pub exact_shown : Tables → ℤ → List ℕ → ℕ → List Row
exact_shown t lab code version = map form_shown (filter (is_exact lab code version) t.forms)

-- all versions of a form, in the order of their numbers
abbrev pub is_of_code : ℤ → List ℕ → FormRow → Bool
is_of_code lab code one = int_eq one.lab lab && bytes_eq one.code code

abbrev pub form_versions_shown : Tables → ℤ → List ℕ → List Row
form_versions_shown t lab code =
    map form_shown (sort_by by_form (filter (is_of_code lab code) t.forms))
