-- What a field of each kind takes as a value, and which kinds a form may ask for. The rules are
-- this system's own; a date is one of the proleptic Gregorian calendar (ISO 8601-1:2019).
use Rattle.std.specs.Prelude.{ℕ, Bool, true, ◌&&◌, ◌||◌, not, nat_le, ◌==◌, List, [], length, Option, Some, None, ℤ, int_le, bytes_eq, codes, option_and_then}
use Rattle.std.specs.Option.{option_eq}
use Rattle.std.specs.Cmp.Lexicographic.{pointwise}
use Rattle.lab_forms_texts.specs.Names.{is_note}
use Rattle.lab_forms.specs.declared.kinds.Kind.{Kind}
use Rattle.lab_forms.specs.declared.kinds.Kind.TheVariants.{Number, Text, Choice, Date, YesNo}
use Rattle.lab_forms.specs.Numbers.{is_number, amount_read, without_comparison}
use Rattle.lab_forms.specs.Dates.{is_date}
use Rattle.lab_forms.specs.Words.{has_text, has_text_twice}
use Rattle.lab_forms.specs.declared.kinds.TheConstants.{SIZE_LIMIT, CHOICES_LIMIT}
use Rattle.lab_forms.specs.declared.numbers.TheConstants.{DECIMALS_LIMIT}

-- the form of a value's text: a number may have a `<` or a `>` in front
abbrev pub has_form : Kind → List ℕ → Bool
has_form (Number unit decimals min max) text = is_number decimals (without_comparison text)
has_form (Text size) text = nat_le (length text) size
has_form (Choice choices) text = has_text choices text
has_form Date text = is_date text
has_form YesNo text = bytes_eq text (codes "yes") || bytes_eq text (codes "no")

-- whatever its kind, a value is a note
abbrev pub is_value : Kind → List ℕ → Bool
is_value kind text = is_note text && has_form kind text

-- the unit of the values: only numbers have one
abbrev pub unit_of : Kind → List ℕ
unit_of (Number unit decimals min max) = unit
unit_of (Text size) = []
unit_of (Choice choices) = []
unit_of Date = []
unit_of YesNo = []

-- the amount of a bound, if there is one
abbrev pub bound_amount : ℕ → Option (List ℕ) → Option ℤ
bound_amount decimals bound = option_and_then (amount_read decimals) bound

-- where both amounts are there, the second is not below the first
abbrev pub is_at_most : Option ℤ → Option ℤ → Bool
is_at_most (Some low) (Some high) = int_le low high
is_at_most (Some low) None = true
is_at_most None high = true

-- an amount lies from the least to the greatest that the field takes; a `<` or `>` is left out of
-- account
abbrev pub is_in_range : Kind → List ℕ → Bool
is_in_range (Number unit decimals min max) text =
    is_at_most (bound_amount decimals min) (amount_read decimals (without_comparison text))
    && is_at_most (amount_read decimals (without_comparison text)) (bound_amount decimals max)
is_in_range (Text size) text = true
is_in_range (Choice choices) text = true
is_in_range Date text = true
is_in_range YesNo text = true

-- A text and a unit fit a field of the kind: the text has its form, the unit is the kind's byte for
-- byte, and the amount is in range.
abbrev pub fits : Kind → List ℕ → List ℕ → Bool
fits kind text unit = is_value kind text && bytes_eq unit (unit_of kind) && is_in_range kind text

-- a bound is a number as the field's values are, but never with `<` or `>`
abbrev pub is_bound : ℕ → Option (List ℕ) → Bool
is_bound decimals None = true
is_bound decimals (Some text) = is_number decimals text

-- a kind that a form may ask for: the least amount is not above the greatest, and no choice stands
-- twice
abbrev pub is_kind : Kind → Bool
is_kind (Number unit decimals min max) =
    nat_le decimals DECIMALS_LIMIT && is_bound decimals min && is_bound decimals max
    && is_at_most (bound_amount decimals min) (bound_amount decimals max)
is_kind (Text size) = nat_le 1 size && nat_le size SIZE_LIMIT
is_kind (Choice choices) =
    nat_le 1 (length choices) && nat_le (length choices) CHOICES_LIMIT && not (has_text_twice choices)
is_kind Date = true
is_kind YesNo = true

-- the word of a kind
abbrev pub kind_word : Kind → List ℕ
kind_word (Number unit decimals min max) = codes "number"
kind_word (Text size) = codes "text"
kind_word (Choice choices) = codes "choice"
kind_word Date = codes "date"
kind_word YesNo = codes "yesno"

-- what a kind says beside its word and its unit, where it says it
abbrev pub decimals_of : Kind → ℕ
decimals_of (Number unit decimals min max) = decimals
decimals_of _ = 0

abbrev pub min_of : Kind → Option (List ℕ)
min_of (Number unit decimals min max) = min
min_of _ = None

abbrev pub max_of : Kind → Option (List ℕ)
max_of (Number unit decimals min max) = max
max_of _ = None

abbrev pub size_of : Kind → ℕ
size_of (Text size) = size
size_of _ = 0

abbrev pub choices_of : Kind → List (List ℕ)
choices_of (Choice choices) = choices
choices_of _ = []

-- two kinds are equal where all that they say is, byte for byte
abbrev pub kind_eq : Kind → Kind → Bool
kind_eq one other =
    bytes_eq (kind_word one) (kind_word other) && bytes_eq (unit_of one) (unit_of other)
    && (decimals_of one == decimals_of other)
    && option_eq bytes_eq (min_of one) (min_of other)
    && option_eq bytes_eq (max_of one) (max_of other)
    && (size_of one == size_of other)
    && pointwise bytes_eq (choices_of one) (choices_of other)
