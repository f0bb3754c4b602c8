-- What a field takes, as its columns say, and with its names.
use Rattle.std.specs.Prelude.{ℕ, Bool, true, false, List}
use Rattle.lab_forms.specs.declared.kinds.Kind.{Kind}
use Rattle.lab_forms.specs.declared.kinds.Kind.TheVariants.{Number, Text, Choice, Date, YesNo}

-- only a choice has names
abbrev pub is_choice : Kind → Bool
is_choice (Number unit decimals min max) = false
is_choice (Text size) = false
is_choice (Choice choices) = true
is_choice Date = false
is_choice YesNo = false

abbrev pub kind_with : Kind → List (List ℕ) → Kind
kind_with (Number unit decimals min max) names = Number unit decimals min max
kind_with (Text size) names = Text size
kind_with (Choice choices) names = Choice names
kind_with Date names = Date
kind_with YesNo names = YesNo
