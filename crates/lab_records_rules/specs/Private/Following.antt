-- What clauses of private functions say beside Following.antt.
use Rattle.std.specs.Prelude.{◌≡◌, Bool, IsTrue, Option, Some, None, Result, Ok, Err}
use Rattle.lab_records_rules.specs.declared.refusals.Refusal.{Refusal}
use Rattle.lab_forms_texts.specs.declared.refusals.Fault.{Fault}
use Rattle.lab_forms_texts.specs.declared.refusals.Fault.TheVariants.{Refused, Memory}

-- something is read as the value itself where nothing is wrong with it, and is refused otherwise;
-- memory may run out only where something is made
abbrev pub IsReadWhere : {A : Type 0} → Bool → Option Refusal → A → Result A (Fault Refusal) → Type 0
IsReadWhere made wrong value (Ok read) = (wrong ≡ None) × (read ≡ value)
IsReadWhere made wrong value (Err (Refused refusal)) = wrong ≡ Some refusal
IsReadWhere made wrong value (Err Memory) = IsTrue made
