-- What a call answers follows a rule: the value, or the refusal, that the rule gives. That memory
-- ran out is an answer of its own, and only where something is made: a refusal that is found before
-- hides behind nothing.
use Rattle.std.specs.Prelude.{◌≡◌, Bool, IsTrue, Result, Ok, Err}
use Rattle.std.specs.Result.{is_ok}
use Rattle.lab_records_rules.specs.declared.refusals.Refusal.{Refusal}
use Rattle.lab_forms_texts.specs.declared.refusals.Fault.{Fault}
use Rattle.lab_forms_texts.specs.declared.refusals.Fault.TheVariants.{Refused, Memory}

-- memory may run out only where something is made
abbrev pub FollowsWhere : {A : Type 0} → Bool → Result A Refusal → Result A (Fault Refusal) → Type 0
FollowsWhere made rule (Ok value) = rule ≡ Ok value
FollowsWhere made rule (Err (Refused refusal)) = rule ≡ Err refusal
FollowsWhere made rule (Err Memory) = IsTrue made

-- memory may run out only where the rule gives a value: each of its refusals is told as it is
abbrev pub Follows : {A : Type 0} → Result A Refusal → Result A (Fault Refusal) → Type 0
Follows rule result = FollowsWhere (is_ok rule) rule result
