-- What clauses of private functions say beside Calls.antt.
use Rattle.std.specs.Prelude.{◌≡◌, ℕ, Result}
use Rattle.sqlite.specs.declared.error.Error.{Error}
use Rattle.sqlite.specs.State.{State}
use Rattle.lab_store_tables.specs.Rows.{Tables}
use Rattle.lab_store_write.specs.Causes.{Anything}
use Rattle.lab_store_write.specs.Calls.{FailsForTrying, AnswersUnless}

abbrev pub FailsFor : (Error → Type 0) → {T A : Type 0} → (T → State) → T → T → Result A Error
    → Type 0
FailsFor Beside state old new result = FailsForTrying Beside Anything state old new result

abbrev pub AnswersCall : {T A : Type 0} → (T → ℕ × ℕ) → (T → State)
    → (A → Tables → Tables → Type 0) → T → T → Result A Error → Type 0
AnswersCall lender state step old new result =
    AnswersUnless (λ _. ⊥) lender state step old new result

-- a call that makes one step, whatever it answers
abbrev pub Writes : {T A : Type 0} → (T → ℕ × ℕ) → (T → State) → (Tables → Tables → Type 0)
    → T → T → Result A Error → Type 0
Writes lender state step old new result = AnswersCall lender state (λ _. step) old new result

-- a step that makes these tables of those before
abbrev pub Becomes : (Tables → Tables) → Tables → Tables → Type 0
Becomes made before after = after ≡ made before
