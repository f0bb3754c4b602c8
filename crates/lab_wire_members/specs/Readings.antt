-- How the members of a body are read, one after the other: the first that doesn't read is the
-- refusal. That a member is there and of its kind was seen before.
use Rattle.std.specs.Prelude.{◌≡◌, ℕ, List, Bool, Option, Some, None, Result, Ok, Err, IsOk, if◌then◌else◌, ⊤}
use Rattle.serde_json.specs.Data.{Data}
use Rattle.serde_json.specs.Find.{as_str}
use Rattle.lab_wire_members.specs.declared.refusals.BodyRefusal.{BodyRefusal}
use Rattle.lab_wire_members.specs.declared.refusals.BodyRefusal.TheVariants.{BadBody, BadName}
use Rattle.lab_forms_texts.specs.declared.refusals.Fault.{Fault}
use Rattle.lab_forms_texts.specs.declared.refusals.Fault.TheVariants.{Refused, Memory}
use Rattle.lab_wire_members.specs.Members.{at}

-- what comes of a reading: what was read, or the refusal
abbrev pub Reading : Type 0 → Type 0
Reading A = Result A BodyRefusal

-- one reading after another
abbrev pub then_read : {A B : Type 0} → Reading A → (A → Reading B) → Reading B
then_read (Err refusal) next = Err refusal
then_read (Ok value) next = next value

-- what has to be there
abbrev pub wanted : {A : Type 0} → Option A → Reading A
wanted None = Err BadBody
wanted (Some value) = Ok value

-- a text that a rule admits
abbrev pub admitted : (List ℕ → Bool) → List ℕ → Reading (List ℕ)
admitted admits text = if admits text then Ok text else Err BadName

-- the text at a name
abbrev pub text_at : List ℕ → Data → Reading (List ℕ)
text_at name d = wanted (at as_str name d)

-- the text at a name, which a rule admits
abbrev pub named_at : (List ℕ → Bool) → List ℕ → Data → Reading (List ℕ)
named_at admits name d = then_read (text_at name d) (admitted admits)

-- a text that a rule admits, where there is one
abbrev pub admitted_if : (List ℕ → Bool) → Option (List ℕ) → Reading (Option (List ℕ))
admitted_if admits None = Ok None
admitted_if admits (Some text) = then_read (admitted admits text) (λ named. Ok (Some named))

abbrev pub named_if_at : (List ℕ → Bool) → List ℕ → Data → Reading (Option (List ℕ))
named_if_at admits name d = admitted_if admits (at as_str name d)

-- what is read of a body of a shape, and of another one
abbrev pub shaped : {A : Type 0} → Bool → Reading A → Reading A
shaped is_shaped reading = if is_shaped then reading else Err BadBody

-- The faults of one reading: its refusal; out of memory only where it reads, since a text is copied
-- once it is known that it reads.
abbrev pub Faulty : {A : Type 0} → Reading A → Fault BodyRefusal → Type 0
Faulty reading (Refused refusal) = reading ≡ Err refusal
Faulty reading Memory = IsOk reading

-- The faults of several readings, one after the other: the refusal that comes first, or out of
-- memory. An earlier member is copied before a later one is read, so memory may run out where a
-- later one would be refused.
abbrev pub FaultyInTurn : {A : Type 0} → Reading A → Fault BodyRefusal → Type 0
FaultyInTurn reading (Refused refusal) = reading ≡ Err refusal
FaultyInTurn reading Memory = ⊤
