-- How one reading follows another.
use Rattle.std.proofs.Common.{◌≡◌, ◌∙◌, Bool, true, false, Result, Ok, Err, ap}
use Rattle.std.specs.Prelude.{IfErr}
use Rattle.std.specs.Result.{IsErrAnd}
use Rattle.lab_wire_members.specs.declared.refusals.BodyRefusal.{BodyRefusal}
use Rattle.lab_wire_members.specs.declared.refusals.BodyRefusal.TheVariants.{BadBody}
use Rattle.lab_forms_texts.specs.declared.refusals.Fault.{Fault}
use Rattle.lab_forms_texts.specs.declared.refusals.Fault.TheVariants.{Refused, Memory}
use Rattle.lab_wire_members.specs.Readings.{Reading, then_read, shaped, Faulty, FaultyInTurn}

-- what follows what was read
pub then_ok : {A B : Type 0} (r : Reading A) (next : A → Reading B) (x : A) → r ≡ Ok x → then_read r next ≡ next x
then_ok r next x is = ap (λ s. then_read s next) is

pub then_err : {A B : Type 0} (r : Reading A) (next : A → Reading B) (refusal : BodyRefusal) → r ≡ Err refusal → then_read r next ≡ Err refusal
then_err r next refusal is = ap (λ s. then_read s next) is

-- a fault of one reading is one of readings in turn
pub fault_in_turn : {A : Type 0} (r : Reading A) (fault : Fault BodyRefusal) → Faulty r fault → FaultyInTurn r fault
fault_in_turn r (Refused refusal) is = is
fault_in_turn r Memory is = tt

-- the first fault is the fault of both
pub first_fault : {A B : Type 0} (r : Reading A) (next : A → Reading B) (fault : Fault BodyRefusal) → FaultyInTurn r fault → FaultyInTurn (then_read r next) fault
first_fault r next (Refused refusal) is = then_err r next refusal is
first_fault r next Memory is = is

-- and so is a fault behind what was read
pub next_fault : {A B : Type 0} (r : Reading A) (next : A → Reading B) (x : A) (fault : Fault BodyRefusal) → r ≡ Ok x → FaultyInTurn (next x) fault
    → FaultyInTurn (then_read r next) fault
next_fault r next x (Refused refusal) is faulty = then_ok r next x is ∙ faulty
next_fault r next x Memory is faulty = faulty

-- the exit of a `?` answers the fault that it met
pub exit_fault : {A B : Type 0} (r : Result B (Fault BodyRefusal)) (reading : Reading A) (fault : Fault BodyRefusal) → IsErrAnd r (λ met. met ≡ fault)
    → FaultyInTurn reading fault → IfErr r (FaultyInTurn reading)
exit_fault (Ok x) reading fault is faulty = absurd is
exit_fault (Err met) reading fault is faulty = rw is faulty

-- or the refusal that it met, as a fault
pub exit_refused : {A B : Type 0} (r : Result B (Fault BodyRefusal)) (reading : Reading A) (refusal : BodyRefusal) → IsErrAnd r (λ met. met ≡ Refused refusal)
    → reading ≡ Err refusal → IfErr r (FaultyInTurn reading)
exit_refused (Ok x) reading refusal is refused = absurd is
exit_refused (Err met) reading refusal is refused = rw is refused

-- a body of the shape says what is read of it
pub in_shape : {A : Type 0} (b : Bool) (r s : Reading A) → b ≡ true → r ≡ s → shaped b r ≡ s
in_shape b r s is same = ap (λ c. shaped c r) is ∙ same

pub fault_in_shape : {A : Type 0} (b : Bool) (r : Reading A) (fault : Fault BodyRefusal) → b ≡ true → FaultyInTurn r fault → FaultyInTurn (shaped b r) fault
fault_in_shape b r (Refused refusal) is faulty = ap (λ c. shaped c r) is ∙ faulty
fault_in_shape b r Memory is faulty = faulty

pub out_of_shape : {A : Type 0} (b : Bool) (r : Reading A) → b ≡ false → shaped b r ≡ Err BadBody
out_of_shape b r is = ap (λ c. shaped c r) is

-- ---- for the tactics

pub ruleset in_turn = (exit_fault, exit_refused, fault_in_turn, first_fault, next_fault, then_ok, then_err, in_shape, fault_in_shape, out_of_shape)
