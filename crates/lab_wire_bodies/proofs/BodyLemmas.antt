-- What comes of a whole body, by what comes of its JSON.
use Rattle.std.proofs.Common.{◌≡◌, ◌∙◌, ◌<◌, ℕ, List, length, Option, Some, None, Result, Ok, Err, refl, ap}
use Rattle.std.specs.Prelude.{IfErr}
use Rattle.serde_json.specs.Data.{Data}
use Rattle.lab_forms_texts.specs.declared.refusals.Fault.{Fault}
use Rattle.lab_wire_members.specs.declared.refusals.BodyRefusal.{BodyRefusal}
use Rattle.lab_forms_texts.specs.declared.refusals.Fault.TheVariants.{Refused, Memory}
use Rattle.lab_wire_members.specs.Values.{json_of, JsonFaultFits}
use Rattle.lab_wire_members.specs.Readings.{Reading, FaultyInTurn}
use Rattle.lab_wire_bodies.specs.Bodies.{read_from, body_named, BodyFaultFits}
use Rattle.lab_wire_members.proofs.ValueLemmas.{some_byte}

-- what JSON says is what the body says
pub body_read : {A : Type 0} (says : Data → Reading A) (body : List ℕ) (d : Data) (x : A) → json_of body ≡ Some d → says d ≡ Ok x → body_named says body ≡ Ok x
unfolding body_named
body_read says body d x is read = ap (read_from says) is ∙ read

pub body_fault : {A : Type 0} (says : Data → Reading A) (body : List ℕ) (d : Data) (fault : Fault BodyRefusal) → json_of body ≡ Some d
    → FaultyInTurn (says d) fault → BodyFaultFits says body fault
unfolding body_named
body_fault says body d (Refused refusal) is faulty = ap (read_from says) is ∙ faulty
body_fault says body d Memory is faulty = some_byte body d is

-- whatever fault comes of JSON fits the body
pub body_faults : {A B : Type 0} (says : Data → Reading A) (body : List ℕ) (d : Data) (r : Result B (Fault BodyRefusal)) → json_of body ≡ Some d
    → IfErr r (FaultyInTurn (says d)) → IfErr r (BodyFaultFits says body)
body_faults says body d (Ok x) is faulty = faulty
body_faults says body d (Err fault) is faulty = body_fault says body d fault is faulty

-- a body that is no JSON is refused as such
pub no_json : {A : Type 0} (says : Data → Reading A) (body : List ℕ) (fault : Fault BodyRefusal) → JsonFaultFits body fault → BodyFaultFits says body fault
unfolding body_named
no_json says body (Refused refusal) (is, none) = rw (none, is) refl
no_json says body Memory came = came

-- a body that names something has some byte
named_by : {A : Type 0} (says : Data → Reading A) (body : List ℕ) (found : Option Data) (x : A) → json_of body ≡ found
    → read_from says found ≡ Ok x → 0 < length body
named_by says body None x is read = absurd (cc)
named_by says body (Some d) x is read = some_byte body d is

pub byte_named : {A : Type 0} (says : Data → Reading A) (body : List ℕ) (x : A) → body_named says body ≡ Ok x → 0 < length body
unfolding body_named
byte_named says body x is = named_by says body (json_of body) x refl is

pub ruleset of_body = (body_read, body_fault, no_json)
