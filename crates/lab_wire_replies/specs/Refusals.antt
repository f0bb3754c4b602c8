-- A refusal, as JSON: its word, its number and, of some, what else is told.
use Rattle.std.specs.Prelude.{ℕ, List, [], ◌∷◌, codes}
use Rattle.serde_json.specs.Data.{Data, string}
use Rattle.lab_forms_texts.specs.Faults.{Entry}
use Rattle.lab_people_access.specs.declared.refusals.PeopleRefusal.{PeopleRefusal}
use Rattle.lab_people_access.specs.declared.refusals.PeopleRefusal.TheVariants.{RoleWanted}
use Rattle.lab_people_access.specs.Policy.{rule_word}
use Rattle.lab_records_rules.specs.declared.refusals.Refusal.{Refusal}
use Rattle.lab_records_rules.specs.declared.refusals.Refusal.TheVariants.{People, RecordExists, NotAltered, StaleDigest}
use Rattle.lab_records_rules.specs.Refusals.{refusal_entry}
use Rattle.lab_wire_replies.specs.Parts.{object_from, whole, digits_data}

-- a refusal: its word, its number, and these members beside them
abbrev pub refused_data : Entry → List (List ℕ × Data) → Data
refused_data entry further =
    object_from (
    (codes "error", string entry.word)
    ∷ (codes "number", whole entry.number)
    ∷ further
    )

-- which rule of the policy wants another role
abbrev pub people_members : PeopleRefusal → List (List ℕ × Data)
people_members (RoleWanted rule) = (codes "rule", string (rule_word rule)) ∷ []
people_members _ = []

-- and the record of the form and the sample that is there, the key whose value isn't another one,
-- or the digest that the version has now
abbrev pub further_members : Refusal → List (List ℕ × Data)
further_members (People refusal) = people_members refusal
further_members (RecordExists number) = (codes "record", whole number) ∷ []
further_members (NotAltered key) = (codes "key", string key) ∷ []
further_members (StaleDigest digest) = (codes "digest", digits_data digest) ∷ []
further_members _ = []

-- a refusal
abbrev pub refusal_data : Refusal → Data
refusal_data refusal = refused_data (refusal_entry refusal) (further_members refusal)
