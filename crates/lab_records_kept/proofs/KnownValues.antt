-- Values from outside, so that a wrong rule in the definitions does not check: what the trail writes, and
-- what rows come to.
use Rattle.std.proofs.Common.{◌≡◌, ℕ, List, [], ◌∷◌, refl, true, false, Some, None}
use Rattle.std.specs.Prelude.{codes}
use Rattle.std.specs.Fmt.{digits}
use Rattle.lab_people_access.specs.declared.roles.Roles.{Roles}
use Rattle.lab_seal_versions.specs.declared.seals.Meaning.TheVariants.{Authorship}
use Rattle.lab_seal_versions.specs.declared.rows.EntryRow.{EntryRow}
use Rattle.lab_records_kept.specs.declared.trails.Occasion.TheVariants.{Signing}
use Rattle.lab_records_kept.specs.declared.trails.Deed.TheVariants.{Found, Open, Refuse, Lock, Enrol, Form, Record, Entry, Amend, Sign}
use Rattle.lab_records_kept.specs.Trails.{action_of, action_word, roles_text, subject_text}
use Rattle.lab_records_kept.specs.Values.{value_of, is_altered}
use Rattle.lab_records_kept.proofs.KnownDefaults.{bare_entry}

-- dan is an analyst and a reviewer
abbrev roles : Roles
roles = record {
  analyst = true;
  reviewer = true;
  manager = false;
  administrator = false;
  inspector = false;
}

-- the subjects of deeds in setup: laboratory aqua, session 3, form water, record 1
pub known_subjects : (subject_text (Found (codes "aqua")) ≡ codes "aqua")
    × (subject_text (Open 3) ≡ codes "3") × (subject_text (Refuse Signing) ≡ codes "sign")
    × (subject_text (Lock (codes "dan")) ≡ codes "dan")
    × (subject_text (Enrol (codes "dan") roles) ≡ codes "dan analyst reviewer")
    × (subject_text (Form (codes "water") 2) ≡ codes "water/2")
    × (subject_text (Record 12) ≡ codes "12")
    × (subject_text (Entry 1 2 (codes "lead")) ≡ codes "1/2/lead")
    × (subject_text (Amend 1 2) ≡ codes "1/2")
    × (subject_text (Sign 1 2 Authorship) ≡ codes "1/2/authorship")
unfolding roles_text digits
known_subjects = (refl, refl, refl, refl, refl, refl, refl, refl, refl, refl)

pub known_words : (action_word (action_of (Entry 1 2 (codes "lead"))) ≡ codes "entry")
    × (action_word (action_of (Amend 1 2)) ≡ codes "amend")
    × (action_word (action_of (Refuse Signing)) ≡ codes "refuse")
known_words = (refl, refl, refl)

-- dan enters a value, and another one in its place
abbrev row : List ℕ → List ℕ → ℕ → EntryRow
row key value moment = record bare_entry {
  key = key;
  value = value;
  unit = codes "mg/L";
  person = codes "dan";
  moment = moment;
}

abbrev first : EntryRow
first = row (codes "lead") (codes "7.50") 1100

abbrev second : EntryRow
second = row (codes "lead") (codes "7.5") 1200

abbrev other : EntryRow
other = row (codes "note") (codes "clear") 1300

-- the last row of a key is its value; `7.5` and `7.50` are two values
pub known_values : (value_of (first ∷ second ∷ other ∷ []) (codes "lead") ≡ Some second)
    × (value_of (first ∷ []) (codes "note") ≡ None)
    × (is_altered (first ∷ []) (first ∷ second ∷ []) (codes "lead") ≡ true)
    × (is_altered (first ∷ []) (first ∷ first ∷ []) (codes "lead") ≡ false)
    × (is_altered (first ∷ []) (first ∷ other ∷ []) (codes "note") ≡ true)
    × (is_altered (first ∷ []) (first ∷ other ∷ []) (codes "lead") ≡ false)
    × (is_altered [] [] (codes "lead") ≡ false)
known_values = (refl, refl, refl, refl, refl, refl, refl)
