-- Values from outside, so that a wrong rule in the definitions does not check: objects as docs/COMMANDS.md and docs/REFUSALS.md have them,
-- their members in the order of their names. The texts of whole replies are computed in `lab_wire_replies`.
use Rattle.std.proofs.Common.{◌≡◌, refl, ℕ, List, [], ◌∷◌, codes, Some, None, true, false}
use Rattle.hex.specs.Hex.{encode_with}
use Rattle.serde_json.specs.Data.{Data, null, boolean, number, unsigned, string, array, object, no_items, item, Members, no_members, member}
use Rattle.lab_people_access.specs.declared.policy.Rule.TheVariants.{SignReview}
use Rattle.lab_people_access.specs.declared.refusals.PeopleRefusal.TheVariants.{RoleWanted, OwnIssue}
use Rattle.lab_people_access.specs.declared.roles.Role.TheVariants.{Analyst, Reviewer}
use Rattle.lab_people_access.specs.Roles.{no_roles, with_role}
use Rattle.lab_forms.specs.declared.kinds.Kind.TheVariants.{Number, Date}
use Rattle.lab_records_kept.specs.declared.records.FormVersion.{FormVersion}
use Rattle.lab_records_kept.proofs.KnownDefaults.{bare_field, bare_form}
use Rattle.lab_seal_versions.specs.declared.states.State.TheVariants.{Released}
use Rattle.lab_records_rules.specs.declared.refusals.Refusal.TheVariants.{NoSuchLab, People, RecordExists, NotAltered}
use Rattle.lab_wire_replies.specs.Parts.{text_or_empty, state_data, current_data}
use Rattle.lab_wire_replies.specs.Persons.{opened_data, roles_set_data}
use Rattle.lab_wire_replies.specs.Forms.{form_made_data, form_data}
use Rattle.lab_wire_replies.specs.Refusals.{refusal_data}

abbrev whole : ℕ → Data
whole n = number (unsigned n)

-- the word and the number, and of some what else is told
abbrev refused : List ℕ → ℕ → Members → Data
refused word n others = object (member (codes "error") (string word) (member (codes "number") (whole n) others))

pub known_refusals : (refusal_data NoSuchLab ≡ refused (codes "no_such_lab") 40 no_members)
    × (refusal_data (People OwnIssue) ≡ refused (codes "own_issue") 29 no_members)
    × (refusal_data (People (RoleWanted SignReview)) ≡ refused (codes "role_wanted") 24 (member (codes "rule") (string (codes "P16")) no_members))
    × (refusal_data (RecordExists 7) ≡ refused (codes "record_exists") 43 (member (codes "record") (whole 7) no_members))
    × (refusal_data (NotAltered (codes "lead")) ≡ object (member (codes "error") (string (codes "not_altered"))
    (member (codes "key") (string (codes "lead")) (member (codes "number") (whole 49) no_members))))
known_refusals = (refl, refl, refl, refl, refl)

-- a session with its token, two hexadecimal digits a byte
pub known_opening : opened_data 12 (0 ∷ 10 ∷ 255 ∷ []) true
    ≡ object (member (codes "due") (boolean true)
    (member (codes "session") (whole 12) (member (codes "token") (string (codes "000aff")) no_members)))
unfolding encode_with
known_opening = refl

-- roles in the order in which they are told
pub known_roles : roles_set_data (codes "eve") (with_role (with_role no_roles Reviewer) Analyst)
    ≡ object (member (codes "code") (string (codes "eve"))
    (member (codes "roles") (array (item (string (codes "analyst")) (item (string (codes "reviewer")) no_items))) no_members))
known_roles = refl

-- where there is nothing to tell
pub known_nothing : (text_or_empty None ≡ string []) × (text_or_empty (Some (codes "dan")) ≡ string (codes "dan"))
    × (state_data None ≡ null) × (state_data (Some Released) ≡ string (codes "released"))
    × (current_data None ≡ null) × (current_data (Some 2) ≡ whole 2)
known_nothing = (refl, refl, refl, refl, refl, refl)

-- a number's bounds stand where they are there
abbrev water : FormVersion
water = record bare_form {
  code = codes "water";
  version = 2;
  form = record {
    fields =
        (record bare_field { key = codes "lead"; label = codes "Lead"; required = true; kind = Number (codes "mg/L") 2 (Some (codes "0")) None })
        ∷ (record bare_field { key = codes "day"; label = codes "Day"; kind = Date })
        ∷ [];
    approval = true;
  };
}

pub known_forms : (form_made_data (codes "water") 2 ≡ object (member (codes "form") (string (codes "water")) (member (codes "version") (whole 2) no_members)))
    × (form_data water ≡ object (member (codes "approval") (boolean true) (member (codes "fields") (array
    (item (object (member (codes "decimals") (whole 2) (member (codes "key") (string (codes "lead")) (member (codes "kind") (string (codes "number"))
    (member (codes "label") (string (codes "Lead")) (member (codes "min") (string (codes "0")) (member (codes "required") (boolean true)
    (member (codes "unit") (string (codes "mg/L")) no_members))))))))
    (item (object (member (codes "key") (string (codes "day")) (member (codes "kind") (string (codes "date"))
    (member (codes "label") (string (codes "Day")) (member (codes "required") (boolean false) no_members))))) no_items)))
    (member (codes "form") (string (codes "water")) (member (codes "version") (whole 2) no_members)))))
known_forms = (refl, refl)
