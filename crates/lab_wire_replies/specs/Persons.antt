-- Sessions, accounts and persons, as JSON.
use Rattle.std.specs.Prelude.{ℕ, List, [], ◌∷◌, Bool, map, codes}
use Rattle.serde_json.specs.Data.{Data, string, boolean}
use Rattle.lab_people_access.specs.declared.roles.Roles.{Roles}
use Rattle.lab_people_access.specs.Roles.{role_list, role_word}
use Rattle.lab_records_rules.specs.declared.readings.PersonLine.{PersonLine}
use Rattle.lab_wire_replies.specs.Parts.{object_from, list_from, texts_data, whole, moment_data, digits_data}

-- a session, with its token, which is told once, and whether the password is due to be changed
abbrev pub opened_data : ℕ → List ℕ → Bool → Data
opened_data session token due =
    object_from (
    (codes "due", boolean due)
    ∷ (codes "session", whole session)
    ∷ (codes "token", digits_data token)
    ∷ []
    )

-- the session that was closed
abbrev pub closed_data : ℕ → Data
closed_data session = object_from ((codes "session", whole session) ∷ [])

-- when the password was changed
abbrev pub changed_data : ℕ → Data
changed_data changed = object_from ((codes "changed", moment_data changed) ∷ [])

-- the person who was enrolled, retired or unlocked
abbrev pub person_done_data : List ℕ → Data
person_done_data code = object_from ((codes "code", string code) ∷ [])

-- a half of a one-time word, which is told once
abbrev pub half_data : List ℕ → Data
half_data half = object_from ((codes "half", digits_data half) ∷ [])

-- roles, in the order in which roles are told
abbrev pub roles_data : Roles → Data
roles_data roles = texts_data (map role_word (role_list roles))

-- the roles that a person has from now on
abbrev pub roles_set_data : List ℕ → Roles → Data
roles_set_data code roles =
    object_from ((codes "code", string code) ∷ (codes "roles", roles_data roles) ∷ [])

-- a person
abbrev pub person_data : PersonLine → Data
person_data person =
    object_from (
    (codes "code", string person.code)
    ∷ (codes "locked", boolean person.locked)
    ∷ (codes "name", string person.name)
    ∷ (codes "retired", boolean person.retired)
    ∷ (codes "roles", roles_data person.roles)
    ∷ []
    )

-- the persons
abbrev pub persons_data : List PersonLine → Data
persons_data persons =
    object_from ((codes "persons", list_from (map person_data persons)) ∷ [])
