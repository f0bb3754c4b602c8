-- Roles: what a person may be in a laboratory.
use Rattle.std.specs.Prelude.{ℕ, Bool, true, false, List, [], ◌∷◌, Option, Some, None, filter, codes, if◌then◌else◌}
use Rattle.lab_people_access.specs.declared.roles.Role.{Role}
use Rattle.lab_people_access.specs.declared.roles.Role.TheVariants.{Analyst, Reviewer, Manager, Administrator, Inspector}
use Rattle.lab_people_access.specs.declared.roles.Roles.{Roles}

-- the word of a role
abbrev pub role_word : Role → List ℕ
role_word Analyst = codes "analyst"
role_word Reviewer = codes "reviewer"
role_word Manager = codes "manager"
role_word Administrator = codes "administrator"
role_word Inspector = codes "inspector"

-- whether a role is among a person's
abbrev pub has_role : Roles → Role → Bool
has_role roles Analyst = roles.analyst
has_role roles Reviewer = roles.reviewer
has_role roles Manager = roles.manager
has_role roles Administrator = roles.administrator
has_role roles Inspector = roles.inspector

-- no role
abbrev pub no_roles : Roles
no_roles = record {
  analyst = false;
  reviewer = false;
  manager = false;
  administrator = false;
  inspector = false;
}

-- one role more
abbrev pub with_role : Roles → Role → Roles
with_role roles Analyst = record roles { analyst = true }
with_role roles Reviewer = record roles { reviewer = true }
with_role roles Manager = record roles { manager = true }
with_role roles Administrator = record roles { administrator = true }
with_role roles Inspector = record roles { inspector = true }

-- every role, in the order in which roles are told
abbrev pub all_roles : List Role
all_roles = Analyst ∷ Reviewer ∷ Manager ∷ Administrator ∷ Inspector ∷ []

-- a person's roles in that order
abbrev pub role_list : Roles → List Role
role_list roles = filter (has_role roles) all_roles
