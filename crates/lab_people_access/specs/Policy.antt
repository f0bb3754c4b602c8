-- The policy: by which rule each thing is done, which roles each rule is open to, and which rules a
-- due password bars (21 CFR 11.10(g), "use of authority checks to ensure that only authorized
-- individuals can use the system").
use Rattle.std.specs.Prelude.{ℕ, Bool, true, false, not, ◌&&◌, List, [], ◌∷◌, Option, Some, None, codes, if◌then◌else◌}
use Rattle.std.specs.List.{list_any}
use Rattle.lab_people_access.specs.declared.roles.Role.{Role}
use Rattle.lab_people_access.specs.declared.roles.Role.TheVariants.{Analyst, Reviewer, Manager, Administrator, Inspector}
use Rattle.lab_people_access.specs.declared.roles.Roles.{Roles}
use Rattle.lab_people_access.specs.declared.policy.Rule.{Rule}
use Rattle.lab_people_access.specs.declared.policy.Rule.TheVariants.{CloseSession, ChangePassword, Enrol, ReadPersons, AskIssue, ConfirmIssue, SetRoles, Retire, Unlock, MakeForm, ReadForm, OpenRecord, Enter, Amend, SignAuthorship, SignReview, SignRejection, ReadRecord, ReadVersion, ReadRecords, ReadTrail, TakeCopy, SignApproval}
use Rattle.lab_people_access.specs.declared.persons.Person.{Person}
use Rattle.lab_people_access.specs.declared.refusals.PeopleRefusal.{PeopleRefusal}
use Rattle.lab_people_access.specs.declared.refusals.PeopleRefusal.TheVariants.{PasswordDue, RoleWanted}
use Rattle.lab_people_access.specs.Passwords.{is_due}
use Rattle.lab_people_access.specs.Roles.{has_role}

-- the word of a rule
abbrev pub rule_word : Rule → List ℕ
rule_word CloseSession = codes "P1"
rule_word ChangePassword = codes "P2"
rule_word Enrol = codes "P3"
rule_word ReadPersons = codes "P4"
rule_word AskIssue = codes "P5"
rule_word ConfirmIssue = codes "P6"
rule_word SetRoles = codes "P7"
rule_word Retire = codes "P8"
rule_word Unlock = codes "P9"
rule_word MakeForm = codes "P10"
rule_word ReadForm = codes "P11"
rule_word OpenRecord = codes "P12"
rule_word Enter = codes "P13"
rule_word Amend = codes "P14"
rule_word SignAuthorship = codes "P15"
rule_word SignReview = codes "P16"
rule_word SignRejection = codes "P17"
rule_word ReadRecord = codes "P18"
rule_word ReadVersion = codes "P19"
rule_word ReadRecords = codes "P20"
rule_word ReadTrail = codes "P21"
rule_word TakeCopy = codes "P22"
rule_word SignApproval = codes "P23"

-- the roles of which a rule wants one; none where it is open to everybody, also to a person of no
-- role
abbrev pub roles_of : Rule → Option (List Role)
roles_of CloseSession = None
roles_of ChangePassword = None
roles_of Enrol = Some (Administrator ∷ [])
roles_of ReadPersons = Some (Administrator ∷ Manager ∷ Inspector ∷ [])
roles_of AskIssue = Some (Administrator ∷ [])
roles_of ConfirmIssue = Some (Administrator ∷ [])
roles_of SetRoles = Some (Administrator ∷ [])
roles_of Retire = Some (Administrator ∷ [])
roles_of Unlock = Some (Administrator ∷ [])
roles_of MakeForm = Some (Manager ∷ [])
roles_of ReadForm = Some (Analyst ∷ Reviewer ∷ Manager ∷ Inspector ∷ [])
roles_of OpenRecord = Some (Analyst ∷ [])
roles_of Enter = Some (Analyst ∷ [])
roles_of Amend = Some (Analyst ∷ [])
roles_of SignAuthorship = Some (Analyst ∷ [])
roles_of SignReview = Some (Reviewer ∷ [])
roles_of SignRejection = Some (Reviewer ∷ Manager ∷ [])
roles_of ReadRecord = Some (Analyst ∷ Reviewer ∷ Manager ∷ Inspector ∷ [])
roles_of ReadVersion = Some (Analyst ∷ Reviewer ∷ Manager ∷ Inspector ∷ [])
roles_of ReadRecords = Some (Analyst ∷ Reviewer ∷ Manager ∷ Inspector ∷ [])
roles_of ReadTrail = Some (Administrator ∷ Manager ∷ Inspector ∷ [])
roles_of TakeCopy = Some (Manager ∷ Inspector ∷ [])
roles_of SignApproval = Some (Manager ∷ [])

-- one of the wanted roles is among a person's
abbrev pub has_wanted : Option (List Role) → Roles → Bool
has_wanted None roles = true
has_wanted (Some wanted) roles = list_any (has_role roles) wanted

-- whether a rule is open to a person of these roles
abbrev pub is_open_to : Rule → Roles → Bool
is_open_to rule roles = has_wanted (roles_of rule) roles

-- a due password bars all but closing the session and changing the password
abbrev pub is_barred_by_due : Rule → Bool
is_barred_by_due CloseSession = false
is_barred_by_due ChangePassword = false
is_barred_by_due rule = true

-- why a person may not do what a rule is for, if so: a due password first, and then the roles
unfoldable pub denial : Person → Rule → ℕ → Option PeopleRefusal
denial person rule moment =
    if is_barred_by_due rule && is_due person.password moment then Some PasswordDue
    else (if not (is_open_to rule person.roles) then Some (RoleWanted rule)
    else None)
