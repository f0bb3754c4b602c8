-- The trail: one row for each accepted command that is no reading, and, while there is room, one
-- for each failed password of an account and for each lock (21 CFR 11.10(e), "computer-generated,
-- time-stamped audit trails to independently record the date and time of operator entries and
-- actions"). By which word an action is known and how its subject is written is this system's own.
use Rattle.std.specs.Prelude.{ℕ, List, ◌++◌, codes, decimal, Option}
use Rattle.std.specs.List.{flat_map}
use Rattle.lab_people_access.specs.declared.roles.Role.{Role}
use Rattle.lab_people_access.specs.declared.roles.Roles.{Roles}
use Rattle.lab_people_access.specs.Roles.{role_list, role_word}
use Rattle.lab_seal_versions.specs.Seals.{meaning_word}
use Rattle.lab_records_kept.specs.declared.trails.Action.{Action}
use Rattle.lab_records_kept.specs.declared.trails.Action.TheVariants.{Found, Open, Close, Refuse, Lock, Password, Enrol, Issue, Confirm, Roles as GiveRoles, Retire, Unlock, Form, Record, Entry, Amend, Sign}
use Rattle.lab_records_kept.specs.declared.trails.Occasion.{Occasion}
use Rattle.lab_records_kept.specs.declared.trails.Occasion.TheVariants.{Opening, Changing, Signing}
use Rattle.lab_records_kept.specs.declared.trails.Deed.{Deed}
use Rattle.lab_records_kept.specs.declared.trails.Deed.TheVariants.{Found as IsFounded, Open as IsOpened, Close as IsClosed, Refuse as IsRefused, Lock as IsLocked, Password as IsRenewed, Enrol as IsEnrolled, Issue as IsIssued, Confirm as IsConfirmed, Roles as HasRoles, Retire as IsRetired, Unlock as IsUnlocked, Form as FormIsMade, Record as RecordIsOpened, Entry as IsEntered, Amend as IsAmended, Sign as IsSigned}
use Rattle.lab_records_kept.specs.declared.trails.TrailRow.{TrailRow}

-- the word of an action
abbrev pub action_word : Action → List ℕ
action_word Found = codes "found"
action_word Open = codes "open"
action_word Close = codes "close"
action_word Refuse = codes "refuse"
action_word Lock = codes "lock"
action_word Password = codes "password"
action_word Enrol = codes "enrol"
action_word Issue = codes "issue"
action_word Confirm = codes "confirm"
action_word GiveRoles = codes "roles"
action_word Retire = codes "retire"
action_word Unlock = codes "unlock"
action_word Form = codes "form"
action_word Record = codes "record"
action_word Entry = codes "entry"
action_word Amend = codes "amend"
action_word Sign = codes "sign"

-- the action of a deed
abbrev pub action_of : Deed → Action
action_of (IsFounded lab) = Found
action_of (IsOpened session) = Open
action_of (IsClosed session) = Close
action_of (IsRefused occasion) = Refuse
action_of (IsLocked person) = Lock
action_of (IsRenewed person) = Password
action_of (IsEnrolled person roles) = Enrol
action_of (IsIssued person) = Issue
action_of (IsConfirmed person) = Confirm
action_of (HasRoles person roles) = GiveRoles
action_of (IsRetired person) = Retire
action_of (IsUnlocked person) = Unlock
action_of (FormIsMade form version) = Form
action_of (RecordIsOpened number) = Record
action_of (IsEntered number version key) = Entry
action_of (IsAmended number version) = Amend
action_of (IsSigned number version meaning) = Sign

-- the word of what a password was given for
abbrev pub occasion_word : Occasion → List ℕ
occasion_word Opening = codes "open"
occasion_word Changing = codes "password"
occasion_word Signing = codes "sign"

-- a role behind a space
abbrev pub spaced_role : Role → List ℕ
spaced_role role = codes " " ++ role_word role

-- a person's code and, behind it, each role
unfoldable pub roles_text : List ℕ → Roles → List ℕ
roles_text person roles = person ++ flat_map spaced_role (role_list roles)

-- a number behind a slash
abbrev pub slashed : ℕ → List ℕ
slashed number = codes "/" ++ decimal number

-- the subject of a deed
abbrev pub subject_text : Deed → List ℕ
subject_text (IsFounded lab) = lab
subject_text (IsOpened session) = decimal session
subject_text (IsClosed session) = decimal session
subject_text (IsRefused occasion) = occasion_word occasion
subject_text (IsLocked person) = person
subject_text (IsRenewed person) = person
subject_text (IsEnrolled person roles) = roles_text person roles
subject_text (IsIssued person) = person
subject_text (IsConfirmed person) = person
subject_text (HasRoles person roles) = roles_text person roles
subject_text (IsRetired person) = person
subject_text (IsUnlocked person) = person
subject_text (FormIsMade form version) = form ++ slashed version
subject_text (RecordIsOpened number) = decimal number
subject_text (IsEntered number version key) =
    decimal number ++ slashed version ++ codes "/" ++ key
subject_text (IsAmended number version) = decimal number ++ slashed version
subject_text (IsSigned number version meaning) =
    decimal number ++ slashed version ++ codes "/" ++ meaning_word meaning

-- the row that tells of a deed
abbrev pub trail_row_of : ℕ → ℕ → Option (List ℕ) → Deed → TrailRow
trail_row_of number moment person deed = record {
  number = number;
  moment = moment;
  person = person;
  action = action_of deed;
  subject = subject_text deed;
}
