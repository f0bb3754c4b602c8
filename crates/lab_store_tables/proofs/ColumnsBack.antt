-- What is written in columns is read back: roles, passwords, kinds of fields, formats, meanings and actions.
use Rattle.std.proofs.Common.{◌≡◌, Bool, true, false, [], refl}
use Rattle.lab_people_access.specs.declared.roles.Roles.{Roles}
use Rattle.lab_people_access.specs.declared.passwords.Password.{Password}
use Rattle.lab_people_access.specs.declared.passwords.Password.TheVariants.{Unset, Chosen, OneTime}
use Rattle.lab_forms.specs.declared.kinds.Kind.{Kind}
use Rattle.lab_forms.specs.declared.kinds.Kind.TheVariants.{Number, Text, Choice, Date, YesNo}
use Rattle.lab_seal_versions.specs.declared.versions.Format.TheVariants.{One, Two}
use Rattle.lab_seal_versions.specs.declared.seals.Meaning.{Meaning}
use Rattle.lab_seal_versions.specs.declared.seals.Meaning.TheVariants.{Authorship, Review, Rejection, Approval}
use Rattle.lab_seal_versions.specs.Seals.{meaning_word}
use Rattle.lab_records_kept.specs.declared.trails.Action.{Action}
use Rattle.lab_records_kept.specs.declared.trails.Action.TheVariants.{Found, Open, Close, Refuse, Lock, Password as Renew, Enrol, Issue, Confirm, Roles as GiveRoles, Retire, Unlock, Form, Record, Entry, Amend, Sign}
use Rattle.lab_records_kept.specs.Trails.{action_word}
use Rattle.lab_store_tables.specs.Columns.{roles_in, roles_sum, password_in, password_columns, kind_in, kind_columns, kind_names, format_in, format_number, meaning_in, reason_column, action_in}

-- ---- roles, in each of their 32 sets

abbrev roles_of : Bool → Bool → Bool → Bool → Bool → Roles
roles_of analyst reviewer manager administrator inspector = record {
  analyst = analyst;
  reviewer = reviewer;
  manager = manager;
  administrator = administrator;
  inspector = inspector;
}

each_role : (a b c d e : Bool) → roles_in (roles_sum (roles_of a b c d e)) ≡ roles_of a b c d e
each_role true true true true true = refl
each_role true true true true false = refl
each_role true true true false true = refl
each_role true true true false false = refl
each_role true true false true true = refl
each_role true true false true false = refl
each_role true true false false true = refl
each_role true true false false false = refl
each_role true false true true true = refl
each_role true false true true false = refl
each_role true false true false true = refl
each_role true false true false false = refl
each_role true false false true true = refl
each_role true false false true false = refl
each_role true false false false true = refl
each_role true false false false false = refl
each_role false true true true true = refl
each_role false true true true false = refl
each_role false true true false true = refl
each_role false true true false false = refl
each_role false true false true true = refl
each_role false true false true false = refl
each_role false true false false true = refl
each_role false true false false false = refl
each_role false false true true true = refl
each_role false false true true false = refl
each_role false false true false true = refl
each_role false false true false false = refl
each_role false false false true true = refl
each_role false false false true false = refl
each_role false false false false true = refl
each_role false false false false false = refl

pub roles_back : (roles : Roles) → roles_in (roles_sum roles) ≡ roles
roles_back roles = each_role roles.analyst roles.reviewer roles.manager roles.administrator roles.inspector

-- ---- passwords

pub password_back : (password : Password) → password_in (password_columns password) ≡ password
password_back Unset = refl
password_back (Chosen verifier changed) = refl
password_back (OneTime first second confirmed) = refl

-- ---- kinds of fields, with their names apart

pub kind_back : (kind : Kind) → kind_in (kind_columns kind) (kind_names kind) ≡ kind
kind_back (Number unit decimals low high) = refl
kind_back (Text size) = refl
kind_back (Choice names) = refl
kind_back Date = refl
kind_back YesNo = refl

-- what a kind is written as doesn't depend on its names, and is what is read of it
pub kind_spelled : (kind : Kind) → kind_columns (kind_in (kind_columns kind) []) ≡ kind_columns kind
kind_spelled (Number unit decimals low high) = refl
kind_spelled (Text size) = refl
kind_spelled (Choice names) = refl
kind_spelled Date = refl
kind_spelled YesNo = refl

-- ---- formats of texts, of a version whose form wants an approval or not

pub format_back : (approval : Bool) → format_in (format_number (Two approval)) approval ≡ Two approval
format_back approval = refl

pub first_format_back : (approval : Bool) → format_in (format_number One) approval ≡ One
first_format_back approval = refl

-- ---- meanings and actions

pub meaning_back : (meaning : Meaning) → meaning_in (meaning_word meaning) (reason_column meaning) ≡ meaning
meaning_back Authorship = refl
meaning_back Review = refl
meaning_back (Rejection reason) = refl
meaning_back Approval = refl

pub action_back : (action : Action) → action_in (action_word action) ≡ action
action_back Found = refl
action_back Open = refl
action_back Close = refl
action_back Refuse = refl
action_back Lock = refl
action_back Renew = refl
action_back Enrol = refl
action_back Issue = refl
action_back Confirm = refl
action_back GiveRoles = refl
action_back Retire = refl
action_back Unlock = refl
action_back Form = refl
action_back Record = refl
action_back Entry = refl
action_back Amend = refl
action_back Sign = refl
