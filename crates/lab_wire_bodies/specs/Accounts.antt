-- The bodies of the commands on sessions and accounts, their members in order.
use Rattle.std.specs.Prelude.{ℕ, List, [], ◌∷◌, codes, Ok}
use Rattle.serde_json.specs.Data.{Data}
use Rattle.lab_forms_texts.specs.Names.{is_person_code, is_name}
use Rattle.lab_records_machine.specs.declared.commands.Command.{Command}
use Rattle.lab_records_machine.specs.declared.commands.Command.TheVariants.{Open, In}
use Rattle.lab_records_machine.specs.declared.commands.SessionCommand.TheVariants.{OnAccount}
use Rattle.lab_records_machine.specs.declared.commands.AccountCommand.TheVariants.{Close, ChangePassword, Enrol, AskIssue, ConfirmIssue, SetRoles, Retire, Unlock}
use Rattle.lab_wire_members.specs.declared.members.MemberKind.TheVariants.{Text, Roles}
use Rattle.lab_wire_members.specs.Members.{MemberRule, must, has_members, at, roles_in}
use Rattle.lab_wire_members.specs.Readings.{Reading, then_read, wanted, text_at, named_at, shaped}

-- a session is opened by a person's code and password
abbrev pub opening_members : List MemberRule
opening_members = must (codes "code") Text ∷ must (codes "password") Text ∷ []

abbrev pub opening_read : Data → Reading Command
opening_read d =
    then_read (named_at is_person_code (codes "code") d) (λ code.
    then_read (text_at (codes "password") d) (λ password.
    Ok (Open code password)))

unfoldable pub opening_named : Data → Reading Command
opening_named d = shaped (has_members opening_members d) (opening_read d)

-- a session is closed by an object without members
unfoldable pub closing_named : Data → Reading Command
closing_named d = shaped (has_members [] d) (Ok (In (OnAccount Close)))

-- a password takes the place of an old one
abbrev pub password_members : List MemberRule
password_members = must (codes "old") Text ∷ must (codes "new") Text ∷ []

abbrev pub password_read : Data → Reading Command
password_read d =
    then_read (text_at (codes "old") d) (λ old.
    then_read (text_at (codes "new") d) (λ new.
    Ok (In (OnAccount (ChangePassword old new)))))

unfoldable pub password_named : Data → Reading Command
password_named d = shaped (has_members password_members d) (password_read d)

-- a person is enrolled by code, name and roles
abbrev pub enrolment_members : List MemberRule
enrolment_members =
    must (codes "code") Text ∷ must (codes "name") Text ∷ must (codes "roles") Roles ∷ []

abbrev pub enrolment_read : Data → Reading Command
enrolment_read d =
    then_read (named_at is_person_code (codes "code") d) (λ code.
    then_read (named_at is_name (codes "name") d) (λ name.
    then_read (wanted (at roles_in (codes "roles") d)) (λ roles.
    Ok (In (OnAccount (Enrol code name roles))))))

unfoldable pub enrolment_named : Data → Reading Command
enrolment_named d = shaped (has_members enrolment_members d) (enrolment_read d)

-- a person's roles are set
abbrev pub roles_members : List MemberRule
roles_members = must (codes "code") Text ∷ must (codes "roles") Roles ∷ []

abbrev pub roles_read : Data → Reading Command
roles_read d =
    then_read (named_at is_person_code (codes "code") d) (λ code.
    then_read (wanted (at roles_in (codes "roles") d)) (λ roles.
    Ok (In (OnAccount (SetRoles code roles)))))

unfoldable pub roles_named : Data → Reading Command
roles_named d = shaped (has_members roles_members d) (roles_read d)

-- four commands are given on a person by the code alone
abbrev pub person_members : List MemberRule
person_members = must (codes "code") Text ∷ []

unfoldable pub person_named : Data → Reading (List ℕ)
person_named d =
    shaped (has_members person_members d) (named_at is_person_code (codes "code") d)

unfoldable pub issue_named : Data → Reading Command
issue_named d = then_read (person_named d) (λ code. Ok (In (OnAccount (AskIssue code))))

unfoldable pub confirmation_named : Data → Reading Command
confirmation_named d = then_read (person_named d) (λ code. Ok (In (OnAccount (ConfirmIssue code))))

unfoldable pub retirement_named : Data → Reading Command
retirement_named d = then_read (person_named d) (λ code. Ok (In (OnAccount (Retire code))))

unfoldable pub unlocking_named : Data → Reading Command
unlocking_named d = then_read (person_named d) (λ code. Ok (In (OnAccount (Unlock code))))
