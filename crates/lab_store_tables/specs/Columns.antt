-- How values stand in columns: as they are read, whatever the columns hold, and as they are
-- written. What is written is read back as it was; a row whose columns aren't those that are
-- written of what is read of them is no row of a well-kept table.
use Rattle.std.specs.Prelude.{ℕ, ℤ, ◌+◌, ◌/◌, ◌%◌, ◌==◌, Bool, true, false, List, [], ◌∷◌, find, Option, Some, None, unwrap_or, bytes_eq, codes, if◌then◌else◌}
use Rattle.lab_seal_hashes.specs.declared.verifiers.VerifierParts.{VerifierParts}
use Rattle.lab_forms.specs.declared.kinds.Kind.{Kind}
use Rattle.lab_forms.specs.declared.kinds.Kind.TheVariants.{Number, Text, Choice, Date, YesNo}
use Rattle.lab_people_access.specs.declared.roles.Roles.{Roles}
use Rattle.lab_people_access.specs.declared.passwords.Password.{Password}
use Rattle.lab_people_access.specs.declared.passwords.Password.TheVariants.{Unset, Chosen, OneTime}
use Rattle.lab_people_access.specs.declared.persons.Ask.{Ask}
use Rattle.lab_seal_versions.specs.declared.versions.Format.{Format}
use Rattle.lab_seal_versions.specs.declared.versions.Format.TheVariants.{One, Two}
use Rattle.lab_seal_versions.specs.declared.seals.Meaning.{Meaning}
use Rattle.lab_seal_versions.specs.declared.seals.Meaning.TheVariants.{Authorship, Review, Rejection, Approval}
use Rattle.lab_records_kept.specs.declared.trails.Action.{Action}
use Rattle.lab_records_kept.specs.declared.trails.Action.TheVariants.{Found, Open, Close, Refuse, Lock, Password as Renew, Enrol, Issue, Confirm, Roles as GiveRoles, Retire, Unlock, Form, Record, Entry, Amend, Sign}
use Rattle.lab_records_kept.specs.Trails.{action_word}
use Rattle.lab_store_tables.specs.Rows.{PasswordColumns, AskColumns, KindColumns}

-- ---- roles, a sum of 1, 2, 4, 8 and 16

abbrev is_odd : ℕ → Bool
is_odd n = n % 2 == 1

abbrev pub roles_in : ℕ → Roles
roles_in sum = record {
  analyst = is_odd sum;
  reviewer = is_odd (sum / 2);
  manager = is_odd (sum / 4);
  administrator = is_odd (sum / 8);
  inspector = is_odd (sum / 16);
}

abbrev weight : Bool → ℕ → ℕ
weight false n = 0
weight true n = n

abbrev pub roles_sum : Roles → ℕ
roles_sum roles =
    weight roles.analyst 1 + weight roles.reviewer 2 + weight roles.manager 4
    + weight roles.administrator 8 + weight roles.inspector 16

-- ---- passwords, and what was asked for

abbrev pub verifier_in : Option (List ℕ) → Option ℕ → Option (List ℕ) → VerifierParts
verifier_in salt rounds bytes = record {
  salt = unwrap_or salt [];
  rounds = unwrap_or rounds 0;
  bytes = unwrap_or bytes [];
}

abbrev pub password_in : PasswordColumns → Password
password_in columns =
    if columns.kind == 0 then Unset
    else (if columns.kind == 1 then
    Chosen (verifier_in columns.salt columns.rounds columns.bytes) (unwrap_or columns.changed 0)
    else OneTime (verifier_in columns.salt columns.rounds columns.bytes)
    (verifier_in columns.salt2 columns.rounds2 columns.bytes2) (unwrap_or columns.changed 0))

abbrev pub password_columns : Password → PasswordColumns
password_columns Unset = record {
  kind = 0;
  salt = None;
  rounds = None;
  bytes = None;
  salt2 = None;
  rounds2 = None;
  bytes2 = None;
  changed = None;
}
password_columns (Chosen verifier changed) = record {
  kind = 1;
  salt = Some verifier.salt;
  rounds = Some verifier.rounds;
  bytes = Some verifier.bytes;
  salt2 = None;
  rounds2 = None;
  bytes2 = None;
  changed = Some changed;
}
password_columns (OneTime first second confirmed) = record {
  kind = 2;
  salt = Some first.salt;
  rounds = Some first.rounds;
  bytes = Some first.bytes;
  salt2 = Some second.salt;
  rounds2 = Some second.rounds;
  bytes2 = Some second.bytes;
  changed = Some confirmed;
}

-- who asked stands as an id, which the one who writes looks up
abbrev pub ask_columns : Option ℤ → Option Ask → AskColumns
ask_columns asker None = record {
  asker = None;
  asked = None;
  salt = None;
  rounds = None;
  bytes = None;
}
ask_columns asker (Some ask) = record {
  asker = asker;
  asked = Some ask.asked;
  salt = Some ask.first.salt;
  rounds = Some ask.first.rounds;
  bytes = Some ask.first.bytes;
}

-- ---- what a field takes; the names of a choice stand in a table of their own

abbrev pub kind_in : KindColumns → List (List ℕ) → Kind
kind_in columns names =
    if bytes_eq columns.word (codes "number") then
    Number (unwrap_or columns.unit []) (unwrap_or columns.decimals 0) columns.low columns.high
    else (if bytes_eq columns.word (codes "text") then Text (unwrap_or columns.size 0)
    else (if bytes_eq columns.word (codes "choice") then Choice names
    else (if bytes_eq columns.word (codes "date") then Date
    else YesNo)))

-- a kind that has nothing but its word
abbrev bare : List ℕ → KindColumns
bare word = record {
  word = word;
  unit = None;
  decimals = None;
  low = None;
  high = None;
  size = None;
}

abbrev pub kind_columns : Kind → KindColumns
kind_columns (Number unit decimals min max) = record {
  word = codes "number";
  unit = Some unit;
  decimals = Some decimals;
  low = min;
  high = max;
  size = None;
}
kind_columns (Text size) = record (bare (codes "text")) { size = Some size }
kind_columns (Choice choices) = bare (codes "choice")
kind_columns Date = bare (codes "date")
kind_columns YesNo = bare (codes "yesno")

abbrev pub kind_names : Kind → List (List ℕ)
kind_names (Number unit decimals min max) = []
kind_names (Text size) = []
kind_names (Choice choices) = choices
kind_names Date = []
kind_names YesNo = []

-- ---- formats of texts: 1, or 2, which says whether the version's form wants an approval

abbrev pub format_in : ℕ → Bool → Format
format_in format approval = if format == 1 then One else Two approval

abbrev pub format_number : Format → ℕ
format_number One = 1
format_number (Two approval) = 2

-- ---- meanings of signatures, of which a rejection alone has a reason

abbrev pub meaning_in : List ℕ → Option (List ℕ) → Meaning
meaning_in word reason =
    if bytes_eq word (codes "authorship") then Authorship
    else (if bytes_eq word (codes "review") then Review
    else (if bytes_eq word (codes "rejection") then Rejection (unwrap_or reason [])
    else Approval))

abbrev pub reason_column : Meaning → Option (List ℕ)
reason_column Authorship = None
reason_column Review = None
reason_column (Rejection reason) = Some reason
reason_column Approval = None

-- ---- actions of the trail, each by its word

abbrev actions : List Action
actions =
    Found ∷ Open ∷ Close ∷ Refuse ∷ Lock ∷ Renew ∷ Enrol ∷ Issue ∷ Confirm ∷ GiveRoles ∷ Retire
    ∷ Unlock ∷ Form ∷ Record ∷ Entry ∷ Amend ∷ Sign ∷ []

abbrev pub action_in : List ℕ → Action
action_in word = unwrap_or (find (λ one. bytes_eq (action_word one) word) actions) Found
