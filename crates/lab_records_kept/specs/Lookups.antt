-- Who and what is meant by a code or a number.
use Rattle.std.specs.Prelude.{ℕ, Bool, true, false, ◌&&◌, ◌==◌, ◌+◌, ◌-◌, nat_le, List, length, reverse, find, filter, Option, Some, None, slice_get, option_and_then, bytes_eq}
use Rattle.std.specs.Ordering.{nat_cmp, match_ordering}
use Rattle.std.specs.Cmp.Lexicographic.{slice_cmp}
use Rattle.lab_people_access.specs.declared.persons.Person.{Person}
use Rattle.lab_people_access.specs.declared.sessions.Session.{Session}
use Rattle.lab_people_access.specs.Persons.{person_of}
use Rattle.lab_people_access.specs.Sessions.{session_of}
use Rattle.lab_records_kept.specs.declared.records.FormVersion.{FormVersion}
use Rattle.lab_records_kept.specs.declared.records.Record.{Record}
use Rattle.lab_records_kept.specs.declared.records.Version.{Version}
use Rattle.lab_records_kept.specs.declared.trails.TrailRow.{TrailRow}
use Rattle.lab_records_kept.specs.declared.labs.Lab.{Lab}

-- one text comes before another in the order of their bytes
abbrev pub comes_before : List ℕ → List ℕ → Bool
comes_before one other = match_ordering (slice_cmp nat_cmp one other) true false false

-- the last of a list
abbrev pub last_of : {A : Type 0} → List A → Option A
last_of list = slice_get list (length list - 1)

-- the session whose token has the digest, open or closed
abbrev pub session_at : Lab → List ℕ → Option Session
session_at lab digest = session_of lab.sessions digest

-- who has the code, or had it
abbrev pub person_at : Lab → List ℕ → Option Person
person_at lab code = person_of lab.persons code

-- whose session it is
abbrev pub caller_of : Lab → Option Session → Option Person
caller_of lab None = None
caller_of lab (Some session) = person_at lab session.person

-- a version is one of the form of the code
abbrev pub is_version_of : List ℕ → FormVersion → Bool
is_version_of code one = bytes_eq one.code code

-- the last version of a form: the one that was made last
abbrev pub last_form : List FormVersion → List ℕ → Option FormVersion
last_form forms code = find (is_version_of code) (reverse forms)

-- the number of a form's next version, where it has this last version or none
abbrev pub next_form_version : Option FormVersion → ℕ
next_form_version None = 1
next_form_version (Some form) = form.version + 1

-- the version of a form that has the number
abbrev pub is_form_version : List ℕ → ℕ → FormVersion → Bool
is_form_version code version one = is_version_of code one && (one.version == version)

abbrev pub exact_form : List FormVersion → List ℕ → ℕ → Option FormVersion
exact_form forms code version = find (is_form_version code version) forms

-- the record of a number
abbrev pub has_number : ℕ → Record → Bool
has_number number kept = kept.number == number

abbrev pub record_of : List Record → ℕ → Option Record
record_of records number = find (has_number number) records

-- the record of a form and a sample, whatever the form's version
abbrev pub is_about : List ℕ → List ℕ → Record → Bool
is_about form sample kept = bytes_eq kept.form.code form && bytes_eq kept.sample sample

abbrev pub record_about : List Record → List ℕ → List ℕ → Option Record
record_about records form sample = find (is_about form sample) records

-- the version of a record that has the number
abbrev pub is_numbered : ℕ → Version → Bool
is_numbered number version = version.origin.number == number

abbrev pub version_of : List Version → ℕ → Option Version
version_of versions number = find (is_numbered number) versions

-- the last version of a record, and its version of a number, where they are there
abbrev pub last_version : Lab → ℕ → Option Version
last_version lab number =
    option_and_then (λ kept. last_of kept.versions) (record_of lab.records number)

abbrev pub numbered_version : Lab → ℕ → ℕ → Option Version
numbered_version lab number version =
    option_and_then (λ kept. version_of kept.versions version) (record_of lab.records number)

-- a number lies from one to another
abbrev pub is_within : ℕ → ℕ → ℕ → Bool
is_within from to number = nat_le from number && nat_le number to

-- the records of a range, and the rows of the trail of one
abbrev pub records_within : ℕ → ℕ → List Record → List Record
records_within from to records = filter (λ kept. is_within from to kept.number) records

abbrev pub rows_within : ℕ → ℕ → List TrailRow → List TrailRow
rows_within from to trail = filter (λ row. is_within from to row.number) trail
