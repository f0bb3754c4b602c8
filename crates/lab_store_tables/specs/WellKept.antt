-- Tables that are well kept: no two rows have one key, each arrow leads to a row, and all arrows of
-- a row lead to one laboratory; numbers and places run from 1 without gaps; what a row says twice
-- it says alike (21 CFR 11.10(a), "the ability to discern invalid or altered records"; ISO/IEC
-- 17025:2017, 7.11.3: a system that manages information is (b) "safeguarded against tampering and
-- loss" and (d) "maintained in a manner that ensures the integrity of the data and information").
-- Most parts are tests, so that a file can be tried.
use Rattle.std.specs.Prelude.{◌≡◌, ℕ, ℤ, Bool, true, false, not, ◌&&◌, ◌||◌, ◌==◌, nat_le, IsTrue, List, [], ◌∷◌, filter, length, Option, Some, None, option_map, option_and_then, is_some, is_none, bytes_eq, codes}
use Rattle.std.specs.Ordering.{int_eq}
use Rattle.std.specs.List.{list_all, AllByRecursion}
use Rattle.std.specs.Option.{option_map_or}
use Rattle.sqlite_keyed.specs.Keyed.{get_by}
use Rattle.sqlite_keyed.specs.Rules.{has_parent}
use Rattle.lab_seal_versions.specs.Seals.{meaning_word}
use Rattle.lab_records_kept.specs.Trails.{action_word}
use Rattle.lab_store_tables.specs.Schema.{schema_number}
use Rattle.lab_store_tables.specs.Rows.{DeskRow, LabRow, PersonRow, AskColumns, SessionRow, FormRow, FieldRow, ChoiceRow, RecordRow, VersionRow, EntryRow, SignatureRow, TrailRow, Tables, lab_id, person_id, session_id, form_id, field_id, choice_id, record_id, version_id, entry_id, signature_id, trail_id}
use Rattle.lab_store_tables.specs.Columns.{roles_in, roles_sum, password_in, password_columns, kind_in, kind_columns, meaning_in, reason_column, action_in}

-- ---- keys

-- no two rows clash
abbrev pub are_apart : {X : Type 0} → (X → X → Bool) → List X → Bool
are_apart clash [] = true
are_apart clash (one ∷ others) =
    list_all (λ other. not (clash one other)) others && are_apart clash others

-- no two rows of a table have one id
abbrev pub have_own_ids : {X : Type 0} → (X → ℤ) → List X → Bool
have_own_ids id rows = are_apart (λ one other. int_eq (id one) (id other)) rows

-- rows that have the same key, for each unique key of a table
abbrev pub same_lab : LabRow → LabRow → Bool
same_lab one other = bytes_eq one.code other.code

abbrev pub same_person : PersonRow → PersonRow → Bool
same_person one other = int_eq one.lab other.lab && bytes_eq one.code other.code

abbrev pub same_token : SessionRow → SessionRow → Bool
same_token one other = int_eq one.lab other.lab && bytes_eq one.token other.token

abbrev pub same_session : SessionRow → SessionRow → Bool
same_session one other = int_eq one.lab other.lab && (one.number == other.number)

abbrev pub same_code : FormRow → FormRow → Bool
same_code one other = int_eq one.lab other.lab && bytes_eq one.code other.code

abbrev pub same_form : FormRow → FormRow → Bool
same_form one other = same_code one other && (one.version == other.version)

abbrev pub same_field : FieldRow → FieldRow → Bool
same_field one other = int_eq one.form other.form && (one.place == other.place)

abbrev pub same_key : FieldRow → FieldRow → Bool
same_key one other = int_eq one.form other.form && bytes_eq one.key other.key

abbrev pub same_choice : ChoiceRow → ChoiceRow → Bool
same_choice one other = int_eq one.field other.field && (one.place == other.place)

abbrev pub same_record : RecordRow → RecordRow → Bool
same_record one other = int_eq one.lab other.lab && (one.number == other.number)

abbrev pub same_sample : RecordRow → RecordRow → Bool
same_sample one other =
    int_eq one.lab other.lab && bytes_eq one.form_code other.form_code
    && bytes_eq one.sample other.sample

abbrev pub same_version : VersionRow → VersionRow → Bool
same_version one other = int_eq one.kept other.kept && (one.number == other.number)

abbrev pub same_entry : EntryRow → EntryRow → Bool
same_entry one other = int_eq one.version other.version && (one.place == other.place)

abbrev pub same_signature : SignatureRow → SignatureRow → Bool
same_signature one other = int_eq one.version other.version && (one.place == other.place)

abbrev pub same_meaning : SignatureRow → SignatureRow → Bool
same_meaning one other = int_eq one.version other.version && bytes_eq one.meaning other.meaning

abbrev pub same_told : TrailRow → TrailRow → Bool
same_told one other = int_eq one.lab other.lab && (one.number == other.number)

abbrev pub are_ids_unique : Tables → Bool
are_ids_unique t =
    have_own_ids lab_id t.labs && have_own_ids person_id t.persons
    && have_own_ids session_id t.sessions && have_own_ids form_id t.forms
    && have_own_ids field_id t.fields && have_own_ids choice_id t.choices
    && have_own_ids record_id t.records && have_own_ids version_id t.versions
    && have_own_ids entry_id t.entries && have_own_ids signature_id t.signatures
    && have_own_ids trail_id t.trail

abbrev pub are_keys_unique : Tables → Bool
are_keys_unique t =
    are_apart same_lab t.labs && are_apart same_person t.persons
    && are_apart same_token t.sessions && are_apart same_session t.sessions
    && are_apart same_form t.forms && are_apart same_field t.fields
    && are_apart same_key t.fields && are_apart same_choice t.choices
    && are_apart same_record t.records && are_apart same_sample t.records
    && are_apart same_version t.versions && are_apart same_entry t.entries
    && are_apart same_signature t.signatures && are_apart same_meaning t.signatures
    && are_apart same_told t.trail

-- ---- arrows

-- each row's arrow, where it has one, leads to a row of the parents
abbrev pub have_parents : {X P : Type 0} → (X → Option ℤ) → (P → ℤ) → List P → List X → Bool
have_parents arrow id parents rows = list_all (λ one. has_parent id parents (arrow one)) rows

abbrev pub are_arrows_whole : Tables → Bool
are_arrows_whole t =
    have_parents (λ (one : PersonRow). Some one.lab) lab_id t.labs t.persons
    && have_parents (λ (one : PersonRow). one.ask.asker) person_id t.persons t.persons
    && have_parents (λ (one : SessionRow). Some one.lab) lab_id t.labs t.sessions
    && have_parents (λ (one : SessionRow). Some one.person) person_id t.persons t.sessions
    && have_parents (λ (one : FormRow). Some one.lab) lab_id t.labs t.forms
    && have_parents (λ (one : FieldRow). Some one.form) form_id t.forms t.fields
    && have_parents (λ (one : ChoiceRow). Some one.field) field_id t.fields t.choices
    && have_parents (λ (one : RecordRow). Some one.lab) lab_id t.labs t.records
    && have_parents (λ (one : RecordRow). Some one.form) form_id t.forms t.records
    && have_parents (λ (one : VersionRow). Some one.kept) record_id t.records t.versions
    && have_parents (λ (one : VersionRow). Some one.opener) person_id t.persons t.versions
    && have_parents (λ (one : EntryRow). Some one.version) version_id t.versions t.entries
    && have_parents (λ (one : EntryRow). Some one.person) person_id t.persons t.entries
    && have_parents (λ (one : SignatureRow). Some one.version) version_id t.versions t.signatures
    && have_parents (λ (one : SignatureRow). Some one.person) person_id t.persons t.signatures
    && have_parents (λ (one : TrailRow). Some one.lab) lab_id t.labs t.trail
    && have_parents (λ (one : TrailRow). one.person) person_id t.persons t.trail

-- ---- whose a row is

-- the id of the laboratory to which the row with the id belongs, by one arrow after the other
abbrev pub lab_of_person : Tables → ℤ → Option ℤ
lab_of_person t id = option_map (λ (one : PersonRow). one.lab) (get_by person_id t.persons id)

abbrev pub lab_of_form : Tables → ℤ → Option ℤ
lab_of_form t id = option_map (λ (one : FormRow). one.lab) (get_by form_id t.forms id)

abbrev pub lab_of_record : Tables → ℤ → Option ℤ
lab_of_record t id = option_map (λ (one : RecordRow). one.lab) (get_by record_id t.records id)

abbrev pub lab_of_version : Tables → ℤ → Option ℤ
lab_of_version t id =
    option_and_then (λ (one : VersionRow). lab_of_record t one.kept)
    (get_by version_id t.versions id)

-- both belong to one laboratory
abbrev pub is_same : Option ℤ → Option ℤ → Bool
is_same None other = false
is_same (Some lab) None = false
is_same (Some lab) (Some other) = int_eq lab other

-- a person of the laboratory, or nobody
abbrev pub is_of_lab : Tables → ℤ → Option ℤ → Bool
is_of_lab t lab None = true
is_of_lab t lab (Some person) = is_same (lab_of_person t person) (Some lab)

-- the two arrows of each row lead to one laboratory
abbrev pub is_asked_within : Tables → PersonRow → Bool
is_asked_within t one = is_of_lab t one.lab one.ask.asker

abbrev pub is_session_within : Tables → SessionRow → Bool
is_session_within t one = is_same (lab_of_person t one.person) (Some one.lab)

abbrev pub is_record_within : Tables → RecordRow → Bool
is_record_within t one = is_same (lab_of_form t one.form) (Some one.lab)

abbrev pub is_version_within : Tables → VersionRow → Bool
is_version_within t one = is_same (lab_of_person t one.opener) (lab_of_record t one.kept)

abbrev pub is_entry_within : Tables → EntryRow → Bool
is_entry_within t one = is_same (lab_of_person t one.person) (lab_of_version t one.version)

abbrev pub is_signature_within : Tables → SignatureRow → Bool
is_signature_within t one = is_same (lab_of_person t one.person) (lab_of_version t one.version)

abbrev pub is_told_within : Tables → TrailRow → Bool
is_told_within t one = is_of_lab t one.lab one.person

abbrev pub are_labs_apart : Tables → Bool
are_labs_apart t =
    list_all (is_asked_within t) t.persons && list_all (is_session_within t) t.sessions
    && list_all (is_record_within t) t.records && list_all (is_version_within t) t.versions
    && list_all (is_entry_within t) t.entries && list_all (is_signature_within t) t.signatures
    && list_all (is_told_within t) t.trail

-- ---- numbers and places

-- each number lies from 1 to the number of rows beside which it is counted; as no two of these rows
-- have one number, they run from 1 without gaps
abbrev pub are_numbered_beside : {X : Type 0} → (X → X → Bool) → (X → ℕ) → List X → Bool
are_numbered_beside beside number rows =
    list_all (λ one.
    nat_le 1 (number one) && nat_le (number one) (length (filter (beside one) rows))) rows

abbrev pub are_all_numbered : Tables → Bool
are_all_numbered t =
    are_numbered_beside (λ (one other : SessionRow). int_eq other.lab one.lab)
    (λ (one : SessionRow). one.number) t.sessions
    && are_numbered_beside (λ (one other : FormRow). same_code one other)
    (λ (one : FormRow). one.version) t.forms
    && are_numbered_beside (λ (one other : FieldRow). int_eq other.form one.form)
    (λ (one : FieldRow). one.place) t.fields
    && are_numbered_beside (λ (one other : ChoiceRow). int_eq other.field one.field)
    (λ (one : ChoiceRow). one.place) t.choices
    && are_numbered_beside (λ (one other : RecordRow). int_eq other.lab one.lab)
    (λ (one : RecordRow). one.number) t.records
    && are_numbered_beside (λ (one other : VersionRow). int_eq other.kept one.kept)
    (λ (one : VersionRow). one.number) t.versions
    && are_numbered_beside (λ (one other : EntryRow). int_eq other.version one.version)
    (λ (one : EntryRow). one.place) t.entries
    && are_numbered_beside (λ (one other : SignatureRow). int_eq other.version one.version)
    (λ (one : SignatureRow). one.place) t.signatures
    && are_numbered_beside (λ (one other : TrailRow). int_eq other.lab one.lab)
    (λ (one : TrailRow). one.number) t.trail

-- ---- what is said twice

-- the counters of a laboratory are the numbers that it gave
abbrev pub has_counted : Tables → LabRow → Bool
has_counted t lab =
    (lab.records == length (filter (λ (one : RecordRow). int_eq one.lab lab.id) t.records))
    && (lab.sessions == length (filter (λ (one : SessionRow). int_eq one.lab lab.id) t.sessions))
    && (lab.trail == length (filter (λ (one : TrailRow). int_eq one.lab lab.id) t.trail))

-- a record has a version, `current` is the number of the last one, and `form_code` is its form's
abbrev pub is_current : Tables → RecordRow → Bool
is_current t kept =
    nat_le 1 kept.current
    && (kept.current
    == length (filter (λ (one : VersionRow). int_eq one.kept kept.id) t.versions))

abbrev pub names_its_form : Tables → RecordRow → Bool
names_its_form t kept =
    option_map_or (λ (one : FormRow). bytes_eq one.code kept.form_code)
    (get_by form_id t.forms kept.form) false

abbrev pub is_said_alike : Tables → Bool
is_said_alike t =
    list_all (has_counted t) t.labs && list_all (is_current t) t.records
    && list_all (names_its_form t) t.records

-- the one row of `desk` names the schema
abbrev pub is_desk : List DeskRow → Bool
is_desk [] = false
is_desk (one ∷ []) = one.number == schema_number
is_desk (one ∷ other ∷ others) = false

-- ---- columns that only some values have

-- an ask has all its columns, or none
abbrev pub is_whole_ask : AskColumns → Bool
is_whole_ask ask =
    (is_some ask.asker && is_some ask.asked && is_some ask.salt && is_some ask.rounds
    && is_some ask.bytes)
    || (is_none ask.asker && is_none ask.asked && is_none ask.salt && is_none ask.rounds
    && is_none ask.bytes)

-- a first version has no reason, and every other one has
abbrev pub has_due_reason : VersionRow → Bool
has_due_reason one =
    ((one.number == 1) && is_none one.reason) || (nat_le 2 one.number && is_some one.reason)

abbrev pub has_format : VersionRow → Bool
has_format one = (one.format == 1) || (one.format == 2)

-- no choice stands under a field of another kind
abbrev pub is_of_choice : Tables → ChoiceRow → Bool
is_of_choice t one =
    option_map_or (λ (field : FieldRow). bytes_eq field.kind.word (codes "choice"))
    (get_by field_id t.fields one.field) false

abbrev pub are_columns_whole : Tables → Bool
are_columns_whole t =
    list_all (λ (one : PersonRow). is_whole_ask one.ask) t.persons
    && list_all has_due_reason t.versions && list_all has_format t.versions
    && list_all (is_of_choice t) t.choices

-- what is read of a row's columns is written as these columns
abbrev pub IsPersonSpelled : PersonRow → Type 0
IsPersonSpelled one =
    (roles_sum (roles_in one.roles) ≡ one.roles)
    × (password_columns (password_in one.password) ≡ one.password)

abbrev pub IsFieldSpelled : FieldRow → Type 0
IsFieldSpelled one = kind_columns (kind_in one.kind []) ≡ one.kind

abbrev pub IsSignatureSpelled : SignatureRow → Type 0
IsSignatureSpelled one =
    (meaning_word (meaning_in one.meaning one.reason) ≡ one.meaning)
    × (reason_column (meaning_in one.meaning one.reason) ≡ one.reason)

abbrev pub IsTrailSpelled : TrailRow → Type 0
IsTrailSpelled one = action_word (action_in one.action) ≡ one.action

-- ---- all of it

-- all but which schema the file names: so tables are while a file is made, whose row of `desk`
-- comes last
pub record AreWellKept (t : Tables) : Type 0 where
  pub ids : IsTrue (are_ids_unique t)
  pub keys : IsTrue (are_keys_unique t)
  pub arrows : IsTrue (are_arrows_whole t)
  pub labs_apart : IsTrue (are_labs_apart t)
  pub numbered : IsTrue (are_all_numbered t)
  pub alike : IsTrue (is_said_alike t)
  pub columns : IsTrue (are_columns_whole t)
  pub persons : AllByRecursion IsPersonSpelled t.persons
  pub fields : AllByRecursion IsFieldSpelled t.fields
  pub signatures : AllByRecursion IsSignatureSpelled t.signatures
  pub trail : AllByRecursion IsTrailSpelled t.trail

pub record IsWellKept (t : Tables) : Type 0 where
  pub desk : IsTrue (is_desk t.desk)
  pub rows : AreWellKept t
