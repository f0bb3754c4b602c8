-- The rows that each question is to show of the tables, in its order (ISO/IEC 9075-2, ORDER BY).
-- What an older schema didn't know, its question doesn't show; what the oldest lacks, another shows
-- last.
use Rattle.std.specs.Prelude.{ℕ, ℤ, List, [], ◌∷◌, map, filter}
use Rattle.std.specs.declared.cmp.Ordering.{Ordering}
use Rattle.std.specs.Ordering.{int_eq, nat_cmp}
use Rattle.std.specs.Cmp.Lexicographic.{slice_cmp}
use Rattle.sqlite_keyed.specs.Lists.{sort_by}
use Rattle.sqlite_value.specs.declared.value.Value.TheVariants.{Int, Text, Blob}
use Rattle.sqlite_value.specs.Order.{Row}
use Rattle.lab_store_tables.specs.Rows.{LabRow, PersonRow, SessionRow, FormRow, FieldRow, ChoiceRow, RecordRow, VersionRow, EntryRow, SignatureRow, TrailRow, Tables, number, flag, optional}
use Rattle.lab_store_tables.specs.Meaning.{code_of, has_code}
use Rattle.lab_move_tables.specs.declared.older.Older.{Older}
use Rattle.lab_move_tables.specs.declared.older.Older.TheVariants.{Two}
use Rattle.lab_move_tables.specs.Owned.{own_persons, own_sessions, own_forms, own_fields, own_choices, own_records, own_versions, own_entries, own_signatures, own_trail, lab_of}

-- ---- laboratories

abbrev pub lab_shown : LabRow → Row
lab_shown one =
    Int one.id ∷ Text one.code ∷ Text one.name ∷ number one.last ∷ number one.stray
    ∷ number one.records ∷ number one.sessions ∷ number one.trail ∷ []

abbrev pub labs_shown : Tables → List ℕ → List Row
labs_shown t code = map lab_shown (filter (has_code code) t.labs)

-- all of them, in the order of the bytes of their codes
abbrev pub by_lab : LabRow → LabRow → Ordering
by_lab one other = slice_cmp nat_cmp one.code other.code

abbrev pub code_shown : LabRow → Row
code_shown one = Text one.code ∷ []

abbrev pub codes_shown : Tables → List Row
codes_shown t = map code_shown (sort_by by_lab t.labs)

-- ---- persons and sessions

abbrev person_last : Older → PersonRow → Row
person_last Two one = []

abbrev pub person_shown : Older → PersonRow → Row
person_shown older one =
    Text one.code ∷ Text one.name ∷ number one.roles ∷ flag one.retired ∷ number one.failures
    ∷ optional number one.locked ∷ number one.password.kind ∷ optional Blob one.password.salt
    ∷ optional number one.password.rounds ∷ optional Blob one.password.bytes
    ∷ optional Blob one.password.salt2 ∷ optional Blob one.password.bytes2
    ∷ optional number one.password.changed ∷ optional Int one.ask.asker
    ∷ optional number one.ask.asked ∷ optional Blob one.ask.salt ∷ optional Blob one.ask.bytes
    ∷ person_last older one

abbrev pub persons_shown : Older → Tables → ℤ → List Row
persons_shown older t lab = map (person_shown older) (own_persons t lab)

-- whose code and laboratory an arrow leads to
abbrev pub owner_shown : PersonRow → Row
owner_shown one = Text one.code ∷ Int one.lab ∷ []

abbrev pub owners_shown : Tables → ℤ → List Row
owners_shown t id = map owner_shown (filter (λ (one : PersonRow). int_eq one.id id) t.persons)

abbrev pub session_shown : Tables → SessionRow → Row
session_shown t one =
    number one.number ∷ Text (code_of t one.person) ∷ Blob one.token ∷ number one.opened
    ∷ number one.last ∷ flag one.closed ∷ flag one.signed ∷ Int (lab_of t one.person) ∷ []

abbrev pub sessions_shown : Tables → ℤ → List Row
sessions_shown t lab = map (session_shown t) (own_sessions t lab)

-- ---- forms

abbrev form_last : Older → FormRow → Row
form_last Two one = []

abbrev pub form_shown : Older → FormRow → Row
form_shown older one = Int one.id ∷ Text one.code ∷ number one.version ∷ form_last older one

abbrev pub forms_shown : Older → Tables → ℤ → List Row
forms_shown older t lab = map (form_shown older) (own_forms t lab)

abbrev pub field_shown : FieldRow → Row
field_shown one =
    Int one.id ∷ Text one.key ∷ Text one.label ∷ flag one.required ∷ Text one.kind.word
    ∷ optional Text one.kind.unit ∷ optional number one.kind.decimals
    ∷ optional Text one.kind.low ∷ optional Text one.kind.high ∷ optional number one.kind.size
    ∷ number one.place ∷ []

abbrev pub fields_shown : Tables → ℤ → List Row
fields_shown t form = map field_shown (own_fields t form)

abbrev pub choice_shown : ChoiceRow → Row
choice_shown one = Text one.name ∷ number one.place ∷ []

abbrev pub choices_shown : Tables → ℤ → List Row
choices_shown t field = map choice_shown (own_choices t field)

-- ---- records

abbrev pub record_shown : RecordRow → Row
record_shown one =
    Int one.id ∷ number one.number ∷ Int one.form ∷ Text one.form_code ∷ Text one.sample
    ∷ number one.current ∷ []

abbrev pub records_shown : Tables → ℤ → List Row
records_shown t lab = map record_shown (own_records t lab)

abbrev pub version_last : Older → VersionRow → Row
version_last Two one = []

abbrev pub version_shown : Older → Tables → VersionRow → Row
version_shown older t one =
    Int one.id ∷ number one.number ∷ Text (code_of t one.opener) ∷ number one.opened
    ∷ optional Text one.reason ∷ Int (lab_of t one.opener) ∷ version_last older one

abbrev pub versions_shown : Older → Tables → ℤ → List Row
versions_shown older t kept = map (version_shown older t) (own_versions t kept)

abbrev pub entry_shown : Tables → EntryRow → Row
entry_shown t one =
    Text one.key ∷ Text one.value ∷ Text one.unit ∷ Text (code_of t one.person) ∷ number one.moment
    ∷ optional Text one.reason ∷ number one.place ∷ Int (lab_of t one.person) ∷ []

abbrev pub entries_shown : Tables → ℤ → List Row
entries_shown t version = map (entry_shown t) (own_entries t version)

-- the entries by their places alone
abbrev pub entry_place_shown : EntryRow → Row
entry_place_shown one = number one.place ∷ []

abbrev pub entry_places_shown : Tables → ℤ → List Row
entry_places_shown t version = map entry_place_shown (own_entries t version)

abbrev pub signature_shown : Tables → SignatureRow → Row
signature_shown t one =
    Text (code_of t one.person) ∷ Text one.name ∷ Text one.meaning ∷ optional Text one.reason
    ∷ number one.moment ∷ Blob one.digest ∷ Blob one.seal ∷ number one.place
    ∷ Int (lab_of t one.person) ∷ []

abbrev pub signatures_shown : Tables → ℤ → List Row
signatures_shown t version = map (signature_shown t) (own_signatures t version)

-- the signatures by their places alone
abbrev pub signature_place_shown : SignatureRow → Row
signature_place_shown one = number one.place ∷ []

abbrev pub signature_places_shown : Tables → ℤ → List Row
signature_places_shown t version = map signature_place_shown (own_signatures t version)

-- ---- the trail

abbrev pub told_shown : TrailRow → Row
told_shown one =
    number one.number ∷ number one.moment ∷ optional Int one.person ∷ Text one.action
    ∷ Text one.subject ∷ []

abbrev pub trail_shown : Tables → ℤ → List Row
trail_shown t lab = map told_shown (own_trail t lab)
