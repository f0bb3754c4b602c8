-- When the rows of one laboratory are well kept: all arrows of a row lead to the laboratory,
-- numbers and places run from 1 without gaps, every record has a first version, the counters of the
-- laboratory's row, `current` and `form_code` say what the rows say (21 CFR 11.10(a), "the ability
-- to discern invalid or altered records"; ISO/IEC 17025:2017, 7.11.3(d), "maintained in a manner
-- that ensures the integrity of the data and information"). That keys are unique and that each
-- arrow leads to a row the file itself sees to. These are tests, so that a file can be tried.
use Rattle.std.specs.Prelude.{ℕ, ℤ, Bool, true, ◌&&◌, ◌==◌, ◌+◌, nat_le, List, [], ◌∷◌, length, Option, Some, None, option_map, unwrap_or, bytes_eq, if◌then◌else◌}
use Rattle.std.specs.List.{list_all}
use Rattle.std.specs.Option.{option_map_or}
use Rattle.std.specs.Ordering.{int_eq}
use Rattle.lab_store_tables.specs.Rows.{LabRow, PersonRow, SessionRow, FormRow, FieldRow, ChoiceRow, RecordRow, VersionRow, EntryRow, SignatureRow, TrailRow, Tables}
use Rattle.lab_store_tables.specs.WellKept.{lab_of_form, is_same, names_its_form}
use Rattle.lab_move_tables.specs.Owned.{own_persons, own_sessions, own_forms, own_fields, own_choices, own_records, own_versions, own_entries, own_signatures, own_trail, lab_of}

-- the rows bear the numbers from the one after `before` on, in order
abbrev pub run_after : {X : Type 0} → (X → ℕ) → ℕ → List X → Bool
run_after number before [] = true
run_after number before (one ∷ others) =
    (number one == before + 1) && run_after number (before + 1) others

-- the rows bear the numbers from 1 on, in order
abbrev pub run : {X : Type 0} → (X → ℕ) → List X → Bool
run number rows = run_after number 0 rows

-- what follows a row of a code: the next number of the code, or the first one of another
abbrev pub next_of : {X : Type 0} → (X → List ℕ) → (X → ℕ) → List ℕ → Option X → ℕ
next_of code number wanted before =
    unwrap_or (option_map (λ one. if bytes_eq (code one) wanted then number one + 1 else 1) before)
    1

-- those of each code bear the numbers from 1 on, in the order of codes and numbers
abbrev pub run_by_code : {X : Type 0} → (X → List ℕ) → (X → ℕ) → Option X → List X → Bool
run_by_code code number before [] = true
run_by_code code number before (one ∷ others) =
    (number one == next_of code number (code one) before)
    && run_by_code code number (Some one) others

-- a person of the laboratory, as the arrow to the person's row says
abbrev pub is_theirs : Tables → ℤ → ℤ → Bool
is_theirs t lab person = int_eq (lab_of t person) lab

-- such a person, or nobody
abbrev pub is_nobody_or_theirs : Tables → ℤ → Option ℤ → Bool
is_nobody_or_theirs t lab person = option_map_or (is_theirs t lab) person true

-- ---- forms

abbrev pub are_kept_names : Tables → ℤ → Bool
are_kept_names t field = run (λ (choice : ChoiceRow). choice.place) (own_choices t field)

abbrev pub is_kept_field : Tables → FieldRow → Bool
is_kept_field t one = are_kept_names t one.id

abbrev pub are_kept_fields : Tables → ℤ → Bool
are_kept_fields t form =
    run (λ (field : FieldRow). field.place) (own_fields t form)
    && list_all (is_kept_field t) (own_fields t form)

abbrev pub is_kept_form : Tables → FormRow → Bool
is_kept_form t one = are_kept_fields t one.id

abbrev pub are_kept_forms : Tables → ℤ → Bool
are_kept_forms t lab =
    run_by_code (λ (form : FormRow). form.code) (λ (form : FormRow). form.version) None
    (own_forms t lab)
    && list_all (is_kept_form t) (own_forms t lab)

-- ---- records

abbrev pub are_kept_entries : Tables → ℤ → ℤ → Bool
are_kept_entries t lab version =
    run (λ (entry : EntryRow). entry.place) (own_entries t version)
    && list_all (λ (entry : EntryRow). is_theirs t lab entry.person) (own_entries t version)

abbrev pub are_kept_signatures : Tables → ℤ → ℤ → Bool
are_kept_signatures t lab version =
    run (λ (signature : SignatureRow). signature.place) (own_signatures t version)
    && list_all (λ (signature : SignatureRow). is_theirs t lab signature.person)
    (own_signatures t version)

abbrev pub is_kept_version : Tables → ℤ → VersionRow → Bool
is_kept_version t lab one =
    is_theirs t lab one.opener && are_kept_entries t lab one.id
    && are_kept_signatures t lab one.id

abbrev pub are_so_many : Tables → ℤ → ℕ → Bool
are_so_many t kept count =
    (length (own_versions t kept) == count)
    && run (λ (version : VersionRow). version.number) (own_versions t kept)

abbrev pub are_kept_versions : Tables → ℤ → ℤ → ℕ → Bool
are_kept_versions t lab kept count =
    are_so_many t kept count && list_all (is_kept_version t lab) (own_versions t kept)

-- `form_code` is the form's code, and there is a first version
abbrev pub is_kept_record : Tables → ℤ → RecordRow → Bool
is_kept_record t lab one =
    (is_same (lab_of_form t one.form) (Some lab) && names_its_form t one)
    && nat_le 1 one.current && are_kept_versions t lab one.id one.current

abbrev pub are_so_many_records : Tables → ℤ → ℕ → Bool
are_so_many_records t lab count =
    (length (own_records t lab) == count)
    && run (λ (kept : RecordRow). kept.number) (own_records t lab)

abbrev pub are_kept_records : Tables → ℤ → ℕ → Bool
are_kept_records t lab count =
    are_so_many_records t lab count && list_all (is_kept_record t lab) (own_records t lab)

-- ---- persons, sessions, the trail

abbrev pub are_kept_persons : Tables → ℤ → Bool
are_kept_persons t lab =
    list_all (λ (one : PersonRow). is_nobody_or_theirs t lab one.ask.asker) (own_persons t lab)

abbrev pub are_kept_sessions : Tables → ℤ → ℕ → Bool
are_kept_sessions t lab count =
    (length (own_sessions t lab) == count)
    && run (λ (session : SessionRow). session.number) (own_sessions t lab)
    && list_all (λ (session : SessionRow). is_theirs t lab session.person) (own_sessions t lab)

abbrev pub is_kept_trail : Tables → ℤ → ℕ → Bool
is_kept_trail t lab count =
    (length (own_trail t lab) == count)
    && run (λ (told : TrailRow). told.number) (own_trail t lab)
    && list_all (λ (told : TrailRow). is_nobody_or_theirs t lab told.person) (own_trail t lab)

-- ---- a laboratory

abbrev pub is_kept_lab : Tables → LabRow → Bool
is_kept_lab t lab =
    are_kept_persons t lab.id && are_kept_sessions t lab.id lab.sessions
    && are_kept_forms t lab.id && are_kept_records t lab.id lab.records
    && is_kept_trail t lab.id lab.trail
