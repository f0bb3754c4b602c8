-- Tables that have more rows, or rows set: whatever an arrow led to it still leads to, so rows stay well kept beside them.
use Rattle.std.proofs.Common.{◌≡◌, ℤ, Bool, true, false, List, Option, Some, None, option_map, option_and_then, codes, refl, ap, ap₂, ◌∙◌, bytes_eq}
use Rattle.std.specs.Option.{option_map_or}
use Rattle.sqlite_keyed.specs.Keyed.{get_by}
use Rattle.sqlite_keyed.proofs.ListLemmas.{all_weaker}
use Rattle.lab_store_tables.specs.Rows.{PersonRow, FormRow, FieldRow, RecordRow, VersionRow, Tables, person_id, form_id, field_id, record_id, version_id}
use Rattle.lab_store_tables.specs.WellKept.{lab_of_person, lab_of_form, lab_of_record, lab_of_version, is_same, is_of_lab}
use Rattle.lab_store_tables.specs.Family.{Name, Persons, Sessions, Forms, Fields, Choices, Records, Versions, Entries, Signatures, Trail, RowOf, rows}
use Rattle.lab_store_tables.proofs.FamilyWords.{with_rows}
use Rattle.lab_store_tables.proofs.Tables.{each}
use Rattle.lab_store_tables.proofs.Kept.{IsRowKept, AreKept, AreRowsKept}

-- what stands under an id still does, or is still of its laboratory
abbrev IsThere : {X : Type 0} → (X → ℤ) → List X → List X → Type 0
IsThere {X} id old new = (at : ℤ) (one : X) → get_by id old at ≡ Some one → get_by id new at ≡ Some one

abbrev IsOf : {X : Type 0} → (X → ℤ) → (X → ℤ) → List X → List X → Type 0
IsOf id lab old new = (at its : ℤ) → option_map lab (get_by id old at) ≡ Some its → option_map lab (get_by id new at) ≡ Some its

-- a person and a record belong to their laboratories, and each form, field and version is there as it was; nothing leads to the rows of other tables
abbrev pub Leads : (k : Name) → List (RowOf k) → List (RowOf k) → Type 0
Leads Persons old new = IsOf person_id (λ (one : PersonRow). one.lab) old new
Leads Forms old new = IsThere form_id old new
Leads Fields old new = IsThere field_id old new
Leads Records old new = IsOf record_id (λ (one : RecordRow). one.lab) old new
Leads Versions old new = IsThere version_id old new
Leads _ old new = Unit {0}

leads_same : (k : Name) (rows : List (RowOf k)) → Leads k rows rows
leads_same Persons rows = λ at its h. h
leads_same Forms rows = λ at one h. h
leads_same Fields rows = λ at one h. h
leads_same Records rows = λ at its h. h
leads_same Versions rows = λ at one h. h
leads_same _ rows = tt

-- ---- what is read of a row that is found

module _ {X : Type 0} (id : X → ℤ) (old new : List X) (still : (at : ℤ) (one : X) → get_by id old at ≡ Some one → get_by id new at ≡ Some one) where
  pub shown_still : {A : Type 0} (f : X → A) (at : ℤ) (a : A) → option_map f (get_by id old at) ≡ Some a → option_map f (get_by id new at) ≡ Some a
  shown_still f at a shown = go (get_by id old at) refl shown
    where
      go : (o : Option X) → get_by id old at ≡ o → option_map f o ≡ Some a → option_map f (get_by id new at) ≡ Some a
      go None e h = absurd cc
      go (Some one) e h = ap (option_map f) (still at one e) ∙ h

  pub passed_still : (p : X → Bool) (at : ℤ) → option_map_or p (get_by id old at) false ≡ true → option_map_or p (get_by id new at) false ≡ true
  passed_still p at passed = go (get_by id old at) refl passed
    where
      go : (o : Option X) → get_by id old at ≡ o → option_map_or p o false ≡ true → option_map_or p (get_by id new at) false ≡ true
      go None e h = absurd cc
      go (Some one) e h = ap (λ o. option_map_or p o false) (still at one e) ∙ h

same_still : (one other after another : Option ℤ) → ((lab : ℤ) → one ≡ Some lab → after ≡ Some lab) → ((lab : ℤ) → other ≡ Some lab → another ≡ Some lab)
    → is_same one other ≡ true → is_same after another ≡ true
same_still None other after another f g h = absurd cc
same_still (Some lab) None after another f g h = absurd cc
same_still (Some lab) (Some own) after another f g h = ap₂ is_same (f lab refl) (g own refl) ∙ h

-- ---- a row of each table, and all of its rows

module _ (old new : Tables) (leads : (k : Name) → Leads k (rows k old) (rows k new)) where
  form_lab : (id lab : ℤ) → lab_of_form old id ≡ Some lab → lab_of_form new id ≡ Some lab
  form_lab id lab h = shown_still form_id old.forms new.forms (leads Forms) (λ (one : FormRow). one.lab) id lab h

  pub version_lab : (id lab : ℤ) → lab_of_version old id ≡ Some lab → lab_of_version new id ≡ Some lab
  version_lab id lab its = go (get_by version_id old.versions id) refl its
    where
      go : (o : Option VersionRow) → get_by version_id old.versions id ≡ o → option_and_then (λ (one : VersionRow). lab_of_record old one.kept) o ≡ Some lab
          → lab_of_version new id ≡ Some lab
      go None e h = absurd cc
      go (Some one) e h = ap (option_and_then (λ (x : VersionRow). lab_of_record new x.kept)) (leads Versions id one e) ∙ leads Records one.kept lab h

  of_lab : (lab : ℤ) (person : Option ℤ) → is_of_lab old lab person ≡ true → is_of_lab new lab person ≡ true
  of_lab lab None h = refl
  of_lab lab (Some person) h = same_still (lab_of_person old person) (Some lab) (lab_of_person new person) (Some lab) (leads Persons person) (λ own e. e) h

  still : (k : Name) (one : RowOf k) → IsRowKept k old one → IsRowKept k new one
  still Persons one h = (of_lab one.lab one.ask.asker h.0, h.1, h.2)
  still Sessions one h = same_still (lab_of_person old one.person) (Some one.lab) (lab_of_person new one.person) (Some one.lab) (leads Persons one.person) (λ own e. e) h
  still Choices one h = passed_still field_id old.fields new.fields (leads Fields) (λ (field : FieldRow). bytes_eq field.kind.word (codes "choice")) one.field h
  still Records one h = (
    same_still (lab_of_form old one.form) (Some one.lab) (lab_of_form new one.form) (Some one.lab) (form_lab one.form) (λ own e. e) h.0,
    passed_still form_id old.forms new.forms (leads Forms) (λ (form : FormRow). bytes_eq form.code one.form_code) one.form h.1,
  )
  still Versions one h = (
    same_still (lab_of_person old one.opener) (lab_of_record old one.kept) (lab_of_person new one.opener) (lab_of_record new one.kept)
        (leads Persons one.opener) (leads Records one.kept) h.0,
    h.1,
    h.2,
  )
  still Entries one h =
      same_still (lab_of_person old one.person) (lab_of_version old one.version) (lab_of_person new one.person) (lab_of_version new one.version)
      (leads Persons one.person) (version_lab one.version) h
  still Signatures one h = (
    same_still (lab_of_person old one.person) (lab_of_version old one.version) (lab_of_person new one.person) (lab_of_version new one.version)
        (leads Persons one.person) (version_lab one.version) h.0,
    h.1,
  )
  still Trail one h = (of_lab one.lab one.person h.0, h.1)
  still _ one h = h

  all_still : (k : Name) (rows : List (RowOf k)) → AreKept k old rows → AreKept k new rows
  all_still k rows kept = (all_weaker (IsRowKept k old) (IsRowKept k new) (still k) rows kept.0, kept.1)

-- one table has other rows, to which arrows still lead
pub kept_with : (k : Name) (new : List (RowOf k)) (t : Tables) → Leads k (rows k t) new → AreKept k t new → AreRowsKept t → AreRowsKept (with_rows k new t)
kept_with k new t leads own kept =
    let all = each k new t (λ j xs. Leads j (rows j t) xs) leads (λ j _. leads_same j (rows j t)) in
    let still = all_still t (with_rows k new t) all in
    record { at = each k new t (λ j xs. AreKept j (with_rows k new t) xs) (still k new own) (λ j _. still j (rows j t) (kept.at j)) }
