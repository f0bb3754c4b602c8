-- What stands behind what a rule gives: what was looked up, and that no refusal held.
use Rattle.std.proofs.Common.{◌≡◌, ◌≤◌, ◌<◌, ◌+◌, ℕ, Bool, true, false, not, cond, ◌&&◌, ◌||◌, List, [], ◌∷◌, length, Option, Some, None, Result, Ok, Err, refl, ap, arith, nat_lt, nat_le}
use Rattle.std.specs.Prelude.{is_none}
use Rattle.std.specs.Option.{option_map_or}
use Rattle.std.proofs.lemmas.Bool.{leb-false}
use Rattle.lab_forms.specs.Forms.{FormSheet, form_eq}
use Rattle.lab_people_access.specs.declared.persons.Person.{Person}
use Rattle.lab_people_access.specs.declared.refusals.PeopleRefusal.TheVariants.{LabFull}
use Rattle.lab_seal_versions.specs.declared.rows.EntryRow.{EntryRow}
use Rattle.lab_records_kept.specs.declared.records.FormVersion.{FormVersion}
use Rattle.lab_records_kept.specs.declared.records.Record.{Record}
use Rattle.lab_records_kept.specs.declared.records.Version.{Version}
use Rattle.lab_records_kept.specs.Limits.{form_version_limit, record_limit, row_limit, version_limit}
use Rattle.lab_records_kept.specs.Lookups.{last_of, version_of, next_form_version}
use Rattle.lab_records_kept.specs.Values.{version_state}
use Rattle.lab_records_rules.specs.declared.items.Item.{Item}
use Rattle.lab_records_rules.specs.declared.outcomes.EntryMade.{EntryMade}
use Rattle.lab_records_rules.specs.declared.outcomes.AmendmentMade.{AmendmentMade}
use Rattle.lab_records_rules.specs.declared.outcomes.SignatureMade.{SignatureMade}
use Rattle.lab_records_rules.specs.declared.outcomes.Signing.{Signing}
use Rattle.lab_records_rules.specs.declared.refusals.Refusal.TheVariants.{People, NothingAltered}
use Rattle.lab_records_rules.specs.Making.{making, form_version, opening_record, new_record}
use Rattle.lab_records_versions.specs.Entering.{is_open, has_settled, entered_row, item_refusal, has_value, entry_made, entering, entering_of, first_altered_refusal, next_version, amendment_made, amending, amending_of, amending_by, amending_last}
use Rattle.lab_records_versions.specs.Signing.{version_refusal, new_signature, signature_made, signing_record, signing_version}

-- ---- a test that would refuse didn't hold

pub not_refused : {A E : Type 0} (test : Bool) (refusal : E) (rest : Result A E) (value : A)
    → cond test (Err refusal) rest ≡ Ok value → (test ≡ false) × (rest ≡ Ok value)
not_refused true refusal rest value is = absurd (cc)
not_refused false refusal rest value is = (refl, is)

pub none_refused : {A E : Type 0} (refused : Option E) (rest : Result A E) (value : A)
    → option_map_or Err refused rest ≡ Ok value → (refused ≡ None) × (rest ≡ Ok value)
none_refused None rest value is = (refl, is)
none_refused (Some refusal) rest value is = absurd (cc)

pub not_false : (test : Bool) → not test ≡ false → test ≡ true
not_false true is = refl
not_false false is = absurd (cc)

pub neither : (one other : Bool) → (one || other) ≡ false → (one ≡ false) × (other ≡ false)
neither true other is = absurd (cc)
neither false other is = (refl, is)

abbrev gives : (A E : Type 0) → A → Result A E
gives A E value = Ok value

pub given : {A E : Type 0} (one other : A) → gives A E one ≡ gives A E other → other ≡ one
given one other is = cc

-- ---- forms

-- a version of a form is the next one, and the last that there may be at the most
pub record IsFormMade (code : List ℕ) (form : FormSheet) (last : Option FormVersion)
    (made : FormVersion) : Type 0 where
  pub code_is : made.code ≡ code
  pub form_is : made.form ≡ form
  pub next : made.version ≡ next_form_version last
  pub few : made.version ≤ form_version_limit

pub form_made_by : (code : List ℕ) (form : FormSheet) (last : Option FormVersion)
    (made : FormVersion) → making code form last ≡ Ok made → IsFormMade code form last made
form_made_by code form None made is =
    let same : made ≡ form_version code 1 form = given _ _ is in
    let version : made.version ≡ 1 = ap (λ f. f.version) same in
    record {
      code_is = ap (λ f. f.code) same;
      form_is = ap (λ f. f.form) same;
      next = version;
      few = omega arith;
    }
form_made_by code form (Some last) made is =
    let later = not_refused (form_eq last.form form) NothingAltered
    (cond (nat_le form_version_limit last.version) (Err (People LabFull))
    (Ok (form_version code (last.version + 1) form))) made is in
    let final = not_refused (nat_le form_version_limit last.version) (People LabFull)
    (Ok (form_version code (last.version + 1) form)) made later.1 in
    let same : made ≡ form_version code (last.version + 1) form = given _ _ final.1 in
    let version : made.version ≡ last.version + 1 = ap (λ f. f.version) same in
    let room : last.version < form_version_limit =
    leb-false form_version_limit last.version final.0 in
    record {
      code_is = ap (λ f. f.code) same;
      form_is = ap (λ f. f.form) same;
      next = version;
      few = omega arith;
    }

-- ---- records

-- a record is opened by a form that was found, where none was there for it and its sample
pub record IsRecordOpened (last : Option FormVersion) (about : Option Record)
    (sample caller : List ℕ) (moment records : ℕ) (made : Record) : Type 0 where
  pub form : FormVersion
  pub is_found : last ≡ Some form
  pub alone : about ≡ None
  pub few : records < record_limit
  pub is : made ≡ new_record form sample caller moment records

pub record_opened_by : (last : Option FormVersion) (about : Option Record)
    (sample caller : List ℕ) (moment records : ℕ) (made : Record)
    → opening_record last about sample caller moment records ≡ Ok made
    → IsRecordOpened last about sample caller moment records made
record_opened_by None about sample caller moment records made is = absurd (cc)
record_opened_by (Some form) (Some kept) sample caller moment records made is = absurd (cc)
record_opened_by (Some form) None sample caller moment records made is =
    let final = not_refused (nat_le record_limit records) (People LabFull)
    (Ok (new_record form sample caller moment records)) made is in
    record {
      form = form;
      is_found = refl;
      alone = refl;
      few = leb-false record_limit records final.0;
      is = given _ _ final.1;
    }

-- ---- entries

-- a row is entered in the last version of a record that was found, while it is open
pub record IsEntryMade (lab : List ℕ) (found : Option Record) (row : EntryRow) (made : EntryMade)
    : Type 0 where
  pub kept : Record
  pub version : Version
  pub is_found : found ≡ Some kept
  pub last : last_of kept.versions ≡ Some version
  pub open_now : is_open (version_state kept version) ≡ true
  pub few : length version.rows < row_limit
  pub is : made ≡ entry_made lab kept version row

entry_made_in : (lab : List ℕ) (kept : Record) (last : Option Version) (item : Item)
    (reason : Option (List ℕ)) (caller : List ℕ) (moment : ℕ) (made : EntryMade)
    → last_of kept.versions ≡ last → entering_of lab kept last item reason caller moment ≡ Ok made
    → IsEntryMade lab (Some kept) (entered_row item reason caller moment) made
entry_made_in lab kept None item reason caller moment made last is = absurd (cc)
entry_made_in lab kept (Some version) item reason caller moment made last is =
    let first = not_refused (not (is_open (version_state kept version))) _ _ made is in
    let second = none_refused (item_refusal kept item) _ made first.1 in
    let third = not_refused (has_value kept item.key && is_none reason) _ _ made second.1 in
    let final = not_refused (nat_le row_limit (length version.rows)) _ _ made third.1 in
    record {
      kept = kept;
      version = version;
      is_found = refl;
      last = last;
      open_now = not_false (is_open (version_state kept version)) first.0;
      few = leb-false row_limit (length version.rows) final.0;
      is = given _ _ final.1;
    }

pub entry_made_by : (lab : List ℕ) (found : Option Record) (item : Item)
    (reason : Option (List ℕ)) (caller : List ℕ) (moment : ℕ) (made : EntryMade)
    → entering lab found item reason caller moment ≡ Ok made
    → IsEntryMade lab found (entered_row item reason caller moment) made
entry_made_by lab None item reason caller moment made is = absurd (cc)
entry_made_by lab (Some kept) item reason caller moment made is =
    entry_made_in lab kept (last_of kept.versions) item reason caller moment made refl is

-- ---- amendments

-- a version is opened after the last one of a record that was found, which is settled
pub record IsAmendmentMade (lab : List ℕ) (found : Option Record) (altered : List Item)
    (caller : List ℕ) (moment : ℕ) (made : AmendmentMade) : Type 0 where
  pub kept : Record
  pub last : Version
  pub reason : List ℕ
  pub is_found : found ≡ Some kept
  pub is_last : last_of kept.versions ≡ Some last
  pub settled : has_settled (version_state kept last) ≡ true
  pub few : last.origin.number < version_limit
  pub few_rows : length altered ≤ row_limit
  pub is : made ≡ amendment_made lab kept (next_version lab kept last reason altered caller moment)

amendment_made_of : (lab : List ℕ) (kept : Record) (last : Version) (reason : List ℕ)
    (altered : List Item) (caller : List ℕ) (moment : ℕ) (made : AmendmentMade)
    → last_of kept.versions ≡ Some last → has_settled (version_state kept last) ≡ true
    → amending_last lab kept last reason altered caller moment ≡ Ok made
    → IsAmendmentMade lab (Some kept) altered caller moment made
amendment_made_of lab kept last reason altered caller moment made is_last settled is =
    let final = not_refused (nat_le version_limit last.origin.number
    || nat_lt row_limit (length altered)) _ _ made is in
    let both = neither (nat_le version_limit last.origin.number)
    (nat_lt row_limit (length altered)) final.0 in
    let rows : length altered < row_limit + 1 = leb-false (row_limit + 1) (length altered) both.1 in
    record {
      kept = kept;
      last = last;
      reason = reason;
      is_found = refl;
      is_last = is_last;
      settled = settled;
      few = leb-false version_limit last.origin.number both.0;
      few_rows = omega arith;
      is = given _ _ final.1;
    }

amendment_made_for : (lab : List ℕ) (kept : Record) (last : Version) (reason : Option (List ℕ))
    (altered : List Item) (caller : List ℕ) (moment : ℕ) (made : AmendmentMade)
    → last_of kept.versions ≡ Some last → has_settled (version_state kept last) ≡ true
    → amending_by lab kept last reason altered caller moment ≡ Ok made
    → IsAmendmentMade lab (Some kept) altered caller moment made
amendment_made_for lab kept last None altered caller moment made is_last settled is = absurd (cc)
amendment_made_for lab kept last (Some reason) [] caller moment made is_last settled is =
    absurd (cc)
amendment_made_for lab kept last (Some reason) (one ∷ others) caller moment made is_last settled
    is =
    let next = none_refused (first_altered_refusal kept (one ∷ others)) _ made is in
    amendment_made_of lab kept last reason (one ∷ others) caller moment made is_last settled next.1

amendment_made_in : (lab : List ℕ) (kept : Record) (last : Option Version)
    (reason : Option (List ℕ)) (altered : List Item) (caller : List ℕ) (moment : ℕ)
    (made : AmendmentMade) → last_of kept.versions ≡ last
    → amending_of lab kept last reason altered caller moment ≡ Ok made
    → IsAmendmentMade lab (Some kept) altered caller moment made
amendment_made_in lab kept None reason altered caller moment made is_last is = absurd (cc)
amendment_made_in lab kept (Some last) reason altered caller moment made is_last is =
    let next = not_refused (not (has_settled (version_state kept last))) _ _ made is in
    amendment_made_for lab kept last reason altered caller moment made is_last
    (not_false (has_settled (version_state kept last)) next.0) next.1

pub amendment_made_by : (lab : List ℕ) (found : Option Record) (reason : Option (List ℕ))
    (altered : List Item) (caller : List ℕ) (moment : ℕ) (made : AmendmentMade)
    → amending lab found reason altered caller moment ≡ Ok made
    → IsAmendmentMade lab found altered caller moment made
amendment_made_by lab None reason altered caller moment made is = absurd (cc)
amendment_made_by lab (Some kept) reason altered caller moment made is =
    amendment_made_in lab kept (last_of kept.versions) reason altered caller moment made refl is

-- ---- signatures

-- a version of the number, of a record that was found, is signed, and nothing refuses it
pub record IsSignatureMade (lab : List ℕ) (found : Option Record) (number : ℕ) (digest : List ℕ)
    (signing : Signing) (person : Person) (moment : ℕ) (made : SignatureMade) : Type 0 where
  pub kept : Record
  pub version : Version
  pub is_found : found ≡ Some kept
  pub numbered : version_of kept.versions number ≡ Some version
  pub unrefused : version_refusal lab kept version digest signing person.code ≡ None
  pub is : made ≡ signature_made kept version (new_signature lab person signing moment digest)

signature_made_in : (lab : List ℕ) (kept : Record) (number : ℕ) (found : Option Version)
    (digest : List ℕ) (signing : Signing) (person : Person) (moment : ℕ) (made : SignatureMade)
    → version_of kept.versions number ≡ found
    → signing_version lab kept found digest signing person moment ≡ Ok made
    → IsSignatureMade lab (Some kept) number digest signing person moment made
signature_made_in lab kept number None digest signing person moment made found is = absurd (cc)
signature_made_in lab kept number (Some version) digest signing person moment made found is =
    let final = none_refused (version_refusal lab kept version digest signing person.code) _ made
    is in
    record {
      kept = kept;
      version = version;
      is_found = refl;
      numbered = found;
      unrefused = final.0;
      is = given _ _ final.1;
    }

pub signature_made_by : (lab : List ℕ) (found : Option Record) (number : ℕ) (digest : List ℕ)
    (signing : Signing) (person : Person) (moment : ℕ) (made : SignatureMade)
    → signing_record lab found number digest signing person moment ≡ Ok made
    → IsSignatureMade lab found number digest signing person moment made
signature_made_by lab None number digest signing person moment made is = absurd (cc)
signature_made_by lab (Some kept) number digest signing person moment made is =
    signature_made_in lab kept number (version_of kept.versions number) digest signing person
    moment made refl is
