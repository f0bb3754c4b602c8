-- Changes that forms, records, entries and amendments make fit the laboratory.
use Rattle.std.proofs.Common.{◌≡◌, ℕ, List, length, Option, Some, None, Ok, refl, sym, ◌∙◌, ap, subst}
use Rattle.std.specs.Prelude.{is_some, IsTrue, MatchOption, option_and_then}
use Rattle.std.proofs.lemmas.List.Elements.{All-map}
use Rattle.lab_forms.specs.Forms.{FormSheet, is_form}
use Rattle.lab_records_kept.specs.declared.labs.Lab.{Lab}
use Rattle.lab_records_kept.specs.declared.records.FormVersion.{FormVersion}
use Rattle.lab_records_kept.specs.declared.records.Record.{Record}
use Rattle.lab_records_kept.specs.declared.records.Version.{Version}
use Rattle.lab_records_kept.specs.declared.changes.Change.TheVariants.{FormAdded, RecordAdded, RowAdded, VersionOpened}
use Rattle.lab_records_kept.specs.Changes.{Fits, IsKnown, IsNewRecord, IsNewVersion}
use Rattle.lab_records_kept.specs.Lookups.{last_form, next_form_version, record_of, record_about, last_of}
use Rattle.lab_records_kept.specs.Lookups.{last_version}
use Rattle.lab_records_rules.specs.declared.items.Item.{Item}
use Rattle.lab_records_rules.specs.declared.outcomes.EntryMade.{EntryMade}
use Rattle.lab_records_rules.specs.declared.outcomes.AmendmentMade.{AmendmentMade}
use Rattle.lab_records_rules.specs.Making.{making, opening_record, new_record, first_version}
use Rattle.lab_records_versions.specs.Entering.{entering, amending, entered_row, next_version}
use Rattle.lab_records_laws.proofs.LimitLast.{last_code}
use Rattle.lab_records_laws.proofs.LimitRules.{IsFormMade, form_made_by, IsRecordOpened, record_opened_by, IsEntryMade, entry_made_by, IsAmendmentMade, amendment_made_by}
use Rattle.lab_records_laws.proofs.LimitCases.{own_number}

-- a version of a form that is made
pub form_fits : (lab : Lab) (code : List ℕ) (form : FormSheet) (made : FormVersion)
    → making code form (last_form lab.forms code) ≡ Ok made → IsTrue (is_form form.fields)
    → Fits lab (FormAdded made)
form_fits lab code form made is formed =
    let by : IsFormMade code form (last_form lab.forms code) made =
    form_made_by code form (last_form lab.forms code) made is in (
      subst (λ c. made.version ≡ next_form_version (last_form lab.forms c)) (sym by.code_is)
          by.next,
      subst (λ f. IsTrue (is_form f.fields)) (sym by.form_is) formed,
    )

-- a record that is opened by somebody of the laboratory
pub record_fits : (lab : Lab) (form sample caller : List ℕ) (moment : ℕ) (made : Record)
    → opening_record (last_form lab.forms form) (record_about lab.records form sample) sample caller
    moment (length lab.records) ≡ Ok made → IsKnown lab caller → Fits lab (RecordAdded made)
record_fits lab form sample caller moment made is known =
    let by : IsRecordOpened (last_form lab.forms form) (record_about lab.records form sample) sample
    caller moment (length lab.records) made = record_opened_by (last_form lab.forms form)
    (record_about lab.records form sample) sample caller moment (length lab.records) made is in
    let code : by.form.code ≡ form = last_code lab.forms form by.form by.is_found in
    let new : IsNewRecord lab (new_record by.form sample caller moment (length lab.records)) =
    record {
      number = refl;
      alone = subst (λ c. record_about lab.records c sample ≡ None) (sym code) by.alone;
      form = subst (λ c. last_form lab.forms c ≡ Some by.form) (sym code) by.is_found;
      first = first_version by.form.form.approval caller moment;
      versions = refl;
      format = refl;
      origin = refl;
      opener = known;
      no_rows = refl;
      no_signatures = refl;
    } in
    subst (λ kept. IsNewRecord lab kept) (sym by.is) new

-- a row that somebody of the laboratory enters
pub entry_fits : (lab : Lab) (number : ℕ) (item : Item) (reason : Option (List ℕ))
    (caller : List ℕ) (moment : ℕ) (made : EntryMade)
    → entering lab.code (record_of lab.records number) item reason caller moment ≡ Ok made
    → IsKnown lab caller → Fits lab (RowAdded made.number made.row)
entry_fits lab number item reason caller moment made is known =
    let row = entered_row item reason caller moment in
    let by : IsEntryMade lab.code (record_of lab.records number) row made =
    entry_made_by lab.code (record_of lab.records number) item reason caller moment made is in
    let found : last_version lab by.kept.number ≡ Some by.version =
    ap (λ o. option_and_then (λ kept. last_of kept.versions) o)
    (own_number lab number by.kept by.is_found) ∙ by.last in
    subst (λ one. Fits lab (RowAdded one.number one.row)) (sym by.is) (ap is_some found, known)

-- a version that somebody of the laboratory opens to amend the last one
pub amendment_fits : (lab : Lab) (number : ℕ) (reason : Option (List ℕ)) (altered : List Item)
    (caller : List ℕ) (moment : ℕ) (made : AmendmentMade)
    → amending lab.code (record_of lab.records number) reason altered caller moment ≡ Ok made
    → IsKnown lab caller → Fits lab (VersionOpened made.number made.version)
amendment_fits lab number reason altered caller moment made is known =
    let by : IsAmendmentMade lab.code (record_of lab.records number) altered caller moment made =
    amendment_made_by lab.code (record_of lab.records number) reason altered caller moment made
    is in
    let version : Version = next_version lab.code by.kept by.last by.reason altered caller moment in
    let new : IsNewVersion lab version by.kept = record {
      last = by.last;
      before = by.is_last;
      next = refl;
      previous = refl;
      format = refl;
      opener = known;
      persons = All-map (λ row. IsKnown lab row.person)
          (λ item. entered_row item (Some by.reason) caller moment) altered (λ k d lt. known);
      no_signatures = refl;
    } in
    subst (λ one. Fits lab (VersionOpened one.number one.version)) (sym by.is)
    (subst (λ o. MatchOption o ⊥ (IsNewVersion lab version))
    (sym (own_number lab number by.kept by.is_found)) new)
