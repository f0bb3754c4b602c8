-- What the cases of forms, records and signatures keep, and what they do to the records.
use Rattle.std.proofs.Common.{◌≡◌, ℕ, ◌+◌, Bool, true, false, cond, not, List, [], ◌∷◌, ◌++◌, length, Option, Some, None, Result, Ok, Err, refl, sym, ◌∙◌, ap, subst, inl, inr}
use Rattle.std.specs.Prelude.{◌||◌, ◌&&◌, nat_lt, nat_le, is_none, is_some, option_map, option_and_then, IsSome, MatchOption}
use Rattle.std.specs.Option.{option_map_or}
use Rattle.std.specs.Cmp.{unsigned_Decides}
use Rattle.std.proofs.lemmas.List.Elements.{All-map}
use Rattle.lab_forms.specs.Forms.{FormSheet, form_eq}
use Rattle.lab_people_access.specs.declared.persons.Person.{Person}
use Rattle.lab_people_access.specs.declared.sessions.Session.{Session}
use Rattle.lab_people_access.specs.declared.refusals.Failure.{Failure}
use Rattle.lab_people_access.specs.declared.refusals.PeopleRefusal.TheVariants.{LabFull}
use Rattle.lab_people_access.specs.Persons.{person_of}
use Rattle.lab_people_access.specs.Sessions.{session_of, signed_session}
use Rattle.lab_people_access.specs.Attempts.{signing_attempt, is_own_code}
use Rattle.lab_seal_versions.specs.declared.rows.EntryRow.{EntryRow}
use Rattle.lab_records_kept.specs.declared.labs.Lab.{Lab}
use Rattle.lab_records_kept.specs.declared.records.FormVersion.{FormVersion}
use Rattle.lab_records_kept.specs.declared.records.Record.{Record as KeptRecord}
use Rattle.lab_records_kept.specs.declared.records.Version.{Version}
use Rattle.lab_records_kept.specs.declared.trails.Deed.{Deed}
use Rattle.lab_records_kept.specs.declared.trails.Deed.TheVariants.{Record as RecordDeed, Entry as EntryDeed, Amend as AmendDeed}
use Rattle.lab_records_kept.specs.Limits.{AreFormsNumbered, form_version_limit, record_limit, row_limit, version_limit}
use Rattle.lab_records_kept.specs.Lookups.{last_form, next_form_version, record_of, version_of, is_numbered, last_of}
use Rattle.lab_records_kept.specs.Values.{version_state}
use Rattle.lab_records_kept.specs.Changes.{IsKnown, in_record, entered_in, opened_in, signed_in}
use Rattle.lab_records_kept.specs.Keeping.{Extends, KeepsRecord, IsDoneTo, IsAmended, HasVersion, last_number}
use Rattle.lab_records_rules.specs.declared.items.Item.{Item}
use Rattle.lab_records_rules.specs.declared.outcomes.Signing.{Signing}
use Rattle.lab_records_rules.specs.declared.outcomes.EntryMade.{EntryMade}
use Rattle.lab_records_rules.specs.declared.outcomes.AmendmentMade.{AmendmentMade}
use Rattle.lab_records_rules.specs.declared.outcomes.SignatureMade.{SignatureMade}
use Rattle.lab_records_rules.specs.declared.refusals.Refusal.{Refusal}
use Rattle.lab_records_rules.specs.declared.refusals.Refusal.TheVariants.{People, NothingAltered, NotOpen, ReasonWanted, AmendmentOpen, CodeWanted}
use Rattle.lab_records_rules.specs.Making.{form_version, making, new_record, opening_record}
use Rattle.lab_records_versions.specs.Entering.{is_open, has_settled, entered_row, item_refusal, has_value, entry_made, entering_of, entering, next_version, amendment_made, first_altered_refusal, amending_by, amending_of, amending}
use Rattle.lab_records_versions.specs.Signing.{is_code_wanted, version_refusal, new_signature, signature_made, signing_version, signing_record}
use Rattle.lab_records_machine.specs.Cases.{Case, Refuses}
use Rattle.lab_records_machine.specs.Own.{form_case, record_case, entry_case, amendment_case, signature_case, signing_by}
use Rattle.lab_records_laws.proofs.LimitLast.{found_passes}
use Rattle.lab_records_laws.proofs.KeepPersons.{IsSet, set_from, set_keeps, persons_itself, sessions_itself, with_session_keeps}
use Rattle.lab_records_laws.proofs.KeepForms.{forms_itself, form_added_keeps}
use Rattle.lab_records_laws.proofs.KeepRecords.{records_itself, records_more, in_record_keeps, entered_in_keeps, opened_in_keeps, signed_in_keeps, found_number, open_unsigned}
use Rattle.lab_records_laws.proofs.KeepCases.{KeepsRest, IsMade, CaseKeeps, after_case, IsAttemptOf, attempt_same, failure_keeps}

rest_itself : (lab : Lab) (records : List KeptRecord)
    → KeepsRest lab (record lab { records = records })
rest_itself lab records = record {
  code = refl;
  name = refl;
  persons = persons_itself lab.persons;
  sessions = sessions_itself lab.sessions;
  forms = forms_itself lab.forms;
}

-- records alone are others
records_made : (lab : Lab) (records : List KeptRecord) (deed : Deed) (moment : ℕ) (person : List ℕ)
    → IsKnown lab person → Extends KeepsRecord lab.records records
    → IsDoneTo deed lab.persons lab.records records moment person
    → IsMade lab.last lab (record lab { records = records }) deed moment person
records_made lab records deed moment person known keeps done = record {
  rest = rest_itself lab records;
  records = keeps;
  trail = refl;
  active = refl;
  done = inr (known, done);
}

-- ---- forms

made_by : (same full : Bool) (next form : FormVersion)
    → cond same (Err NothingAltered) (cond full (Err (People LabFull)) (Ok next)) ≡ Ok form
    → next ≡ form
made_by true full next form h = absurd (cc)
made_by false true next form h = absurd (cc)
made_by false false next form h = cc

making_next : (code : List ℕ) (sheet : FormSheet) (last : Option FormVersion) (form : FormVersion)
    → making code sheet last ≡ Ok form
    → (form.code ≡ code) × (form.version ≡ next_form_version last)
making_next code sheet None form h =
    let is : form_version code 1 sheet ≡ form = cc in
    subst (λ one. (one.code ≡ code) × (one.version ≡ 1)) is (refl, refl)
making_next code sheet (Some last) form h =
    let is = made_by (form_eq last.form sheet) (nat_le form_version_limit last.version)
    (form_version code (last.version + 1) sheet) form h in
    subst (λ one. (one.code ≡ code) × (one.version ≡ last.version + 1)) is (refl, refl)

pub form_keeps : (lab : Lab) (code : List ℕ) (sheet : FormSheet) (form : FormVersion) (moment : ℕ)
    (person : List ℕ) → AreFormsNumbered [] lab.forms
    → making code sheet (last_form lab.forms code) ≡ Ok form
    → CaseKeeps lab moment person (form_case lab form)
form_keeps lab code sheet form moment person numbered h =
    let is = making_next code sheet (last_form lab.forms code) form h in
    let next : form.version ≡ next_form_version (last_form lab.forms form.code) =
    is.1 ∙ ap (λ it. next_form_version (last_form lab.forms it)) (sym is.0) in
    record {
      rest = record {
        code = refl;
        name = refl;
        persons = persons_itself lab.persons;
        sessions = sessions_itself lab.sessions;
        forms = form_added_keeps lab.forms form numbered next;
      };
      records = records_itself lab.records;
      trail = refl;
      active = refl;
      done = inl refl;
    }

-- ---- records

-- a record as it is opened
record IsNew (sample person : List ℕ) (moment records : ℕ) (kept : KeptRecord) : Type 0 where
  pub form : FormVersion
  pub is : new_record form sample person moment records ≡ kept

opened_by : (full : Bool) (next kept : KeptRecord)
    → cond full (Err (People LabFull)) (Ok next) ≡ Ok kept → next ≡ kept
opened_by true next kept h = absurd (cc)
opened_by false next kept h = cc

opened_new : (form : Option FormVersion) (found : Option KeptRecord) (sample person : List ℕ)
    (moment records : ℕ) (kept : KeptRecord)
    → opening_record form found sample person moment records ≡ Ok kept
    → IsNew sample person moment records kept
opened_new None found sample person moment records kept h = absurd (cc)
opened_new (Some form) (Some other) sample person moment records kept h = absurd (cc)
opened_new (Some form) None sample person moment records kept h = record {
  form = form;
  is =
      opened_by (nat_le record_limit records) (new_record form sample person moment records) kept h;
}

new_keeps : (lab : Lab) (form : FormVersion) (sample person : List ℕ) (moment records : ℕ)
    → IsKnown lab person
    → CaseKeeps lab moment person (record_case lab (new_record form sample person moment records))
new_keeps lab form sample person moment records known =
    let kept = new_record form sample person moment records in
    records_made lab (lab.records ++ kept ∷ []) (RecordDeed kept.number) moment person known
    (records_more lab.records (kept ∷ []))
    (record {
      kept = kept;
      added = refl;
      opened = record {
        numbered = refl;
        first = _;
        versions = refl;
        opener = refl;
        opened = refl;
        no_rows = refl;
        no_signatures = refl;
      };
    })

pub record_keeps : (lab : Lab) (form : Option FormVersion) (found : Option KeptRecord)
    (sample person : List ℕ) (moment records : ℕ) (kept : KeptRecord) → IsKnown lab person
    → opening_record form found sample person moment records ≡ Ok kept
    → CaseKeeps lab moment person (record_case lab kept)
record_keeps lab form found sample person moment records kept known h =
    let new = opened_new form found sample person moment records kept h in
    subst (λ one. CaseKeeps lab moment person (record_case lab one)) new.is
    (new_keeps lab new.form sample person moment records known)

-- ---- entries

entered_by : (opens : Bool) (refusal : Option Refusal) (wanted full : Bool) (next made : EntryMade)
    → cond (not opens) (Err NotOpen) (option_map_or Err refusal (cond wanted (Err ReasonWanted)
    (cond full (Err (People LabFull)) (Ok next)))) ≡ Ok made
    → (opens ≡ true) × (next ≡ made)
entered_by false refusal wanted full next made h = absurd (cc)
entered_by true (Some refusal) wanted full next made h = absurd (cc)
entered_by true None true full next made h = absurd (cc)
entered_by true None false true next made h = absurd (cc)
entered_by true None false false next made h = (refl, cc)

-- a row is entered in the last version of a record that is there, while it has no signature
record IsEntered (records : List KeptRecord) (lab person : List ℕ) (moment : ℕ) (made : EntryMade)
    : Type 0 where
  pub kept : KeptRecord
  pub last : Version
  pub row : EntryRow
  pub there : record_of records kept.number ≡ Some kept
  pub at : last_of kept.versions ≡ Some last
  pub unsigned : last.signatures ≡ []
  pub by : row.person ≡ person
  pub moment_is : row.moment ≡ moment
  pub is : entry_made lab kept last row ≡ made

entered_last : (records : List KeptRecord) (lab : List ℕ) (kept : KeptRecord)
    (last : Option Version) (item : Item) (reason : Option (List ℕ)) (person : List ℕ) (moment : ℕ)
    (made : EntryMade) → record_of records kept.number ≡ Some kept → last_of kept.versions ≡ last
    → entering_of lab kept last item reason person moment ≡ Ok made
    → IsEntered records lab person moment made
entered_last records lab kept None item reason person moment made there at h = absurd (cc)
entered_last records lab kept (Some last) item reason person moment made there at h =
    let row = entered_row item reason person moment in
    let is = entered_by (is_open (version_state kept last)) (item_refusal kept item)
    (has_value kept item.key && is_none reason) (nat_le row_limit (length last.rows))
    (entry_made lab kept last row) made h in
    record {
      kept = kept;
      last = last;
      row = row;
      there = there;
      at = at;
      unsigned = open_unsigned kept last is.0;
      by = refl;
      moment_is = refl;
      is = is.1;
    }

-- a record that is found is found by its own number
found_own : (records : List KeptRecord) (number : ℕ) (kept : KeptRecord)
    → record_of records number ≡ Some kept → record_of records kept.number ≡ Some kept
found_own records number kept there =
    subst (λ one. record_of records one ≡ Some kept) (sym (found_number records number kept there))
    there

entered_found : (records : List KeptRecord) (number : ℕ) (lab : List ℕ) (found : Option KeptRecord)
    (item : Item) (reason : Option (List ℕ)) (person : List ℕ) (moment : ℕ) (made : EntryMade)
    → record_of records number ≡ found
    → entering lab found item reason person moment ≡ Ok made
    → IsEntered records lab person moment made
entered_found records number lab None item reason person moment made there h = absurd (cc)
entered_found records number lab (Some kept) item reason person moment made there h =
    entered_last records lab kept (last_of kept.versions) item reason person moment made
    (found_own records number kept there) refl h

-- the last version of a record that is there has its number
numbered_last : (records : List KeptRecord) (kept : KeptRecord) (last : Version)
    → record_of records kept.number ≡ Some kept → last_of kept.versions ≡ Some last
    → last_number records kept.number ≡ Some last.origin.number
numbered_last records kept last there at =
    let number_of : Option KeptRecord → Option ℕ = λ found.
    option_map (λ version. version.origin.number)
    (option_and_then (λ kept. last_of kept.versions) found) in
    ap number_of there ∙ ap (option_map (λ version. version.origin.number)) at

row_entered : (lab : Lab) (person : List ℕ) (moment : ℕ) (kept : KeptRecord) (last : Version)
    (row : EntryRow) → record_of lab.records kept.number ≡ Some kept
    → last_of kept.versions ≡ Some last → last.signatures ≡ [] → row.person ≡ person
    → row.moment ≡ moment → IsKnown lab person
    → CaseKeeps lab moment person (entry_case lab (entry_made lab.code kept last row))
row_entered lab person moment kept last row there at unsigned by moment_is known =
    records_made lab (in_record kept.number (entered_in row) lab.records)
    (EntryDeed kept.number last.origin.number row.key) moment person known
    (in_record_keeps kept.number (entered_in row) lab.records kept there
    (entered_in_keeps row kept last at unsigned))
    (record {
      row = row;
      last = numbered_last lab.records kept last there at;
      added = refl;
      under = refl;
      by = by;
      at = moment_is;
    })

pub entry_keeps : (lab : Lab) (number : ℕ) (item : Item) (reason : Option (List ℕ))
    (person : List ℕ) (moment : ℕ) (made : EntryMade) → IsKnown lab person
    → entering lab.code (record_of lab.records number) item reason person moment ≡ Ok made
    → CaseKeeps lab moment person (entry_case lab made)
entry_keeps lab number item reason person moment made known h =
    let entered = entered_found lab.records number lab.code (record_of lab.records number) item
    reason person moment made refl h in
    subst (λ one. CaseKeeps lab moment person (entry_case lab one)) entered.is
    (row_entered lab person moment entered.kept entered.last entered.row entered.there entered.at
    entered.unsigned entered.by entered.moment_is known)

-- ---- amendments

amended_by : (refusal : Option Refusal) (full : Bool) (next made : AmendmentMade)
    → option_map_or Err refusal (cond full (Err (People LabFull)) (Ok next)) ≡ Ok made
    → next ≡ made
amended_by (Some refusal) full next made h = absurd (cc)
amended_by None true next made h = absurd (cc)
amended_by None false next made h = cc

-- a version is opened in a record that is there, with a reason and some rows
record IsVersionMade (records : List KeptRecord) (lab person : List ℕ) (moment : ℕ)
    (made : AmendmentMade) : Type 0 where
  pub kept : KeptRecord
  pub last : Version
  pub reason : List ℕ
  pub one : Item
  pub others : List Item
  pub there : record_of records kept.number ≡ Some kept
  pub at : last_of kept.versions ≡ Some last
  pub is : amendment_made lab kept (next_version lab kept last reason (one ∷ others) person moment)
      ≡ made

amended_reason : (records : List KeptRecord) (lab : List ℕ) (kept : KeptRecord) (last : Version)
    (reason : Option (List ℕ)) (altered : List Item) (person : List ℕ) (moment : ℕ)
    (made : AmendmentMade) → record_of records kept.number ≡ Some kept
    → last_of kept.versions ≡ Some last
    → amending_by lab kept last reason altered person moment ≡ Ok made
    → IsVersionMade records lab person moment made
amended_reason records lab kept last None altered person moment made there at h = absurd (cc)
amended_reason records lab kept last (Some reason) [] person moment made there at h = absurd (cc)
amended_reason records lab kept last (Some reason) (one ∷ others) person moment made there at h =
    record {
      kept = kept;
      last = last;
      reason = reason;
      one = one;
      others = others;
      there = there;
      at = at;
      is = amended_by (first_altered_refusal kept (one ∷ others))
          (nat_le version_limit last.origin.number || nat_lt row_limit (length (one ∷ others)))
          (amendment_made lab kept (next_version lab kept last reason (one ∷ others) person moment))
          made h;
    }

settled_by : (settled : Bool) (next : Result AmendmentMade Refusal) (made : AmendmentMade)
    → cond (not settled) (Err AmendmentOpen) next ≡ Ok made → next ≡ Ok made
settled_by true next made h = h
settled_by false next made h = absurd (cc)

amended_last : (records : List KeptRecord) (lab : List ℕ) (kept : KeptRecord)
    (last : Option Version) (reason : Option (List ℕ)) (altered : List Item) (person : List ℕ)
    (moment : ℕ) (made : AmendmentMade) → record_of records kept.number ≡ Some kept
    → last_of kept.versions ≡ last
    → amending_of lab kept last reason altered person moment ≡ Ok made
    → IsVersionMade records lab person moment made
amended_last records lab kept None reason altered person moment made there at h = absurd (cc)
amended_last records lab kept (Some last) reason altered person moment made there at h =
    amended_reason records lab kept last reason altered person moment made there at
    (settled_by (has_settled (version_state kept last))
    (amending_by lab kept last reason altered person moment) made h)

amended_found : (records : List KeptRecord) (number : ℕ) (lab : List ℕ) (found : Option KeptRecord)
    (reason : Option (List ℕ)) (altered : List Item) (person : List ℕ) (moment : ℕ)
    (made : AmendmentMade) → record_of records number ≡ found
    → amending lab found reason altered person moment ≡ Ok made
    → IsVersionMade records lab person moment made
amended_found records number lab None reason altered person moment made there h = absurd (cc)
amended_found records number lab (Some kept) reason altered person moment made there h =
    amended_last records lab kept (last_of kept.versions) reason altered person moment made
    (found_own records number kept there) refl h

version_made : (lab : Lab) (person : List ℕ) (moment : ℕ) (kept : KeptRecord) (last : Version)
    (reason : List ℕ) (one : Item) (others : List Item)
    → record_of lab.records kept.number ≡ Some kept → last_of kept.versions ≡ Some last
    → IsKnown lab person
    → CaseKeeps lab moment person (amendment_case lab (amendment_made lab.code kept
    (next_version lab.code kept last reason (one ∷ others) person moment)))
version_made lab person moment kept last reason one others there at known =
    let opened = next_version lab.code kept last reason (one ∷ others) person moment in
    records_made lab (in_record kept.number (opened_in opened) lab.records)
    (AmendDeed kept.number opened.origin.number) moment person known
    (in_record_keeps kept.number (opened_in opened) lab.records kept there
    (opened_in_keeps opened kept))
    (record {
      opened = opened;
      last = last.origin.number;
      before = numbered_last lab.records kept last there at;
      next = refl;
      added = refl;
      numbered = refl;
      by = refl;
      at = refl;
      some = λ h. absurd (cc);
      rows = All-map (IsAmended opened moment person)
          (λ item. entered_row item (Some reason) person moment) (one ∷ others)
          (λ place item few. record { by = refl; at = refl; why = refl });
      no_signatures = refl;
    })

pub amendment_keeps : (lab : Lab) (number : ℕ) (reason : Option (List ℕ)) (altered : List Item)
    (person : List ℕ) (moment : ℕ) (made : AmendmentMade) → IsKnown lab person
    → amending lab.code (record_of lab.records number) reason altered person moment ≡ Ok made
    → CaseKeeps lab moment person (amendment_case lab made)
amendment_keeps lab number reason altered person moment made known h =
    let amended = amended_found lab.records number lab.code (record_of lab.records number) reason
    altered person moment made refl h in
    subst (λ one. CaseKeeps lab moment person (amendment_case lab one)) amended.is
    (version_made lab person moment amended.kept amended.last amended.reason amended.one
    amended.others amended.there amended.at known)

-- ---- signatures

signed_by : (refusal : Option Refusal) (next made : SignatureMade)
    → option_map_or Err refusal (Ok next) ≡ Ok made → next ≡ made
signed_by (Some refusal) next made h = absurd (cc)
signed_by None next made h = cc

-- a record that is there is signed by the person of the code and the name
record IsSignatureMade (records : List KeptRecord) (person name : List ℕ) (moment : ℕ)
    (made : SignatureMade) : Type 0 where
  pub kept : KeptRecord
  pub there : record_of records made.number ≡ Some kept
  pub version : HasVersion records made.number made.version
  pub by : made.signature.person ≡ person
  pub named : made.signature.name ≡ name
  pub at : made.signature.moment ≡ moment

-- a version that is found in a record that is there is found by its own number
version_found : (records : List KeptRecord) (kept : KeptRecord) (number : ℕ) (version : Version)
    → record_of records kept.number ≡ Some kept → version_of kept.versions number ≡ Some version
    → HasVersion records kept.number version.origin.number
version_found records kept number version there at =
    let own : version.origin.number ≡ number = (unsigned_Decides version.origin.number number).0
    (found_passes (is_numbered number) version kept.versions at) in
    ap (λ found. is_some (option_and_then
    (λ kept. version_of kept.versions version.origin.number) found)) there
    ∙ subst (λ n. is_some (version_of kept.versions n) ≡ true) (sym own) (ap is_some at)

signed_version : (records : List KeptRecord) (lab : List ℕ) (kept : KeptRecord) (number : ℕ)
    (version : Option Version) (digest : List ℕ) (signing : Signing) (person : Person) (moment : ℕ)
    (made : SignatureMade) → record_of records kept.number ≡ Some kept
    → version_of kept.versions number ≡ version
    → signing_version lab kept version digest signing person moment ≡ Ok made
    → IsSignatureMade records person.code person.name moment made
signed_version records lab kept number None digest signing person moment made there at h =
    absurd (cc)
signed_version records lab kept number (Some version) digest signing person moment made there at h =
    let is = signed_by (version_refusal lab kept version digest signing person.code)
    (signature_made kept version (new_signature lab person signing moment digest)) made h in
    subst (IsSignatureMade records person.code person.name moment) is
    (record {
      kept = kept;
      there = there;
      version = version_found records kept number version there at;
      by = refl;
      named = refl;
      at = refl;
    })

signed_found : (records : List KeptRecord) (number version : ℕ) (lab : List ℕ)
    (found : Option KeptRecord) (digest : List ℕ) (signing : Signing) (person : Person) (moment : ℕ)
    (made : SignatureMade) → record_of records number ≡ found
    → signing_record lab found version digest signing person moment ≡ Ok made
    → IsSignatureMade records person.code person.name moment made
signed_found records number version lab None digest signing person moment made there h = absurd (cc)
signed_found records number version lab (Some kept) digest signing person moment made there h =
    signed_version records lab kept version (version_of kept.versions version) digest signing person
    moment made (found_own records number kept there) refl h

signature_keeps : (lab : Lab) (session : Session) (one : Person) (made : SignatureMade) (moment : ℕ)
    (caller : Person) → person_of lab.persons caller.code ≡ Some caller → IsSet lab.persons one
    → session_of lab.sessions session.token ≡ Some session
    → IsSignatureMade lab.records caller.code caller.name moment made
    → CaseKeeps lab moment caller.code (signature_case lab session one made)
signature_keeps lab session one made moment caller known set there signed = record {
  rest = record {
    code = refl;
    name = refl;
    persons = set_keeps lab.persons one set;
    sessions = with_session_keeps lab.sessions (signed_session session) session there
        (record { same = record { number = refl; person = refl; token = refl; opened = refl }; closed = λ is. is });
    forms = forms_itself lab.forms;
  };
  records =
      in_record_keeps made.number (signed_in made.version made.signature) lab.records signed.kept
      signed.there (signed_in_keeps made.version made.signature signed.kept);
  trail = refl;
  active = refl;
  done = inr (
    subst IsSome (sym known) refl,
    record {
      signature = made.signature;
      there = signed.version;
      added = refl;
      meant = refl;
      by = signed.by;
      named = subst (λ found. MatchOption found ⊥ (λ person. made.signature.name ≡ person.name))
          (sym known) signed.named;
      at = signed.at;
    },
  );
}

signing_by_keeps : (lab : Lab) (moment : ℕ) (session : Session) (caller : Person)
    (number version : ℕ) (digest : List ℕ) (signing : Signing) (attempt : Result Person Failure)
    → person_of lab.persons caller.code ≡ Some caller
    → session_of lab.sessions session.token ≡ Some session → IsAttemptOf caller attempt
    → CaseKeeps lab moment caller.code
    (signing_by lab moment session number version digest signing attempt)
signing_by_keeps lab moment session caller number version digest signing (Err failure) known there
    same =
    failure_keeps lab.persons caller.code caller failure known same
signing_by_keeps lab moment session caller number version digest signing (Ok one) known there same =
    after_case lab moment caller.code
    (signing_record lab.code (record_of lab.records number) version digest signing one moment)
    (signature_case lab session one) (λ made h.
    signature_keeps lab session one made moment caller known
    (set_from lab.persons caller.code caller one known same) there
    (subst (λ name. IsSignatureMade lab.records caller.code name moment made) same.same.name
    (subst (λ code. IsSignatureMade lab.records code one.name moment made) same.same.code
    (signed_found lab.records number version lab.code (record_of lab.records number) digest signing
    one moment made refl h))))

signing_wanted : (wanted : Bool) (lab : Lab) (moment : ℕ) (code : List ℕ) (case : Case)
    → CaseKeeps lab moment code case
    → CaseKeeps lab moment code (cond wanted (Refuses CodeWanted) case)
signing_wanted true lab moment code case keeps = tt
signing_wanted false lab moment code case keeps = keeps

pub signing_keeps : (lab : Lab) (moment : ℕ) (session : Session) (caller : Person)
    (number version : ℕ) (digest : List ℕ) (signing : Signing) (password : List ℕ)
    (code : Option (List ℕ)) → person_of lab.persons caller.code ≡ Some caller
    → session_of lab.sessions session.token ≡ Some session
    → CaseKeeps lab moment caller.code (cond (is_code_wanted session code) (Refuses CodeWanted)
    (signing_by lab moment session number version digest signing
    (signing_attempt caller code password moment)))
signing_keeps lab moment session caller number version digest signing password code known there =
    signing_wanted (is_code_wanted session code) lab moment caller.code
    (signing_by lab moment session number version digest signing
    (signing_attempt caller code password moment))
    (signing_by_keeps lab moment session caller number version digest signing
    (signing_attempt caller code password moment) known there
    (attempt_same caller (is_own_code code caller) password moment))
