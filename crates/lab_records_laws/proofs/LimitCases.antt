-- What each command makes of a laboratory is within the limits, and its trail is as before.
use Rattle.std.proofs.Common.{◌≡◌, ◌≤◌, ◌<◌, ◌+◌, ℕ, Bool, true, false, not, cond, ◌&&◌, List, [], ◌∷◌, ◌++◌, length, Option, Some, None, Result, Ok, Err, refl, sym, subst, arith, nat_le}
use Rattle.std.specs.Prelude.{bytes_eq, is_some}
use Rattle.std.proofs.lemmas.Bool.{leb-false, leb-true}
use Rattle.std.proofs.lemmas.List.{length-map}
use Rattle.std.proofs.lemmas.List.Elements.{All-push}
use Rattle.lab_forms_texts.specs.declared.tick.Tick.{Tick}
use Rattle.lab_forms_texts.specs.Ordinals.{last_ordinal, is_ordinal, ordinal_of}
use Rattle.lab_forms.specs.Forms.{FormSheet, field_limit}
use Rattle.lab_people_access.specs.declared.persons.Person.{Person}
use Rattle.lab_people_access.specs.declared.roles.Roles.{Roles}
use Rattle.lab_people_access.specs.declared.sessions.Session.{Session}
use Rattle.lab_people_access.specs.declared.sessions.Closing.{Closing}
use Rattle.lab_people_access.specs.declared.refusals.Failure.{Failure}
use Rattle.lab_people_access.specs.declared.refusals.PeopleFault.TheVariants.{Refused as IsRefused}
use Rattle.lab_people_access.specs.declared.refusals.PeopleRefusal.{PeopleRefusal}
use Rattle.lab_people_access.specs.declared.refusals.PeopleRefusal.TheVariants.{RandomRepeated, LabFull, CodeTaken, BadPassword, SamePassword}
use Rattle.lab_people_access.specs.Openings.{opening_by, numbered_opening, new_opening}
use Rattle.lab_people_access.specs.Passwords.{is_password}
use Rattle.lab_people_access.specs.Sessions.{session_of, closed_session, signed_session}
use Rattle.lab_people.specs.Accounts.{changing_by, with_new_password}
use Rattle.lab_records_kept.specs.declared.labs.Lab.{Lab}
use Rattle.lab_records_kept.specs.declared.records.FormVersion.{FormVersion}
use Rattle.lab_records_kept.specs.declared.records.Record.{Record}
use Rattle.lab_people_access.specs.Persons.{newcomer, person_limit}
use Rattle.lab_records_kept.specs.Limits.{IsWithin, IsOrderly, IsByForm, IsSmallForm, record_limit, row_limit}
use Rattle.lab_records_kept.specs.Lookups.{last_form, record_of, record_about, next_form_version}
use Rattle.lab_records_kept.specs.Lookups.{person_at}
use Rattle.lab_records_kept.specs.Changes.{with_person, with_session, added_person, entered_in, opened_in, signed_in}
use Rattle.lab_records_rules.specs.declared.items.Item.{Item}
use Rattle.lab_records_rules.specs.declared.outcomes.Signing.{Signing}
use Rattle.lab_records_rules.specs.declared.outcomes.EntryMade.{EntryMade}
use Rattle.lab_records_rules.specs.declared.outcomes.AmendmentMade.{AmendmentMade}
use Rattle.lab_records_rules.specs.declared.outcomes.SignatureMade.{SignatureMade}
use Rattle.lab_records_rules.specs.declared.refusals.Refusal.{Refusal}
use Rattle.lab_records_rules.specs.Making.{making, opening_record, new_record, first_version}
use Rattle.lab_records_versions.specs.Entering.{entering, amending, entered_row, next_version}
use Rattle.lab_records_versions.specs.Signing.{signing_record, new_signature}
use Rattle.lab_records_machine.specs.declared.replies.Reply.{Reply}
use Rattle.lab_records_machine.specs.Cases.{Case, Makes}
use Rattle.lab_records_machine.specs.Own.{then_case, then_person, then_read, opened_case, closing_case, changed_case, enrolled_case, with_person_closed, form_case, record_case, entry_case, amendment_case, signature_case, signing_by}
use Rattle.lab_records_laws.proofs.LimitLists.{longer, numbered_more}
use Rattle.lab_records_laws.proofs.LimitOrder.{all_placed}
use Rattle.lab_records_laws.proofs.LimitParts.{session_number}
use Rattle.lab_records_laws.proofs.LimitPersons.{added_ordered, added_length}
use Rattle.lab_records_laws.proofs.LimitForms.{forms_added_ordered, forms_added_numbered, by_form_added}
use Rattle.lab_records_laws.proofs.LimitLast.{last_exact}
use Rattle.lab_records_laws.proofs.LimitRecords.{record_number, record_found, all_found, entered_orderly, opened_orderly, signed_orderly, new_orderly}
use Rattle.lab_records_laws.proofs.LimitRules.{IsFormMade, form_made_by, IsRecordOpened, record_opened_by, IsEntryMade, entry_made_by, IsAmendmentMade, amendment_made_by, IsSignatureMade, signature_made_by}
use Rattle.lab_records_laws.proofs.LimitKept.{persons_within, person_within, sessions_within, session_within, closed_within, records_within, record_within}

-- what a command makes is within the limits, and its trail is the one before
abbrev pub IsCaseWithin : Lab → Case → Type 0
IsCaseWithin lab (Makes reply deed after) = IsWithin after × (after.trail ≡ lab.trail)
IsCaseWithin lab _ = Unit {0}

pub then_case_within : {A : Type 0} (lab : Lab) (rule : Result A Refusal) (next : A → Case)
    → ((value : A) → rule ≡ Ok value → IsCaseWithin lab (next value))
    → IsCaseWithin lab (then_case rule next)
then_case_within lab (Err refusal) next within = record {}
then_case_within lab (Ok value) next within = within value refl

pub then_person_within : {A : Type 0} (lab : Lab) (rule : Result A PeopleRefusal) (next : A → Case)
    → ((value : A) → rule ≡ Ok value → IsCaseWithin lab (next value))
    → IsCaseWithin lab (then_person rule next)
then_person_within lab (Err refusal) next within = record {}
then_person_within lab (Ok value) next within = within value refl

pub then_read_within : {A : Type 0} (lab : Lab) (rule : Result A Refusal) (reply : A → Reply)
    → IsCaseWithin lab (then_read rule reply)
then_read_within lab (Err refusal) reply = record {}
then_read_within lab (Ok value) reply = record {}

-- ---- sessions

pub closing_within : (lab : Lab) (session : Session)
    → session_of lab.sessions session.token ≡ Some session → IsWithin lab
    → IsCaseWithin lab (closing_case lab session)
closing_within lab session found within =
    (session_within lab (closed_session session) session found refl within, refl)

both_true : (one other : Bool) → (one && other) ≡ true → other ≡ true
both_true true other is = is
both_true false other is = absurd (cc)

opened_with : (ordinal : Bool) (lab : Lab) (code : List ℕ) (tick : Tick) (person : Person)
    → is_ordinal (length lab.sessions + 1) ≡ ordinal → IsWithin lab
    → IsCaseWithin lab (opened_case lab (numbered_opening
    (cond ordinal (Some (length lab.sessions + 1)) None) code tick person))
opened_with false lab code tick person is within = record {}
opened_with true lab code tick person is within =
    let opened = new_opening (length lab.sessions + 1) code tick person in
    let room : length lab.sessions + 1 ≤ last_ordinal = leb-true (length lab.sessions + 1)
    last_ordinal (both_true (nat_le 1 (length lab.sessions + 1))
    (nat_le (length lab.sessions + 1) last_ordinal) is) in
    let long : length (lab.sessions ++ opened.session ∷ []) ≡ length lab.sessions + 1 =
    longer lab.sessions opened.session in (
      sessions_within (record lab { persons = with_person person lab.persons })
          (lab.sessions ++ opened.session ∷ []) (omega arith)
          (numbered_more session_number lab.sessions opened.session refl within.sessions_numbered)
          (person_within lab person within),
      refl,
    )

opened_unless : (repeated : Bool) (lab : Lab) (code : List ℕ) (tick : Tick) (person : Person)
    → IsWithin lab → IsCaseWithin lab (opened_case lab
    (cond repeated (Err (IsRefused RandomRepeated))
    (numbered_opening (ordinal_of (length lab.sessions + 1)) code tick person)))
opened_unless true lab code tick person within = record {}
opened_unless false lab code tick person within =
    opened_with (is_ordinal (length lab.sessions + 1)) lab code tick person refl within

pub opening_within : (lab : Lab) (attempt : Result Person Failure) (code : List ℕ) (tick : Tick)
    (repeated : Option Session) → IsWithin lab
    → IsCaseWithin lab
    (opened_case lab (opening_by attempt code tick (length lab.sessions) repeated))
opening_within lab (Err failure) code tick repeated within = record {}
opening_within lab (Ok person) code tick repeated within =
    opened_unless (is_some repeated) lab code tick person within

-- ---- accounts

changed_unless : (bad same : Bool) (lab : Lab) (person : Person) (session : Session)
    (new : List ℕ) (tick : Tick) → session_of lab.sessions session.token ≡ Some session
    → IsWithin lab → IsCaseWithin lab (changed_case lab tick.moment
    (cond bad (Err (IsRefused BadPassword)) (cond same (Err (IsRefused SamePassword))
    (Ok (with_new_password person session new tick)))))
changed_unless true same lab person session new tick found within = record {}
changed_unless false true lab person session new tick found within = record {}
changed_unless false false lab person session new tick found within =
    let changed = with_new_password person session new tick in
    let renewed : Lab = record lab { persons = with_person changed.person lab.persons } in
    let set : Lab = record renewed { sessions = with_session changed.session lab.sessions } in (
      closed_within set changed.closing changed.person.code
          (session_within renewed changed.session session found refl
          (person_within lab changed.person within)),
      refl,
    )

pub changing_within : (lab : Lab) (attempt : Result Person Failure) (session : Session)
    (old new : List ℕ) (tick : Tick) → session_of lab.sessions session.token ≡ Some session
    → IsWithin lab
    → IsCaseWithin lab (changed_case lab tick.moment (changing_by attempt session old new tick))
changing_within lab (Err failure) session old new tick found within = record {}
changing_within lab (Ok person) session old new tick found within =
    changed_unless (not (is_password new)) (bytes_eq new old) lab person session new tick found
    within

pub enrolling_within : (full : Bool) (lab : Lab) (code name : List ℕ) (roles : Roles)
    (holder : Option Person) → person_at lab code ≡ holder
    → nat_le person_limit (length lab.persons) ≡ full → IsWithin lab
    → IsCaseWithin lab (then_person (cond (is_some holder) (Err CodeTaken)
    (cond full (Err LabFull) (Ok (newcomer code name roles)))) (enrolled_case lab))
enrolling_within full lab code name roles (Some person) is is_full within = record {}
enrolling_within true lab code name roles None is is_full within = record {}
enrolling_within false lab code name roles None is is_full within =
    let person = newcomer code name roles in
    let room : length lab.persons < person_limit =
    leb-false person_limit (length lab.persons) is_full in
    let long : length (added_person person lab.persons) ≡ length lab.persons + 1 =
    added_length person lab.persons in (
      persons_within lab (added_person person lab.persons) (omega arith)
          (added_ordered person lab.persons is within.persons_ordered) within,
      refl,
    )

pub person_closed_within : (lab : Lab) (person : Person) (closing : Closing) → IsWithin lab
    → IsWithin (with_person_closed lab person closing)
person_closed_within lab person closing within =
    closed_within (record lab { persons = with_person person lab.persons }) closing person.code
    (person_within lab person within)

-- ---- forms and records

pub form_within : (lab : Lab) (code : List ℕ) (form : FormSheet) (made : FormVersion)
    → making code form (last_form lab.forms code) ≡ Ok made → length form.fields ≤ field_limit
    → IsWithin lab → IsCaseWithin lab (form_case lab made)
form_within lab code form made is few within =
    let by : IsFormMade code form (last_form lab.forms code) made =
    form_made_by code form (last_form lab.forms code) made is in
    let small : IsSmallForm made = record {
      version = by.few;
      fields = subst (λ f. length f.fields ≤ field_limit) (sym by.form_is) few;
    } in (
      record {
        persons = within.persons;
        sessions = within.sessions;
        trail = within.trail;
        records = within.records;
        strays = within.strays;
        forms = all_placed IsSmallForm _ made lab.forms small within.forms;
        orderly = within.orderly;
        by_form = by_form_added made lab.forms lab.records within.forms_ordered within.by_form;
        persons_ordered = within.persons_ordered;
        forms_ordered = forms_added_ordered made lab.forms within.forms_ordered;
        forms_numbered = forms_added_numbered made lab.forms within.forms_ordered
            within.forms_numbered (subst (λ c. made.version ≡ next_form_version
            (last_form lab.forms c)) (sym by.code_is) by.next);
        sessions_numbered = within.sessions_numbered;
        records_numbered = within.records_numbered;
        trail_numbered = within.trail_numbered;
      },
      refl,
    )

pub record_opened_within : (lab : Lab) (form sample caller : List ℕ) (moment : ℕ) (made : Record)
    → opening_record (last_form lab.forms form) (record_about lab.records form sample) sample caller
    moment (length lab.records) ≡ Ok made → IsWithin lab → IsCaseWithin lab (record_case lab made)
record_opened_within lab form sample caller moment made is within =
    let by : IsRecordOpened (last_form lab.forms form) (record_about lab.records form sample) sample
    caller moment (length lab.records) made = record_opened_by (last_form lab.forms form)
    (record_about lab.records form sample) sample caller moment (length lab.records) made is in
    let opened = new_record by.form sample caller moment (length lab.records) in
    let orderly : IsOrderly opened = new_orderly (first_version by.form.form.approval caller moment)
    opened refl refl refl in
    let exact : IsByForm lab.forms opened =
    last_exact lab.forms form by.form within.forms_numbered by.is_found in
    let room : length lab.records < record_limit = by.few in
    let long : length (lab.records ++ opened ∷ []) ≡ length lab.records + 1 =
    longer lab.records opened in
    subst (λ kept. IsCaseWithin lab (record_case lab kept)) (sym by.is) (
      records_within lab (lab.records ++ opened ∷ []) (omega arith)
          (All-push IsOrderly lab.records opened within.orderly orderly)
          (All-push (IsByForm lab.forms) lab.records opened within.by_form exact)
          (numbered_more record_number lab.records opened refl within.records_numbered) within,
      refl,
    )

-- the record that was found is under its own number
pub own_number : (lab : Lab) (number : ℕ) (kept : Record) → record_of lab.records number ≡ Some kept
    → record_of lab.records kept.number ≡ Some kept
own_number lab number kept found =
    subst (λ n. record_of lab.records n ≡ Some kept) (sym (record_found number kept lab.records
    found)) found

pub entry_within : (lab : Lab) (number : ℕ) (item : Item) (reason : Option (List ℕ))
    (caller : List ℕ) (moment : ℕ) (made : EntryMade)
    → entering lab.code (record_of lab.records number) item reason caller moment ≡ Ok made
    → IsWithin lab → IsCaseWithin lab (entry_case lab made)
entry_within lab number item reason caller moment made is within =
    let row = entered_row item reason caller moment in
    let by : IsEntryMade lab.code (record_of lab.records number) row made =
    entry_made_by lab.code (record_of lab.records number) item reason caller moment made is in
    let orderly : IsOrderly by.kept =
    all_found IsOrderly number by.kept lab.records by.is_found within.orderly in
    let exact : IsByForm lab.forms by.kept =
    all_found (IsByForm lab.forms) number by.kept lab.records by.is_found within.by_form in
    subst (λ entry. IsCaseWithin lab (entry_case lab entry)) (sym by.is) (
      record_within lab by.kept.number (entered_in row) by.kept
          (own_number lab number by.kept by.is_found) (λ one. refl)
          (entered_orderly row by.version by.kept by.last by.few orderly) exact within,
      refl,
    )

pub amendment_within : (lab : Lab) (number : ℕ) (reason : Option (List ℕ)) (altered : List Item)
    (caller : List ℕ) (moment : ℕ) (made : AmendmentMade)
    → amending lab.code (record_of lab.records number) reason altered caller moment ≡ Ok made
    → IsWithin lab → IsCaseWithin lab (amendment_case lab made)
amendment_within lab number reason altered caller moment made is within =
    let by : IsAmendmentMade lab.code (record_of lab.records number) altered caller moment made =
    amendment_made_by lab.code (record_of lab.records number) reason altered caller moment made
    is in
    let version = next_version lab.code by.kept by.last by.reason altered caller moment in
    let orderly : IsOrderly by.kept =
    all_found IsOrderly number by.kept lab.records by.is_found within.orderly in
    let exact : IsByForm lab.forms by.kept =
    all_found (IsByForm lab.forms) number by.kept lab.records by.is_found within.by_form in
    let rows : length version.rows ≡ length altered =
    length-map altered (λ item. entered_row item (Some by.reason) caller moment) in
    subst (λ amendment. IsCaseWithin lab (amendment_case lab amendment)) (sym by.is) (
      record_within lab by.kept.number (opened_in version) by.kept
          (own_number lab number by.kept by.is_found) (λ one. refl)
          (opened_orderly version by.last by.kept by.is_last refl by.few
          (subst (λ n. n ≤ row_limit) (sym rows) by.few_rows) orderly) exact within,
      refl,
    )

pub signature_within : (lab : Lab) (session : Session) (person : Person) (number version : ℕ)
    (digest : List ℕ) (signing : Signing) (moment : ℕ) (made : SignatureMade)
    → signing_record lab.code (record_of lab.records number) version digest signing person moment
    ≡ Ok made → session_of lab.sessions session.token ≡ Some session → IsWithin lab
    → IsCaseWithin lab (signature_case lab session person made)
signature_within lab session person number version digest signing moment made is found within =
    let by : IsSignatureMade lab.code (record_of lab.records number) version digest signing person
    moment made = signature_made_by lab.code (record_of lab.records number) version digest
    signing person moment made is in
    let signature = new_signature lab.code person signing moment digest in
    let orderly : IsOrderly by.kept =
    all_found IsOrderly number by.kept lab.records by.is_found within.orderly in
    let exact : IsByForm lab.forms by.kept =
    all_found (IsByForm lab.forms) number by.kept lab.records by.is_found within.by_form in
    let signed : Lab = record lab {
      persons = with_person person lab.persons;
      sessions = with_session (signed_session session) lab.sessions;
    } in
    subst (λ one. IsCaseWithin lab (signature_case lab session person one)) (sym by.is) (
      record_within signed by.kept.number (signed_in by.version.origin.number signature) by.kept
          (own_number lab number by.kept by.is_found) (λ one. refl)
          (signed_orderly by.version.origin.number signature by.kept orderly) exact
          (session_within (record lab { persons = with_person person lab.persons })
          (signed_session session) session found refl (person_within lab person within)),
      refl,
    )

pub signing_within : (lab : Lab) (moment : ℕ) (session : Session) (number version : ℕ)
    (digest : List ℕ) (signing : Signing) (attempt : Result Person Failure)
    → session_of lab.sessions session.token ≡ Some session → IsWithin lab
    → IsCaseWithin lab (signing_by lab moment session number version digest signing attempt)
signing_within lab moment session number version digest signing (Err failure) found within =
    record {}
signing_within lab moment session number version digest signing (Ok person) found within =
    then_case_within lab (signing_record lab.code (record_of lab.records number) version digest
    signing person moment) (signature_case lab session person)
    (λ made is. signature_within lab session person number version digest signing moment made is
    found within)
