-- Each command: the changes that it comes to fit the laboratory after the request.
use Rattle.std.proofs.Common.{◌≡◌, ℕ, Bool, true, false, not, cond, List, length, Option, Some, Result, Ok, Err, refl, ap}
use Rattle.std.specs.Prelude.{is_some, bytes_eq}
use Rattle.lab_forms_texts.specs.declared.tick.Tick.{Tick}
use Rattle.lab_seal_hashes.specs.Words.{salt_of}
use Rattle.lab_people_access.specs.declared.persons.Person.{Person}
use Rattle.lab_people_access.specs.declared.sessions.Session.{Session}
use Rattle.lab_people_access.specs.declared.refusals.Failure.{Failure}
use Rattle.lab_people_access.specs.declared.refusals.PeopleFault.TheVariants.{Refused as IsRefused}
use Rattle.lab_people_access.specs.declared.refusals.PeopleRefusal.TheVariants.{BadPassword, SamePassword}
use Rattle.lab_people_access.specs.Attempts.{attempt_by, is_own_code, signing_attempt}
use Rattle.lab_people_access.specs.Passwords.{is_password, chosen_password}
use Rattle.lab_people_access.specs.Persons.{person_of}
use Rattle.lab_people_access.specs.Sessions.{session_of, signed_session}
use Rattle.lab_people.specs.Accounts.{with_new_password, changing_by, changing, enrolling, setting_roles, retiring, unlocking}
use Rattle.lab_people.specs.Issues.{asking, confirming}
use Rattle.lab_records_kept.specs.declared.labs.Lab.{Lab}
use Rattle.lab_records_kept.specs.declared.changes.Change.TheVariants.{PersonSet, SessionSet}
use Rattle.lab_records_kept.specs.Changes.{IsKnown, Fits, change}
use Rattle.lab_records_kept.specs.Lookups.{last_form, exact_form, record_of, record_about, person_at}
use Rattle.lab_records_rules.specs.declared.outcomes.Signing.{Signing}
use Rattle.lab_records_rules.specs.declared.refusals.Refusal.TheVariants.{CodeWanted}
use Rattle.lab_records_rules.specs.Making.{making, opening_record}
use Rattle.lab_records_versions.specs.Entering.{entering, amending}
use Rattle.lab_records_rules.specs.Reading.{reading_form, reading_record, reading_version}
use Rattle.lab_records_versions.specs.Signing.{is_code_wanted, signing_record}
use Rattle.lab_records_machine.specs.declared.commands.Command.TheVariants.{In}
use Rattle.lab_records_machine.specs.declared.commands.SessionCommand.{SessionCommand}
use Rattle.lab_records_machine.specs.declared.commands.SessionCommand.TheVariants.{OnAccount, OnRecord, Reading}
use Rattle.lab_records_machine.specs.declared.commands.AccountCommand.TheVariants.{Close, ChangePassword, Enrol, AskIssue, ConfirmIssue, SetRoles, Retire, Unlock}
use Rattle.lab_records_machine.specs.declared.commands.RecordCommand.TheVariants.{MakeForm, OpenRecord, Enter, Amend, Sign}
use Rattle.lab_records_machine.specs.declared.commands.ReadingCommand.TheVariants.{ReadPersons, ReadForm, ReadRecord, ReadVersion, ReadRecords, ReadTrail, TakeCopy}
use Rattle.lab_records_machine.specs.declared.replies.Reply.TheVariants.{FormRead, RecordRead, VersionRead}
use Rattle.lab_records_machine.specs.Machine.{touched}
use Rattle.lab_records_laws.specs.Asking.{IsCommandFormed}
use Rattle.lab_records_laws.proofs.FitLemmas.{form_fits, record_fits, entry_fits, amendment_fits}
use Rattle.lab_records_laws.proofs.FitSignatures.{signature_fits}
use Rattle.lab_records_laws.proofs.FitPersons.{enrolled_fits, session_fits, closed_fits, signed_fits}
use Rattle.lab_records_laws.proofs.FitAccounts.{roles_fit, retired_fits, unlocked_fits, asked_fits, confirmed_fits}
use Rattle.lab_records_laws.proofs.FitAttempts.{FitsAttempt, attempt_fits}
use Rattle.lab_records_machine.specs.Done.{done_on_account, done_on_record, done_reading, done_of, changed_done, enrolled_done, asked_done, confirmed_done, roles_done, retired_done, unlocked_done, form_done, record_done, entry_done, amendment_done, signature_done, signing_done}
use Rattle.lab_records_laws.proofs.Joining.{set_known, change_knows}
use Rattle.lab_records_laws.proofs.OwnCases.{slice_for}
use Rattle.lab_records_laws.proofs.CaseFits.{FitsDone, then_done_fits, then_person_fits, then_read_fits, wanted_fits, person_adds, renewed_fits}

-- ---- the own password

changed_tests : (bad same : Bool) (Premise : Type 0) (lab : Lab) (caller : List ℕ) (person : Person)
    (session : Session) (new : List ℕ) (tick : Tick) → Fits lab (PersonSet person)
    → session_of lab.sessions session.token ≡ Some session → IsKnown lab caller
    → FitsDone Premise lab caller (changed_done tick.moment (cond bad (Err (IsRefused BadPassword))
    (cond same (Err (IsRefused SamePassword)) (Ok (with_new_password person session new tick)))))
changed_tests true same Premise lab caller person session new tick fits found known = tt
changed_tests false true Premise lab caller person session new tick fits found known = tt
changed_tests false false Premise lab caller person session new tick fits found known =
    let made = with_new_password person session new tick in
    let renewed : Fits lab (PersonSet made.person) =
    renewed_fits lab person (chosen_password new (salt_of tick.words) tick.moment) fits in
    let unmarked : Fits (change lab (PersonSet made.person)) (SessionSet made.session) =
    session_fits (change lab (PersonSet made.person)) made.session session found
    (record { number = refl; person = refl; token = refl; opened = refl }) in
    record { fits = λ given. (renewed, (unmarked, (tt, tt))); trail = refl; known = known }

changed_by : (Premise : Type 0) (lab : Lab) (caller : List ℕ) (session : Session)
    (old new : List ℕ) (tick : Tick)
    (result : Result Person Failure) → FitsAttempt lab result
    → session_of lab.sessions session.token ≡ Some session → IsKnown lab caller
    → FitsDone Premise lab caller
    (changed_done tick.moment (changing_by result session old new tick))
changed_by Premise lab caller session old new tick (Err failure) fits found known = fits
changed_by Premise lab caller session old new tick (Ok person) fits found known =
    changed_tests (not (is_password new)) (bytes_eq new old) Premise lab caller person session new
    tick fits found known

changing_fits : (Premise : Type 0) (lab : Lab) (caller : Person) (session : Session)
    (old new : List ℕ) (tick : Tick)
    → session_of lab.sessions session.token ≡ Some session
    → person_of lab.persons caller.code ≡ Some caller
    → FitsDone Premise lab caller.code
    (changed_done tick.moment (changing caller session old new tick))
unfolding changing
changing_fits Premise lab caller session old new tick found there =
    changed_by Premise lab caller.code session old new tick (attempt_by caller true old tick.moment)
    (attempt_fits lab caller.code caller true old tick.moment there) found (ap is_some there)

-- ---- a signature

signing_fits : (Premise : Type 0) (lab : Lab) (digest : Option (List ℕ)) (old : Session)
    (moment : ℕ)
    (session : Session) (caller : List ℕ) (number version : ℕ) (text : List ℕ) (signing : Signing)
    (password : List ℕ) (code : Option (List ℕ)) (result : Result Person Failure)
    → FitsAttempt (touched lab moment old) result
    → session_of (touched lab moment old).sessions session.token ≡ Some session
    → IsKnown lab caller
    → FitsDone Premise (touched lab moment old) caller
    (signing_done (slice_for lab digest (In (OnRecord (Sign number version text signing password code)))) moment
    session version text signing result)
signing_fits Premise lab digest old moment session caller number version text signing password code
    (Err failure) fits found known =
    fits
signing_fits Premise lab digest old moment session caller number version text signing password code
    (Ok person) fits found known =
    let now = touched lab moment old in
    let next = change now (PersonSet person) in
    let last = change next (SessionSet (signed_session session)) in
    let signer : IsKnown last person.code =
    change_knows now (PersonSet person) person.code fits (set_known now person fits) in
    then_done_fits Premise now caller
    (signing_record lab.code (record_of lab.records number) version text signing person moment)
    (signature_done session person) (λ made is. record {
      fits = λ given. (
        fits,
        (
          signed_fits next session found,
          (signature_fits last number version text signing person moment made is signer, tt),
        ),
      );
      trail = refl;
      known = known;
    })

-- ---- each command

pub own_fits : (Premise : Type 0) (lab : Lab) (digest : Option (List ℕ)) (old : Session)
    (tick : Tick)
    (session : Session) (caller : Person) (command : SessionCommand)
    → (Premise → IsCommandFormed (In command))
    → session_of (touched lab tick.moment old).sessions session.token ≡ Some session
    → person_of lab.persons caller.code ≡ Some caller
    → FitsDone Premise (touched lab tick.moment old) caller.code
    (done_of (slice_for lab digest (In command)) tick session caller command)
unfolding done_on_account done_on_record done_reading
own_fits Premise lab digest old tick session caller (OnAccount Close) formed found there =
    record {
      fits = λ given. (closed_fits (touched lab tick.moment old) session found, tt);
      trail = refl;
      known = ap is_some there;
    }
own_fits Premise lab digest old tick session caller (OnAccount (ChangePassword before after)) formed found
    there =
    changing_fits Premise (touched lab tick.moment old) caller session before after tick found there
own_fits Premise lab digest old tick session caller (OnAccount (Enrol code name roles)) formed found there =
    let now = touched lab tick.moment old in
    then_person_fits Premise now caller.code
    (enrolling code name roles (person_at lab code) (length lab.persons)) enrolled_done
    (λ person is. record {
      fits = λ given. (enrolled_fits now code name roles person is, tt);
      trail = refl;
      known = ap is_some there;
    })
own_fits Premise lab digest old tick session caller (Reading ReadPersons) formed found there = tt
own_fits Premise lab digest old tick session caller (OnAccount (AskIssue code)) formed found there =
    let now = touched lab tick.moment old in
    let known : IsKnown now caller.code = ap is_some there in
    then_person_fits Premise now caller.code (asking caller.code (person_at lab code) tick)
    asked_done
    (λ issued is. person_adds Premise now caller.code issued.person issued.closing
    (asked_fits now caller.code code tick issued is known) known)
own_fits Premise lab digest old tick session caller (OnAccount (ConfirmIssue code)) formed found there =
    let now = touched lab tick.moment old in
    then_person_fits Premise now caller.code (confirming caller.code (person_at lab code) tick)
    confirmed_done
    (λ issued is. person_adds Premise now caller.code issued.person issued.closing
    (confirmed_fits now caller.code code tick issued is) (ap is_some there))
own_fits Premise lab digest old tick session caller (OnAccount (SetRoles code roles)) formed found there =
    let now = touched lab tick.moment old in
    then_person_fits Premise now caller.code (setting_roles caller.code (person_at lab code) roles)
    roles_done
    (λ effect is. person_adds Premise now caller.code effect.person effect.closing
    (roles_fit now caller.code code roles effect is) (ap is_some there))
own_fits Premise lab digest old tick session caller (OnAccount (Retire code)) formed found there =
    let now = touched lab tick.moment old in
    then_person_fits Premise now caller.code (retiring caller.code (person_at lab code))
    retired_done
    (λ effect is. person_adds Premise now caller.code effect.person effect.closing
    (retired_fits now caller.code code effect is) (ap is_some there))
own_fits Premise lab digest old tick session caller (OnAccount (Unlock code)) formed found there =
    let now = touched lab tick.moment old in
    then_person_fits Premise now caller.code (unlocking caller.code (person_at lab code))
    unlocked_done
    (λ effect is. person_adds Premise now caller.code effect.person effect.closing
    (unlocked_fits now caller.code code effect is) (ap is_some there))
own_fits Premise lab digest old tick session caller (OnRecord (MakeForm code form)) formed found there =
    let now = touched lab tick.moment old in
    then_done_fits Premise now caller.code (making code form (last_form lab.forms code)) form_done
    (λ made is. record {
      fits = λ given. (form_fits now code form made is (formed given), tt);
      trail = refl;
      known = ap is_some there;
    })
own_fits Premise lab digest old tick session caller (Reading (ReadForm code version)) formed found there =
    let now = touched lab tick.moment old in
    then_read_fits Premise now caller.code (reading_form (exact_form lab.forms code version))
    FormRead
own_fits Premise lab digest old tick session caller (OnRecord (OpenRecord form sample)) formed found there =
    let now = touched lab tick.moment old in
    let known : IsKnown now caller.code = ap is_some there in
    then_done_fits Premise now caller.code (opening_record (last_form lab.forms form)
    (record_about lab.records form sample) sample caller.code tick.moment (length lab.records))
    record_done (λ kept is. record {
      fits = λ given. (record_fits now form sample caller.code tick.moment kept is known, tt);
      trail = refl;
      known = known;
    })
own_fits Premise lab digest old tick session caller (OnRecord (Enter number item reason)) formed found there =
    let now = touched lab tick.moment old in
    let known : IsKnown now caller.code = ap is_some there in
    then_done_fits Premise now caller.code
    (entering lab.code (record_of lab.records number) item reason caller.code tick.moment)
    entry_done (λ made is. record {
      fits = λ given. (entry_fits now number item reason caller.code tick.moment made is known, tt);
      trail = refl;
      known = known;
    })
own_fits Premise lab digest old tick session caller (OnRecord (Amend number reason altered)) formed found
    there =
    let now = touched lab tick.moment old in
    let known : IsKnown now caller.code = ap is_some there in
    then_done_fits Premise now caller.code
    (amending lab.code (record_of lab.records number) reason altered caller.code tick.moment)
    amendment_done (λ made is. record {
      fits = λ given. (
        amendment_fits now number reason altered caller.code tick.moment made is known,
        tt,
      );
      trail = refl;
      known = known;
    })
own_fits Premise lab digest old tick session caller
    (OnRecord (Sign number version text signing password code)) formed found there =
    let now = touched lab tick.moment old in
    let result = signing_attempt caller code password tick.moment in
    wanted_fits (is_code_wanted session code) Premise now caller.code CodeWanted
    (signing_done (slice_for lab digest (In (OnRecord (Sign number version text signing password code))))
    tick.moment session version text signing result)
    (signing_fits Premise lab digest old tick.moment session caller.code number version text signing
    password code result
    (attempt_fits now caller.code caller (is_own_code code caller) password tick.moment there)
    found (ap is_some there))
own_fits Premise lab digest old tick session caller (Reading (ReadRecord number)) formed found there =
    let now = touched lab tick.moment old in
    then_read_fits Premise now caller.code (reading_record lab.code (record_of lab.records number))
    RecordRead
own_fits Premise lab digest old tick session caller (Reading (ReadVersion number version)) formed found
    there =
    let now = touched lab tick.moment old in
    then_read_fits Premise now caller.code
    (reading_version lab.code (record_of lab.records number) version) VersionRead
own_fits Premise lab digest old tick session caller (Reading (ReadRecords from to)) formed found there = tt
own_fits Premise lab digest old tick session caller (Reading (ReadTrail from to)) formed found there = tt
own_fits Premise lab digest old tick session caller (Reading (TakeCopy from to)) formed found there = tt
