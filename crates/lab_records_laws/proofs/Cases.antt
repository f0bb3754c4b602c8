-- What each command's own case tells: which deed, or which failed password.
use Rattle.std.proofs.Common.{◌≡◌, ℕ, ◌+◌, Bool, true, false, cond, not, List, [], ◌∷◌, length, Option, Some, None, Result, Ok, Err, refl, sym, ◌∙◌, ap, subst}
use Rattle.std.specs.Prelude.{◌||◌, ◌&&◌, nat_le, nat_lt, is_some, is_none, bytes_eq}
use Rattle.std.specs.Cmp.{unsigned_Decides}
use Rattle.std.specs.Option.{option_map_or}
use Rattle.lab_forms.specs.Forms.{FormSheet, form_eq}
use Rattle.lab_forms_texts.specs.declared.tick.Tick.{Tick}
use Rattle.lab_forms_texts.specs.Ordinals.{ordinal_of}
use Rattle.lab_people_access.specs.declared.persons.Person.{Person}
use Rattle.lab_people_access.specs.declared.sessions.Session.{Session}
use Rattle.lab_people_access.specs.declared.sessions.Closing.TheVariants.{Nothing}
use Rattle.lab_people_access.specs.declared.refusals.Failure.{Failure}
use Rattle.lab_people_access.specs.declared.refusals.Failure.TheVariants.{Counted, Locking, AlreadyLocked, Stray}
use Rattle.lab_people_access.specs.declared.refusals.PeopleFault.TheVariants.{Refused as IsRefused}
use Rattle.lab_people_access.specs.declared.refusals.PeopleRefusal.{PeopleRefusal}
use Rattle.lab_people_access.specs.declared.refusals.PeopleRefusal.TheVariants.{RandomRepeated, BadPassword, SamePassword, CodeTaken, LabFull, NoSuchPerson, OwnIssue}
use Rattle.lab_people_access.specs.declared.roles.Roles.{Roles}
use Rattle.lab_people_access.specs.Attempts.{failure_count, failures_to_lock, counted_person, locked_person, attempt_by, attempt_of, is_own_code, signing_attempt}
use Rattle.lab_people_access.specs.Openings.{token_digest, numbered_opening, opening_by, opening}
use Rattle.lab_people_access.specs.Passwords.{is_set, accepts, is_password}
use Rattle.lab_people_access.specs.Persons.{newcomer, person_of, person_limit, is_locked, unlocked_person}
use Rattle.lab_people.specs.Accounts.{enrolling, setting_roles, retiring, unlocking, changing, changing_by, with_new_password, meant_then}
use Rattle.lab_people.specs.Issues.{asking, confirming}
use Rattle.lab_people.specs.declared.accounts.Effect.{Effect}
use Rattle.lab_records_kept.specs.declared.labs.Lab.{Lab}
use Rattle.lab_records_kept.specs.declared.records.FormVersion.{FormVersion}
use Rattle.lab_records_kept.specs.declared.records.Record.{Record as KeptRecord}
use Rattle.lab_records_kept.specs.declared.records.Version.{Version}
use Rattle.lab_records_kept.specs.declared.trails.Deed.{Deed}
use Rattle.lab_records_kept.specs.declared.trails.Deed.TheVariants.{Refuse, Lock, Password as PasswordDeed, Enrol as EnrolDeed, Issue as IssueDeed, Confirm as ConfirmDeed, Roles as RolesDeed, Retire as RetireDeed, Unlock as UnlockDeed, Form as FormDeed, Entry as EntryDeed, Amend as AmendDeed, Sign as SignDeed}
use Rattle.lab_records_kept.specs.declared.trails.Occasion.{Occasion}
use Rattle.lab_records_kept.specs.declared.trails.Occasion.TheVariants.{Opening, Changing, Signing as AtSigning}
use Rattle.lab_records_kept.specs.declared.trails.TrailRow.{TrailRow}
use Rattle.lab_records_kept.specs.Limits.{form_version_limit, row_limit, version_limit}
use Rattle.lab_records_kept.specs.Lookups.{last_form, exact_form, record_of, record_about, person_at, session_at, last_of, version_of, is_numbered}
use Rattle.lab_records_kept.specs.Values.{version_state}
use Rattle.lab_records_rules.specs.declared.items.Item.{Item}
use Rattle.lab_records_rules.specs.declared.outcomes.Signing.{Signing}
use Rattle.lab_records_rules.specs.declared.outcomes.EntryMade.{EntryMade}
use Rattle.lab_records_rules.specs.declared.outcomes.AmendmentMade.{AmendmentMade}
use Rattle.lab_records_rules.specs.declared.outcomes.SignatureMade.{SignatureMade}
use Rattle.lab_records_rules.specs.declared.refusals.Refusal.{Refusal}
use Rattle.lab_records_rules.specs.declared.refusals.Refusal.TheVariants.{People, NothingAltered, NotOpen, ReasonWanted, AmendmentOpen, CodeWanted}
use Rattle.lab_records_rules.specs.Making.{form_version, making, opening_record}
use Rattle.lab_records_rules.specs.Reading.{reading_form, reading_record, reading_version}
use Rattle.lab_records_versions.specs.Entering.{is_open, has_settled, entered_row, item_refusal, has_value, entry_made, entering_of, entering, next_version, amendment_made, first_altered_refusal, amending_by, amending_of, amending}
use Rattle.lab_records_versions.specs.Signing.{is_code_wanted, version_refusal, signed_meaning, new_signature, signature_made, signing_version, signing_record}
use Rattle.lab_records_machine.specs.declared.commands.Command.{Command}
use Rattle.lab_records_machine.specs.declared.commands.Command.TheVariants.{Open, In}
use Rattle.lab_records_machine.specs.declared.commands.SessionCommand.{SessionCommand}
use Rattle.lab_records_machine.specs.declared.commands.SessionCommand.TheVariants.{OnAccount, OnRecord, Reading}
use Rattle.lab_records_machine.specs.declared.commands.AccountCommand.TheVariants.{Close, ChangePassword, Enrol, AskIssue, ConfirmIssue, SetRoles, Retire, Unlock}
use Rattle.lab_records_machine.specs.declared.commands.RecordCommand.TheVariants.{MakeForm, OpenRecord, Enter, Amend, Sign}
use Rattle.lab_records_machine.specs.declared.commands.ReadingCommand.TheVariants.{ReadPersons, ReadForm, ReadRecord, ReadVersion, ReadRecords, ReadTrail, TakeCopy}
use Rattle.lab_records_machine.specs.declared.replies.Reply.{Reply}
use Rattle.lab_records_machine.specs.declared.replies.Reply.TheVariants.{FormRead, RecordRead, VersionRead}
use Rattle.lab_records_machine.specs.Cases.{Case, Refuses, Fails, Reads, Makes}
use Rattle.lab_records_machine.specs.Own.{own_on_account, own_on_record, own_reading, own, then_case, then_person, then_read, opened_case, opening_case, changed_case, enrolled_case, asked_case, confirmed_case, roles_case, retired_case, unlocked_case, form_case, record_case, entry_case, amendment_case, signature_case, signing_by}
use Rattle.lab_records_laws.proofs.LimitLast.{found_passes}
use Rattle.lab_records_laws.proofs.KeepPersons.{found_code}
use Rattle.lab_records_laws.proofs.KeepRecords.{found_number}
use Rattle.lab_records_laws.proofs.KeepCases.{IsAbout, asked_about, confirmed_about, roles_about, retired_about, unlocked_about}
use Rattle.lab_records_laws.specs.Telling.{is_accepted, deed_of, is_told, occasion_of, failure_deeds}
use Rattle.lab_records_laws.proofs.Rooms.{deeds_told, IsOf}
use Rattle.lab_records_laws.proofs.Others.{is_other, ErrOther, PersonOther, enrolling_other, asking_other, confirming_other, setting_other, retiring_other, unlocking_other, making_other, record_other, form_other, reading_other, version_other, entering_other, amending_other, signing_other}

-- ---- what a case tells

-- a failed password of an account, for which the command gave one
pub record IsFailureOf (holder : Option Person) (moment : ℕ) (code : List ℕ) (command : Command)
    (occasion : Occasion) (failure : Failure) : Type 0 where
  pub told : deeds_told occasion failure ≡ failure_deeds holder moment occasion
  pub of : IsOf code failure
  pub asked : occasion_of command ≡ Some occasion

-- a deed of the command
pub record IsDeedOf (trail : List TrailRow) (code : List ℕ) (command : Command) (reply : Reply)
    (deed : Deed) (after : Lab) : Type 0 where
  pub told : is_told command ≡ true
  pub accepted : is_accepted reply ≡ true
  pub done : deed_of code command reply ≡ Some deed
  pub same : after.trail ≡ trail

-- on an account and a trail, by whoever has the code
abbrev pub CaseTells : Option Person → List TrailRow → ℕ → List ℕ → Command → Case → Type 0
CaseTells holder trail moment code command (Refuses refusal) = is_other refusal ≡ true
CaseTells holder trail moment code command (Fails occasion failure) =
    IsFailureOf holder moment code command occasion failure
CaseTells holder trail moment code command (Reads reply) =
    (is_told command ≡ false) × (is_accepted reply ≡ true)
CaseTells holder trail moment code command (Makes reply deed after) =
    IsDeedOf trail code command reply deed after

after_case : {A : Type 0} (holder : Option Person) (trail : List TrailRow) (moment : ℕ)
    (code : List ℕ) (command : Command) (result : Result A Refusal) (next : A → Case)
    → ErrOther result
    → ((value : A) → result ≡ Ok value → CaseTells holder trail moment code command (next value))
    → CaseTells holder trail moment code command (then_case result next)
after_case holder trail moment code command (Err refusal) next other tells = other
after_case holder trail moment code command (Ok value) next other tells = tells value refl

after_person : {A : Type 0} (holder : Option Person) (trail : List TrailRow) (moment : ℕ)
    (code : List ℕ) (command : Command) (result : Result A PeopleRefusal) (next : A → Case)
    → PersonOther result
    → ((value : A) → result ≡ Ok value → CaseTells holder trail moment code command (next value))
    → CaseTells holder trail moment code command (then_person result next)
after_person holder trail moment code command (Err refusal) next other tells = other
after_person holder trail moment code command (Ok value) next other tells = tells value refl

after_read : {A : Type 0} (holder : Option Person) (trail : List TrailRow) (moment : ℕ)
    (code : List ℕ) (command : Command) (result : Result A Refusal) (reply : A → Reply)
    → ErrOther result → is_told command ≡ false
    → ((value : A) → is_accepted (reply value) ≡ true)
    → CaseTells holder trail moment code command (then_read result reply)
after_read holder trail moment code command (Err refusal) reply other read accepted = other
after_read holder trail moment code command (Ok value) reply other read accepted =
    (read, accepted value)

-- ---- passwords

-- what comes of a failed password is of the code, and tells of these deeds
abbrev FailureTells : (Occasion → List Deed) → List ℕ → Result Person Failure → Type 0
FailureTells deeds code (Ok one) = Unit {0}
FailureTells deeds code (Err failure) =
    IsOf code failure × ((occasion : Occasion) → deeds_told occasion failure ≡ deeds occasion)

tests_tell : (stray locked accepted few : Bool) (person : Person) (count moment : ℕ)
    → FailureTells (λ occasion. cond stray []
    (cond (not locked && not few) (Refuse occasion ∷ Lock person.code ∷ []) (Refuse occasion ∷ [])))
    person.code
    (cond stray (Err Stray) (cond locked (Err (AlreadyLocked person))
    (cond accepted (Ok (unlocked_person person))
    (Err (cond few (Counted (counted_person count person))
    (Locking (locked_person moment person)))))))
tests_tell true locked accepted few person count moment = (tt, λ occasion. refl)
tests_tell false true accepted few person count moment = (refl, λ occasion. refl)
tests_tell false false true few person count moment = tt
tests_tell false false false true person count moment = (refl, λ occasion. refl)
tests_tell false false false false person count moment = (refl, λ occasion. refl)

attempt_tells : (person : Person) (is_own : Bool) (text : List ℕ) (moment : ℕ)
    → FailureTells (failure_deeds (Some person) moment) person.code
    (attempt_by person is_own text moment)
unfolding attempt_by
attempt_tells person is_own text moment =
    let count = failure_count person.locked person.failures + 1 in
    tests_tell (person.retired || not (is_set person.password)) (is_locked person.locked moment)
    (is_own && accepts person.password text moment) (nat_lt count failures_to_lock) person count
    moment

-- ---- openings

opened_by : (repeated : Bool) (number : Option ℕ) (holder : Option Person) (lab : Lab)
    (code password : List ℕ) (tick : Tick) (one : Person)
    → CaseTells holder lab.trail tick.moment code (Open code password)
    (opened_case lab (cond repeated (Err (IsRefused RandomRepeated))
    (numbered_opening number code tick one)))
opened_by true number holder lab code password tick one = refl
opened_by false None holder lab code password tick one = refl
opened_by false (Some number) holder lab code password tick one =
    record { told = refl; accepted = refl; done = refl; same = refl }

-- a failed password of the person who has the code
opening_by_tells : (lab : Lab) (code password : List ℕ) (tick : Tick) (person : Person)
    (attempt : Result Person Failure) (sessions : ℕ) (repeated : Option Session)
    → FailureTells (failure_deeds (Some person) tick.moment) code attempt
    → CaseTells (Some person) lab.trail tick.moment code (Open code password)
    (opened_case lab (opening_by attempt code tick sessions repeated))
opening_by_tells lab code password tick person (Err failure) sessions repeated tells =
    record { told = tells.1 Opening; of = tells.0; asked = refl }
opening_by_tells lab code password tick person (Ok one) sessions repeated tells =
    opened_by (is_some repeated) (ordinal_of (sessions + 1)) (Some person) lab code password tick one

opening_found : (lab : Lab) (code password : List ℕ) (tick : Tick) (found : Option Person)
    (sessions : ℕ) (repeated : Option Session) → person_of lab.persons code ≡ found
    → CaseTells found lab.trail tick.moment code (Open code password)
    (opened_case lab (opening_by (attempt_of found password tick.moment) code tick sessions repeated))
opening_found lab code password tick None sessions repeated there =
    record { told = refl; of = tt; asked = refl }
opening_found lab code password tick (Some person) sessions repeated there =
    opening_by_tells lab code password tick person
    (attempt_by person true password tick.moment) sessions repeated
    (subst (λ one. FailureTells (failure_deeds (Some person) tick.moment) one
    (attempt_by person true password tick.moment)) (found_code lab.persons code person there)
    (attempt_tells person true password tick.moment))

pub opening_tells : (lab : Lab) (tick : Tick) (code password : List ℕ)
    → CaseTells (person_at lab code) lab.trail tick.moment code (Open code password)
    (opening_case lab tick code password)
unfolding opening
opening_tells lab tick code password =
    opening_found lab code password tick (person_at lab code) (length lab.sessions)
    (session_at lab (token_digest tick)) refl

-- ---- the own password

changed_by : (bad same : Bool) (lab : Lab) (caller one : Person) (session : Session)
    (old new : List ℕ) (tick : Tick) → one.code ≡ caller.code
    → CaseTells (Some caller) lab.trail tick.moment caller.code
    (In (OnAccount (ChangePassword old new)))
    (changed_case lab tick.moment (cond bad (Err (IsRefused BadPassword))
    (cond same (Err (IsRefused SamePassword)) (Ok (with_new_password one session new tick)))))
changed_by true same lab caller one session old new tick is = refl
changed_by false true lab caller one session old new tick is = refl
changed_by false false lab caller one session old new tick is = record {
  told = refl;
  accepted = refl;
  done = ap (λ code. Some (PasswordDeed code)) (sym is);
  same = refl;
}

-- whoever gives the right password is the same person
abbrev pub KeepsCode : List ℕ → Result Person Failure → Type 0
KeepsCode code (Ok one) = one.code ≡ code
KeepsCode code (Err failure) = Unit {0}

tests_keep : (stray locked accepted few : Bool) (person : Person) (count moment : ℕ)
    → KeepsCode person.code
    (cond stray (Err Stray) (cond locked (Err (AlreadyLocked person))
    (cond accepted (Ok (unlocked_person person))
    (Err (cond few (Counted (counted_person count person))
    (Locking (locked_person moment person)))))))
tests_keep true locked accepted few person count moment = tt
tests_keep false true accepted few person count moment = tt
tests_keep false false true few person count moment = refl
tests_keep false false false few person count moment = tt

attempt_keeps : (person : Person) (is_own : Bool) (text : List ℕ) (moment : ℕ)
    → KeepsCode person.code (attempt_by person is_own text moment)
unfolding attempt_by
attempt_keeps person is_own text moment =
    let count = failure_count person.locked person.failures + 1 in
    tests_keep (person.retired || not (is_set person.password)) (is_locked person.locked moment)
    (is_own && accepts person.password text moment) (nat_lt count failures_to_lock) person count
    moment

changing_by_tells : (lab : Lab) (caller : Person) (session : Session) (old new : List ℕ)
    (tick : Tick) (attempt : Result Person Failure)
    → FailureTells (failure_deeds (Some caller) tick.moment) caller.code attempt
    → KeepsCode caller.code attempt
    → CaseTells (Some caller) lab.trail tick.moment caller.code
    (In (OnAccount (ChangePassword old new)))
    (changed_case lab tick.moment (changing_by attempt session old new tick))
changing_by_tells lab caller session old new tick (Err failure) tells keeps =
    record { told = tells.1 Changing; of = tells.0; asked = refl }
changing_by_tells lab caller session old new tick (Ok one) tells keeps =
    changed_by (not (is_password new)) (bytes_eq new old) lab caller one session old new tick keeps

changing_tells : (lab : Lab) (caller : Person) (session : Session) (old new : List ℕ) (tick : Tick)
    → CaseTells (Some caller) lab.trail tick.moment caller.code
    (In (OnAccount (ChangePassword old new)))
    (changed_case lab tick.moment (changing caller session old new tick))
unfolding changing
changing_tells lab caller session old new tick =
    changing_by_tells lab caller session old new tick (attempt_by caller true old tick.moment)
    (attempt_tells caller true old tick.moment) (attempt_keeps caller true old tick.moment)

-- ---- accounts

enrolled_by : (taken full : Bool) (next person : Person)
    → cond taken (Err CodeTaken) (cond full (Err LabFull) (Ok next)) ≡ Ok person → next ≡ person
enrolled_by true full next person h = absurd (cc)
enrolled_by false true next person h = absurd (cc)
enrolled_by false false next person h = cc

enrolled_is : (code name : List ℕ) (roles : Roles) (holder : Option Person) (persons : ℕ)
    (person : Person) → enrolling code name roles holder persons ≡ Ok person
    → newcomer code name roles ≡ person
unfolding enrolling
enrolled_is code name roles holder persons person h =
    enrolled_by (is_some holder) (nat_le person_limit persons) (newcomer code name roles) person h

-- a person who was meant by a code has it
about_code : (persons : List Person) (code : List ℕ) (person : Person)
    → IsAbout (person_of persons code) person → code ≡ person.code
about_code persons code person about =
    sym (about.same.same.code ∙ found_code persons code about.found about.there)

-- the roles are those that were given
roles_by : (retired own : Bool) (person : Person) (roles : Roles) (effect : Effect)
    → meant_then (cond retired (Err NoSuchPerson) (cond own (Err OwnIssue) (Ok person)))
    (λ found. Ok (record { person = record found { roles = roles }; closing = Nothing })) ≡ Ok effect
    → roles ≡ effect.person.roles
roles_by true own person roles effect h = absurd (cc)
roles_by false true person roles effect h = absurd (cc)
roles_by false false person roles effect h =
    let set : Effect = record { person = record person { roles = roles }; closing = Nothing } in
    let is : set ≡ effect = cc in
    subst (λ (one : Effect). roles ≡ one.person.roles) is refl

setting_sets : (caller : List ℕ) (holder : Option Person) (roles : Roles) (effect : Effect)
    → setting_roles caller holder roles ≡ Ok effect → roles ≡ effect.person.roles
unfolding setting_roles
setting_sets caller None roles effect h = absurd (cc)
setting_sets caller (Some person) roles effect h =
    roles_by person.retired (bytes_eq person.code caller) person roles effect h

-- ---- forms

made_by : (same full : Bool) (next form : FormVersion)
    → cond same (Err NothingAltered) (cond full (Err (People LabFull)) (Ok next)) ≡ Ok form
    → next ≡ form
made_by true full next form h = absurd (cc)
made_by false true next form h = absurd (cc)
made_by false false next form h = cc

making_code : (code : List ℕ) (sheet : FormSheet) (last : Option FormVersion) (form : FormVersion)
    → making code sheet last ≡ Ok form → code ≡ form.code
making_code code sheet None form h =
    let is : form_version code 1 sheet ≡ form = cc in
    subst (λ one. code ≡ one.code) is refl
making_code code sheet (Some last) form h =
    let is = made_by (form_eq last.form sheet) (nat_le form_version_limit last.version)
    (form_version code (last.version + 1) sheet) form h in
    subst (λ one. code ≡ one.code) is refl

-- ---- entries

entered_by : (opens : Bool) (refusal : Option Refusal) (wanted full : Bool) (next made : EntryMade)
    → cond (not opens) (Err NotOpen) (option_map_or Err refusal (cond wanted (Err ReasonWanted)
    (cond full (Err (People LabFull)) (Ok next)))) ≡ Ok made
    → next ≡ made
entered_by false refusal wanted full next made h = absurd (cc)
entered_by true (Some refusal) wanted full next made h = absurd (cc)
entered_by true None true full next made h = absurd (cc)
entered_by true None false true next made h = absurd (cc)
entered_by true None false false next made h = cc

-- what was entered has the record's number and the item's key
abbrev IsEntry : ℕ → Item → EntryMade → Type 0
IsEntry number item made = (number ≡ made.number) × (item.key ≡ made.row.key)

entered_last : (lab : List ℕ) (kept : KeptRecord) (last : Option Version) (item : Item)
    (reason : Option (List ℕ)) (person : List ℕ) (moment : ℕ) (made : EntryMade)
    → entering_of lab kept last item reason person moment ≡ Ok made → IsEntry kept.number item made
entered_last lab kept None item reason person moment made h = absurd (cc)
entered_last lab kept (Some last) item reason person moment made h =
    let next = entry_made lab kept last (entered_row item reason person moment) in
    subst (IsEntry kept.number item)
    (entered_by (is_open (version_state kept last)) (item_refusal kept item)
    (has_value kept item.key && is_none reason) (nat_le row_limit (length last.rows)) next made h)
    (refl, refl)

entered_found : (records : List KeptRecord) (number : ℕ) (lab : List ℕ) (found : Option KeptRecord)
    (item : Item) (reason : Option (List ℕ)) (person : List ℕ) (moment : ℕ) (made : EntryMade)
    → record_of records number ≡ found → entering lab found item reason person moment ≡ Ok made
    → IsEntry number item made
entered_found records number lab None item reason person moment made there h = absurd (cc)
entered_found records number lab (Some kept) item reason person moment made there h =
    let is = entered_last lab kept (last_of kept.versions) item reason person moment made h in
    (sym (found_number records number kept there) ∙ is.0, is.1)

-- ---- amendments

amended_by : (refusal : Option Refusal) (full : Bool) (next made : AmendmentMade)
    → option_map_or Err refusal (cond full (Err (People LabFull)) (Ok next)) ≡ Ok made
    → next ≡ made
amended_by (Some refusal) full next made h = absurd (cc)
amended_by None true next made h = absurd (cc)
amended_by None false next made h = cc

settled_by : (settled : Bool) (next : Result AmendmentMade Refusal) (made : AmendmentMade)
    → cond (not settled) (Err AmendmentOpen) next ≡ Ok made → next ≡ Ok made
settled_by true next made h = h
settled_by false next made h = absurd (cc)

amended_reason : (lab : List ℕ) (kept : KeptRecord) (last : Version) (reason : Option (List ℕ))
    (altered : List Item) (person : List ℕ) (moment : ℕ) (made : AmendmentMade)
    → amending_by lab kept last reason altered person moment ≡ Ok made
    → kept.number ≡ made.number
amended_reason lab kept last None altered person moment made h = absurd (cc)
amended_reason lab kept last (Some reason) [] person moment made h = absurd (cc)
amended_reason lab kept last (Some reason) (one ∷ others) person moment made h =
    let next = amendment_made lab kept
    (next_version lab kept last reason (one ∷ others) person moment) in
    subst (λ (it : AmendmentMade). kept.number ≡ it.number)
    (amended_by (first_altered_refusal kept (one ∷ others))
    (nat_le version_limit last.origin.number || nat_lt row_limit (length (one ∷ others))) next made h)
    refl

amended_last : (lab : List ℕ) (kept : KeptRecord) (last : Option Version)
    (reason : Option (List ℕ)) (altered : List Item) (person : List ℕ) (moment : ℕ)
    (made : AmendmentMade) → amending_of lab kept last reason altered person moment ≡ Ok made
    → kept.number ≡ made.number
amended_last lab kept None reason altered person moment made h = absurd (cc)
amended_last lab kept (Some last) reason altered person moment made h =
    amended_reason lab kept last reason altered person moment made
    (settled_by (has_settled (version_state kept last))
    (amending_by lab kept last reason altered person moment) made h)

amended_found : (records : List KeptRecord) (number : ℕ) (lab : List ℕ) (found : Option KeptRecord)
    (reason : Option (List ℕ)) (altered : List Item) (person : List ℕ) (moment : ℕ)
    (made : AmendmentMade) → record_of records number ≡ found
    → amending lab found reason altered person moment ≡ Ok made → number ≡ made.number
amended_found records number lab None reason altered person moment made there h = absurd (cc)
amended_found records number lab (Some kept) reason altered person moment made there h =
    sym (found_number records number kept there)
    ∙ amended_last lab kept (last_of kept.versions) reason altered person moment made h

-- ---- signatures

signed_by : (refusal : Option Refusal) (next made : SignatureMade)
    → option_map_or Err refusal (Ok next) ≡ Ok made → next ≡ made
signed_by (Some refusal) next made h = absurd (cc)
signed_by None next made h = cc

-- what was signed has the numbers and the meaning
record IsSigned (number version : ℕ) (signing : Signing) (made : SignatureMade) : Type 0 where
  pub record_is : number ≡ made.number
  pub version_is : version ≡ made.version
  pub meaning_is : signed_meaning signing ≡ made.signature.meaning

signed_version : (lab : List ℕ) (kept : KeptRecord) (number : ℕ) (version : Option Version)
    (digest : List ℕ) (signing : Signing) (person : Person) (moment : ℕ) (made : SignatureMade)
    → version_of kept.versions number ≡ version
    → signing_version lab kept version digest signing person moment ≡ Ok made
    → IsSigned kept.number number signing made
signed_version lab kept number None digest signing person moment made there h = absurd (cc)
signed_version lab kept number (Some version) digest signing person moment made there h =
    let own : version.origin.number ≡ number = (unsigned_Decides version.origin.number number).0
    (found_passes (is_numbered number) version kept.versions there) in
    subst (IsSigned kept.number number signing)
    (signed_by (version_refusal lab kept version digest signing person.code)
    (signature_made kept version (new_signature lab person signing moment digest)) made h)
    (record { record_is = refl; version_is = sym own; meaning_is = refl })

signed_found : (records : List KeptRecord) (number version : ℕ) (lab : List ℕ)
    (found : Option KeptRecord) (digest : List ℕ) (signing : Signing) (person : Person) (moment : ℕ)
    (made : SignatureMade) → record_of records number ≡ found
    → signing_record lab found version digest signing person moment ≡ Ok made
    → IsSigned number version signing made
signed_found records number version lab None digest signing person moment made there h = absurd (cc)
signed_found records number version lab (Some kept) digest signing person moment made there h =
    let is = signed_version lab kept version (version_of kept.versions version) digest signing person
    moment made refl h in
    record {
      record_is = sym (found_number records number kept there) ∙ is.record_is;
      version_is = is.version_is;
      meaning_is = is.meaning_is;
    }

-- what a signature tells
signature_deed : (number version : ℕ) (signing : Signing) (made : SignatureMade)
    → IsSigned number version signing made
    → Some (SignDeed number version (signed_meaning signing))
    ≡ Some (SignDeed made.number made.version made.signature.meaning)
signature_deed number version signing made is =
    ap (λ one. Some (SignDeed one version (signed_meaning signing))) is.record_is
    ∙ ap (λ one. Some (SignDeed made.number one (signed_meaning signing))) is.version_is
    ∙ ap (λ one. Some (SignDeed made.number made.version one)) is.meaning_is

signing_by_tells : (lab : Lab) (moment : ℕ) (session : Session) (caller : Person)
    (number version : ℕ) (digest : List ℕ) (signing : Signing) (password : List ℕ)
    (code : Option (List ℕ)) (attempt : Result Person Failure)
    → FailureTells (failure_deeds (Some caller) moment) caller.code attempt
    → CaseTells (Some caller) lab.trail moment caller.code
    (In (OnRecord (Sign number version digest signing password code)))
    (signing_by lab moment session number version digest signing attempt)
signing_by_tells lab moment session caller number version digest signing password code (Err failure) tells =
    record { told = tells.1 AtSigning; of = tells.0; asked = refl }
signing_by_tells lab moment session caller number version digest signing password code (Ok one) tells =
    after_case (Some caller) lab.trail moment caller.code
    (In (OnRecord (Sign number version digest signing password code)))
    (signing_record lab.code (record_of lab.records number) version digest signing one moment)
    (signature_case lab session one)
    (signing_other lab.code (record_of lab.records number) version digest signing one moment)
    (λ made h. record {
      told = refl;
      accepted = refl;
      done = signature_deed number version signing made
          (signed_found lab.records number version lab.code (record_of lab.records number) digest
          signing one moment made refl h);
      same = refl;
    })

signing_wanted : (wanted : Bool) (holder : Option Person) (trail : List TrailRow) (moment : ℕ)
    (code : List ℕ) (command : Command) (case : Case)
    → CaseTells holder trail moment code command case
    → CaseTells holder trail moment code command (cond wanted (Refuses CodeWanted) case)
signing_wanted true holder trail moment code command case tells = refl
signing_wanted false holder trail moment code command case tells = tells

-- ---- each command

abbrev OwnTells : Lab → Tick → Person → SessionCommand → Case → Type 0
OwnTells lab tick caller command case =
    CaseTells (Some caller) lab.trail tick.moment caller.code (In command) case

-- by an account that is set
set_tells : {A : Type 0} (lab : Lab) (tick : Tick) (caller : Person) (command : SessionCommand)
    (result : Result A PeopleRefusal) (next : A → Case) → PersonOther result
    → ((value : A) → result ≡ Ok value → OwnTells lab tick caller command (next value))
    → OwnTells lab tick caller command (then_person result next)
set_tells lab tick caller command result next other tells =
    after_person (Some caller) lab.trail tick.moment caller.code (In command) result next other tells

case_tells : {A : Type 0} (lab : Lab) (tick : Tick) (caller : Person) (command : SessionCommand)
    (result : Result A Refusal) (next : A → Case) → ErrOther result
    → ((value : A) → result ≡ Ok value → OwnTells lab tick caller command (next value))
    → OwnTells lab tick caller command (then_case result next)
case_tells lab tick caller command result next other tells =
    after_case (Some caller) lab.trail tick.moment caller.code (In command) result next other tells

pub own_tells : (lab : Lab) (tick : Tick) (session : Session) (caller : Person)
    (command : SessionCommand)
    → OwnTells lab tick caller command (own lab tick session caller command)
unfolding own_on_account own_on_record own_reading
own_tells lab tick session caller (OnAccount Close) =
    record { told = refl; accepted = refl; done = refl; same = refl }
own_tells lab tick session caller (OnAccount (ChangePassword old new)) =
    changing_tells lab caller session old new tick
own_tells lab tick session caller (OnAccount (Enrol code name roles)) =
    set_tells lab tick caller _ (enrolling code name roles (person_at lab code) (length lab.persons))
    (enrolled_case lab) (enrolling_other code name roles (person_at lab code) (length lab.persons))
    (λ person h. record {
      told = refl;
      accepted = refl;
      done = ap (λ (one : Person). Some (EnrolDeed one.code one.roles))
          (enrolled_is code name roles (person_at lab code) (length lab.persons) person h);
      same = refl;
    })
own_tells lab tick session caller (OnAccount (AskIssue code)) =
    set_tells lab tick caller _ (asking caller.code (person_at lab code) tick) (asked_case lab)
    (asking_other caller.code (person_at lab code) tick) (λ issued h. record {
      told = refl;
      accepted = refl;
      done = ap (λ one. Some (IssueDeed one)) (about_code lab.persons code issued.person
          (asked_about caller.code (person_at lab code) tick issued h));
      same = refl;
    })
own_tells lab tick session caller (OnAccount (ConfirmIssue code)) =
    set_tells lab tick caller _ (confirming caller.code (person_at lab code) tick)
    (confirmed_case lab) (confirming_other caller.code (person_at lab code) tick)
    (λ issued h. record {
      told = refl;
      accepted = refl;
      done = ap (λ one. Some (ConfirmDeed one)) (about_code lab.persons code issued.person
          (confirmed_about caller.code (person_at lab code) tick issued h));
      same = refl;
    })
own_tells lab tick session caller (OnAccount (SetRoles code roles)) =
    set_tells lab tick caller _ (setting_roles caller.code (person_at lab code) roles)
    (roles_case lab) (setting_other caller.code (person_at lab code) roles) (λ effect h. record {
      told = refl;
      accepted = refl;
      done = ap (λ one. Some (RolesDeed one roles)) (about_code lab.persons code effect.person
          (roles_about caller.code (person_at lab code) roles effect h))
          ∙ ap (λ one. Some (RolesDeed effect.person.code one))
          (setting_sets caller.code (person_at lab code) roles effect h);
      same = refl;
    })
own_tells lab tick session caller (OnAccount (Retire code)) =
    set_tells lab tick caller _ (retiring caller.code (person_at lab code)) (retired_case lab)
    (retiring_other caller.code (person_at lab code)) (λ effect h. record {
      told = refl;
      accepted = refl;
      done = ap (λ one. Some (RetireDeed one)) (about_code lab.persons code effect.person
          (retired_about caller.code (person_at lab code) effect h));
      same = refl;
    })
own_tells lab tick session caller (OnAccount (Unlock code)) =
    set_tells lab tick caller _ (unlocking caller.code (person_at lab code)) (unlocked_case lab)
    (unlocking_other caller.code (person_at lab code)) (λ effect h. record {
      told = refl;
      accepted = refl;
      done = ap (λ one. Some (UnlockDeed one)) (about_code lab.persons code effect.person
          (unlocked_about caller.code (person_at lab code) effect h));
      same = refl;
    })
own_tells lab tick session caller (OnRecord (MakeForm code form)) =
    case_tells lab tick caller _ (making code form (last_form lab.forms code)) (form_case lab)
    (making_other code form (last_form lab.forms code)) (λ made h. record {
      told = refl;
      accepted = refl;
      done = ap (λ one. Some (FormDeed one made.version))
          (making_code code form (last_form lab.forms code) made h);
      same = refl;
    })
own_tells lab tick session caller (OnRecord (OpenRecord form sample)) =
    case_tells lab tick caller _
    (opening_record (last_form lab.forms form) (record_about lab.records form sample) sample
    caller.code tick.moment (length lab.records)) (record_case lab)
    (record_other (last_form lab.forms form) (record_about lab.records form sample) sample
    caller.code tick.moment (length lab.records))
    (λ kept h. record { told = refl; accepted = refl; done = refl; same = refl })
own_tells lab tick session caller (OnRecord (Enter number item reason)) =
    case_tells lab tick caller _
    (entering lab.code (record_of lab.records number) item reason caller.code tick.moment)
    (entry_case lab)
    (entering_other lab.code (record_of lab.records number) item reason caller.code tick.moment)
    (λ made h.
    let is = entered_found lab.records number lab.code (record_of lab.records number) item reason
    caller.code tick.moment made refl h in
    record {
      told = refl;
      accepted = refl;
      done = ap (λ one. Some (EntryDeed one made.version item.key)) is.0
          ∙ ap (λ one. Some (EntryDeed made.number made.version one)) is.1;
      same = refl;
    })
own_tells lab tick session caller (OnRecord (Amend number reason altered)) =
    case_tells lab tick caller _
    (amending lab.code (record_of lab.records number) reason altered caller.code tick.moment)
    (amendment_case lab)
    (amending_other lab.code (record_of lab.records number) reason altered caller.code tick.moment)
    (λ made h. record {
      told = refl;
      accepted = refl;
      done = ap (λ one. Some (AmendDeed one made.version.origin.number))
          (amended_found lab.records number lab.code (record_of lab.records number) reason altered
          caller.code tick.moment made refl h);
      same = refl;
    })
own_tells lab tick session caller (OnRecord (Sign number version digest signing password code)) =
    signing_wanted (is_code_wanted session code) (Some caller) lab.trail tick.moment caller.code
    (In (OnRecord (Sign number version digest signing password code)))
    (signing_by lab tick.moment session number version digest signing
    (signing_attempt caller code password tick.moment))
    (signing_by_tells lab tick.moment session caller number version digest signing password code
    (signing_attempt caller code password tick.moment)
    (attempt_tells caller (is_own_code code caller) password tick.moment))
own_tells lab tick session caller (Reading ReadPersons) = (refl, refl)
own_tells lab tick session caller (Reading (ReadForm code version)) =
    after_read (Some caller) lab.trail tick.moment caller.code _
    (reading_form (exact_form lab.forms code version)) FormRead
    (form_other (exact_form lab.forms code version)) refl (λ value. refl)
own_tells lab tick session caller (Reading (ReadRecord number)) =
    after_read (Some caller) lab.trail tick.moment caller.code _
    (reading_record lab.code (record_of lab.records number)) RecordRead
    (reading_other lab.code (record_of lab.records number)) refl (λ value. refl)
own_tells lab tick session caller (Reading (ReadVersion number version)) =
    after_read (Some caller) lab.trail tick.moment caller.code _
    (reading_version lab.code (record_of lab.records number) version) VersionRead
    (version_other lab.code (record_of lab.records number) version) refl (λ value. refl)
own_tells lab tick session caller (Reading (ReadRecords from to)) = (refl, refl)
own_tells lab tick session caller (Reading (ReadTrail from to)) = (refl, refl)
own_tells lab tick session caller (Reading (TakeCopy from to)) = (refl, refl)
