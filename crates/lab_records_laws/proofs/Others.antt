-- No refusal but that of a failed password is told as `credentials`.
use Rattle.std.proofs.Common.{◌≡◌, ◌≢◌, ℕ, Bool, true, false, cond, not, List, [], ◌∷◌, length, Option, Some, None, Result, Ok, Err, ◌==◌, refl, subst}
use Rattle.std.specs.Prelude.{◌||◌, ◌&&◌, nat_le, nat_lt, is_some, is_none, bytes_eq}
use Rattle.std.specs.List.{list_any}
use Rattle.std.specs.Option.{option_map_or}
use Rattle.lab_forms.specs.Forms.{FormSheet, form_eq, value_refusal}
use Rattle.lab_forms.specs.declared.faults.FormRefusal.{FormRefusal}
use Rattle.lab_forms_texts.specs.declared.tick.Tick.{Tick}
use Rattle.lab_people_access.specs.declared.persons.Ask.{Ask}
use Rattle.lab_people_access.specs.declared.persons.Person.{Person}
use Rattle.lab_people_access.specs.declared.policy.Rule.{Rule}
use Rattle.lab_people_access.specs.declared.refusals.PeopleRefusal.{PeopleRefusal}
use Rattle.lab_people_access.specs.declared.refusals.PeopleRefusal.TheVariants.{Credentials, PasswordDue, RoleWanted}
use Rattle.lab_people_access.specs.declared.roles.Roles.{Roles}
use Rattle.lab_people_access.specs.Passwords.{is_due}
use Rattle.lab_people_access.specs.Persons.{person_limit, standing_ask}
use Rattle.lab_people_access.specs.Policy.{denial, is_barred_by_due, is_open_to}
use Rattle.lab_people.specs.Accounts.{enrolling, person_meant, meant_then, setting_roles, retiring, unlocking}
use Rattle.lab_people.specs.Issues.{asking, confirming, confirming_of, is_anothers}
use Rattle.lab_seal_versions.specs.declared.states.State.{State}
use Rattle.lab_seal_versions.specs.declared.states.State.TheVariants.{Open, Signed, Reviewed, Released, Rejected}
use Rattle.lab_records_kept.specs.declared.records.FormVersion.{FormVersion}
use Rattle.lab_records_kept.specs.declared.records.Record.{Record}
use Rattle.lab_records_kept.specs.declared.records.Version.{Version}
use Rattle.lab_records_kept.specs.Digests.{digest_of}
use Rattle.lab_records_kept.specs.Lookups.{last_of, version_of}
use Rattle.lab_records_kept.specs.Values.{rows_to, altered_at, has_entered, version_state}
use Rattle.lab_records_kept.specs.Limits.{form_version_limit, record_limit, row_limit, version_limit}
use Rattle.lab_records_rules.specs.declared.refusals.Refusal.{Refusal}
use Rattle.lab_records_rules.specs.declared.refusals.Refusal.TheVariants.{People, Form, OwnWork}
use Rattle.lab_records_rules.specs.declared.items.Item.{Item}
use Rattle.lab_records_rules.specs.declared.outcomes.Signing.{Signing}
use Rattle.lab_records_rules.specs.declared.outcomes.Signing.TheVariants.{Authorship, Review, Rejection, Approval}
use Rattle.lab_records_rules.specs.Making.{making, opening_record}
use Rattle.lab_records_rules.specs.Reading.{reading_form, reading_record, reading_found, reading_version}
use Rattle.lab_records_versions.specs.Entering.{is_open, has_settled, item_refusal, has_value, is_unaltered, altered_refusal, first_altered_refusal, entering_of, entering, amending_by, amending_of, amending}
use Rattle.lab_records_versions.specs.Signing.{approval_refusal, state_refusal, signer_refusal, is_second, is_missing, content_refusal, reason_refusal, or_else, version_refusal, signing_version, signing_record}

-- ---- what is none of `credentials`

abbrev pub is_other : Refusal → Bool
is_other (People Credentials) = false
is_other refusal = true

pub other_is : (refusal : Refusal) → is_other refusal ≡ true → refusal ≢ People Credentials
other_is refusal other h =
    let none : false ≡ true = subst (λ one. is_other one ≡ true) h other in
    absurd (cc)

-- of an outcome's refusal, of one of persons, and of a refusal where there is one
abbrev pub ErrOther : {A : Type 0} → Result A Refusal → Type 0
ErrOther (Err refusal) = is_other refusal ≡ true
ErrOther (Ok value) = Unit {0}

abbrev pub PersonOther : {A : Type 0} → Result A PeopleRefusal → Type 0
PersonOther (Err refusal) = is_other (People refusal) ≡ true
PersonOther (Ok value) = Unit {0}

abbrev pub SomeOther : Option Refusal → Type 0
SomeOther (Some refusal) = is_other refusal ≡ true
SomeOther None = Unit {0}

either : {A : Type 0} (Holds : A → Type 0) (is : Bool) (one other : A) → Holds one → Holds other
    → Holds (cond is one other)
either Holds true one other holds holds' = holds
either Holds false one other holds holds' = holds'

-- ---- persons

denied_by : (due closed : Bool) (rule : Rule) (refusal : PeopleRefusal)
    → cond due (Some PasswordDue) (cond closed (Some (RoleWanted rule)) None) ≡ Some refusal
    → is_other (People refusal) ≡ true
denied_by true closed rule refusal h =
    let is : PasswordDue ≡ refusal = cc in
    subst (λ one. is_other (People one) ≡ true) is refl
denied_by false true rule refusal h =
    let is : RoleWanted rule ≡ refusal = cc in
    subst (λ one. is_other (People one) ≡ true) is refl
denied_by false false rule refusal h = absurd (cc)

pub denial_other : (person : Person) (rule : Rule) (moment : ℕ) (refusal : PeopleRefusal)
    → denial person rule moment ≡ Some refusal → is_other (People refusal) ≡ true
unfolding denial
denial_other person rule moment refusal h =
    denied_by (is_barred_by_due rule && is_due person.password moment)
    (not (is_open_to rule person.roles)) rule refusal h

pub enrolling_other : (code name : List ℕ) (roles : Roles) (holder : Option Person) (persons : ℕ)
    → PersonOther (enrolling code name roles holder persons)
unfolding enrolling
enrolling_other code name roles holder persons =
    either PersonOther (is_some holder) _ _ refl
    (either PersonOther (nat_le person_limit persons) _ _ refl tt)

-- what follows where somebody is meant
then_other : {A : Type 0} (caller : List ℕ) (holder : Option Person)
    (next : Person → Result A PeopleRefusal) → ((found : Person) → PersonOther (next found))
    → PersonOther (meant_then (person_meant caller holder) next)
then_other caller None next others = refl
then_other caller (Some person) next others =
    either (λ meant. PersonOther (meant_then meant next)) person.retired _ _ refl
    (either (λ meant. PersonOther (meant_then meant next)) (bytes_eq person.code caller) _ _ refl
    (others person))

pub asking_other : (caller : List ℕ) (holder : Option Person) (tick : Tick)
    → PersonOther (asking caller holder tick)
unfolding asking
asking_other caller holder tick =
    then_other caller holder _ (λ found.
    either PersonOther (is_anothers caller (standing_ask found.ask tick.moment)) _ _ refl tt)

confirmed_other : (caller : List ℕ) (tick : Tick) (person : Person) (ask : Option Ask)
    → PersonOther (confirming_of caller tick person ask)
confirmed_other caller tick person None = refl
confirmed_other caller tick person (Some ask) =
    either PersonOther (bytes_eq ask.asker caller) _ _ refl tt

pub confirming_other : (caller : List ℕ) (holder : Option Person) (tick : Tick)
    → PersonOther (confirming caller holder tick)
unfolding confirming
confirming_other caller holder tick =
    then_other caller holder _ (λ found.
    confirmed_other caller tick found (standing_ask found.ask tick.moment))

pub setting_other : (caller : List ℕ) (holder : Option Person) (roles : Roles)
    → PersonOther (setting_roles caller holder roles)
unfolding setting_roles
setting_other caller holder roles = then_other caller holder _ (λ found. tt)

pub retiring_other : (caller : List ℕ) (holder : Option Person)
    → PersonOther (retiring caller holder)
unfolding retiring
retiring_other caller holder = then_other caller holder _ (λ found. tt)

pub unlocking_other : (caller : List ℕ) (holder : Option Person)
    → PersonOther (unlocking caller holder)
unfolding unlocking
unlocking_other caller holder = then_other caller holder _ (λ found. tt)

-- ---- forms and records

pub making_other : (code : List ℕ) (form : FormSheet) (last : Option FormVersion)
    → ErrOther (making code form last)
making_other code form None = tt
making_other code form (Some last) =
    either ErrOther (form_eq last.form form) _ _ refl
    (either ErrOther (nat_le form_version_limit last.version) _ _ refl tt)

pub record_other : (form : Option FormVersion) (found : Option Record) (sample caller : List ℕ)
    (moment records : ℕ) → ErrOther (opening_record form found sample caller moment records)
record_other None found sample caller moment records = refl
record_other (Some form) (Some kept) sample caller moment records = refl
record_other (Some form) None sample caller moment records =
    either ErrOther (nat_le record_limit records) _ _ refl tt

pub form_other : (found : Option FormVersion) → ErrOther (reading_form found)
form_other None = refl
form_other (Some form) = tt

pub reading_other : (lab : List ℕ) (found : Option Record) → ErrOther (reading_record lab found)
reading_other lab None = refl
reading_other lab (Some kept) = tt

found_other : (lab : List ℕ) (kept : Record) (found : Option Version)
    → ErrOther (reading_found lab kept found)
found_other lab kept None = refl
found_other lab kept (Some version) = tt

pub version_other : (lab : List ℕ) (found : Option Record) (number : ℕ)
    → ErrOther (reading_version lab found number)
version_other lab None number = refl
version_other lab (Some kept) number =
    found_other lab kept (version_of kept.versions number)

-- what is refused first, if anything is
first_other : {A : Type 0} (refusal : Option Refusal) (next : Result A Refusal) → SomeOther refusal
    → ErrOther next → ErrOther (option_map_or Err refusal next)
first_other (Some refusal) next other others = other
first_other None next other others = others

-- a refusal of a form is none of persons
of_form : (found : Option FormRefusal)
    → SomeOther (option_map_or (λ refusal. Some (Form refusal)) found None)
of_form None = tt
of_form (Some refusal) = refl

item_other : (kept : Record) (item : Item) → SomeOther (item_refusal kept item)
item_other kept item = of_form (value_refusal kept.form.form.fields item.key item.value item.unit)

entered_other : (lab : List ℕ) (kept : Record) (last : Option Version) (item : Item)
    (reason : Option (List ℕ)) (caller : List ℕ) (moment : ℕ)
    → ErrOther (entering_of lab kept last item reason caller moment)
entered_other lab kept None item reason caller moment = refl
entered_other lab kept (Some version) item reason caller moment =
    either ErrOther (not (is_open (version_state kept version))) _ _ refl
    (first_other (item_refusal kept item) _ (item_other kept item)
    (either ErrOther (has_value kept item.key && is_none reason) _ _ refl
    (either ErrOther (nat_le row_limit (length version.rows)) _ _ refl tt)))

pub entering_other : (lab : List ℕ) (found : Option Record) (item : Item)
    (reason : Option (List ℕ)) (caller : List ℕ) (moment : ℕ)
    → ErrOther (entering lab found item reason caller moment)
entering_other lab None item reason caller moment = refl
entering_other lab (Some kept) item reason caller moment =
    entered_other lab kept (last_of kept.versions) item reason caller moment

or_else_other : (one next : Option Refusal) → SomeOther one → SomeOther next
    → SomeOther (or_else one next)
or_else_other (Some refusal) next other others = other
or_else_other None next other others = others

-- the first of two, by the option's own word
map_or_other : (one next : Option Refusal) → SomeOther one → SomeOther next
    → SomeOther (option_map_or Some one next)
map_or_other (Some refusal) next other others = other
map_or_other None next other others = others

altered_other : (kept : Record) (item : Item) → SomeOther (altered_refusal kept item)
altered_other kept item =
    map_or_other (item_refusal kept item) _ (item_other kept item)
    (either SomeOther (is_unaltered kept item) _ _ refl tt)

first_altered_other : (kept : Record) (altered : List Item)
    → SomeOther (first_altered_refusal kept altered)
first_altered_other kept [] = tt
first_altered_other kept (one ∷ others) =
    map_or_other (altered_refusal kept one) _ (altered_other kept one)
    (first_altered_other kept others)

amended_other : (lab : List ℕ) (kept : Record) (last : Version) (reason : Option (List ℕ))
    (altered : List Item) (caller : List ℕ) (moment : ℕ)
    → ErrOther (amending_by lab kept last reason altered caller moment)
amended_other lab kept last None altered caller moment = refl
amended_other lab kept last (Some reason) [] caller moment = refl
amended_other lab kept last (Some reason) (one ∷ others) caller moment =
    first_other (first_altered_refusal kept (one ∷ others)) _
    (first_altered_other kept (one ∷ others))
    (either ErrOther
    (nat_le version_limit last.origin.number || nat_lt row_limit (length (one ∷ others))) _ _ refl tt)

settled_other : (lab : List ℕ) (kept : Record) (last : Option Version) (reason : Option (List ℕ))
    (altered : List Item) (caller : List ℕ) (moment : ℕ)
    → ErrOther (amending_of lab kept last reason altered caller moment)
settled_other lab kept None reason altered caller moment = refl
settled_other lab kept (Some last) reason altered caller moment =
    either ErrOther (not (has_settled (version_state kept last))) _ _ refl
    (amended_other lab kept last reason altered caller moment)

pub amending_other : (lab : List ℕ) (found : Option Record) (reason : Option (List ℕ))
    (altered : List Item) (caller : List ℕ) (moment : ℕ)
    → ErrOther (amending lab found reason altered caller moment)
amending_other lab None reason altered caller moment = refl
amending_other lab (Some kept) reason altered caller moment =
    settled_other lab kept (last_of kept.versions) reason altered caller moment

-- ---- signatures

approval_other : (signing : Signing) (approval : Bool) → SomeOther (approval_refusal signing approval)
approval_other Authorship approval = tt
approval_other Review approval = tt
approval_other (Rejection reason) approval = tt
approval_other Approval true = tt
approval_other Approval false = refl

state_other : (signing : Signing) (state : Option State) → SomeOther (state_refusal signing state)
state_other Authorship None = refl
state_other Authorship (Some Open) = tt
state_other Authorship (Some Signed) = refl
state_other Authorship (Some Reviewed) = refl
state_other Authorship (Some Released) = refl
state_other Authorship (Some Rejected) = refl
state_other Review None = refl
state_other Review (Some Open) = refl
state_other Review (Some Signed) = tt
state_other Review (Some Reviewed) = refl
state_other Review (Some Released) = refl
state_other Review (Some Rejected) = refl
state_other (Rejection reason) None = refl
state_other (Rejection reason) (Some Open) = refl
state_other (Rejection reason) (Some Signed) = tt
state_other (Rejection reason) (Some Reviewed) = tt
state_other (Rejection reason) (Some Released) = refl
state_other (Rejection reason) (Some Rejected) = refl
state_other Approval None = refl
state_other Approval (Some Open) = refl
state_other Approval (Some Signed) = refl
state_other Approval (Some Reviewed) = tt
state_other Approval (Some Released) = refl
state_other Approval (Some Rejected) = refl

later_other : (version : Version) (person : List ℕ)
    → SomeOther (cond (has_entered person version || is_second person version.signatures)
    (Some OwnWork) None)
later_other version person =
    either SomeOther (has_entered person version || is_second person version.signatures) _ _ refl tt

signer_other : (signing : Signing) (version : Version) (person : List ℕ)
    → SomeOther (signer_refusal signing version person)
signer_other Authorship version person = either SomeOther (has_entered person version) _ _ tt refl
signer_other Review version person = later_other version person
signer_other (Rejection reason) version person = later_other version person
signer_other Approval version person = later_other version person

content_other : (signing : Signing) (kept : Record) (number : ℕ)
    → SomeOther (content_refusal signing kept number)
content_other Authorship kept number =
    either SomeOther (list_any (is_missing (rows_to number kept)) kept.form.form.fields) _ _ refl
    (either SomeOther (not (number == 1) && (length (altered_at kept number) == 0)) _ _ refl tt)
content_other Review kept number = tt
content_other (Rejection reason) kept number = tt
content_other Approval kept number = tt

reason_other : (signing : Signing) → SomeOther (reason_refusal signing)
reason_other Authorship = tt
reason_other Review = tt
reason_other (Rejection None) = refl
reason_other (Rejection (Some reason)) = tt
reason_other Approval = tt

version_refusal_other : (lab : List ℕ) (kept : Record) (version : Version) (digest : List ℕ)
    (signing : Signing) (person : List ℕ)
    → SomeOther (version_refusal lab kept version digest signing person)
version_refusal_other lab kept version digest signing person =
    or_else_other _ _ (approval_other signing kept.form.form.approval)
    (or_else_other _ _ (state_other signing (version_state kept version))
    (or_else_other _ _
    (either SomeOther (bytes_eq digest (digest_of lab kept version)) _ _ tt refl)
    (or_else_other _ _ (signer_other signing version person)
    (or_else_other _ _ (content_other signing kept version.origin.number)
    (reason_other signing)))))

signed_other : (lab : List ℕ) (kept : Record) (version : Option Version) (digest : List ℕ)
    (signing : Signing) (person : Person) (moment : ℕ)
    → ErrOther (signing_version lab kept version digest signing person moment)
signed_other lab kept None digest signing person moment = refl
signed_other lab kept (Some version) digest signing person moment =
    first_other _ _ (version_refusal_other lab kept version digest signing person.code) tt

pub signing_other : (lab : List ℕ) (found : Option Record) (version : ℕ) (digest : List ℕ)
    (signing : Signing) (person : Person) (moment : ℕ)
    → ErrOther (signing_record lab found version digest signing person moment)
signing_other lab None version digest signing person moment = refl
signing_other lab (Some kept) version digest signing person moment =
    signed_other lab kept (version_of kept.versions version) digest signing person moment
