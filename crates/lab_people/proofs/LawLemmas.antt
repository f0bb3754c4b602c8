-- The laws of accounts, by cases on the tests of the definitions.
use Rattle.std.proofs.Common.{◌≡◌, ◌≢◌, ◌<◌, ◌+◌, ◌-◌, ℕ, suc, Bool, true, false, cond, ◌||◌, ◌&&◌, not, List, [], ◌∷◌, ◌++◌, length, Option, Some, None, Result, Ok, Err, refl, sym, ◌∙◌, ap, subst, nat_lt, nat_le, arith}
use Rattle.std.specs.Prelude.{bytes_eq, option_and_then, is_some}
use Rattle.std.proofs.lemmas.Slice.Eq.{bytes_eq-Decides}
use Rattle.std.proofs.lemmas.Bool.Decides.{nat_tests}
use Rattle.lab_forms_texts.specs.declared.tick.Tick.{Tick}
use Rattle.lab_forms_texts.specs.Ordinals.{ordinal_of}
use Rattle.lab_people_access.specs.declared.roles.Roles.{Roles}
use Rattle.lab_people_access.specs.declared.persons.Person.{Person}
use Rattle.lab_people_access.specs.declared.persons.Ask.{Ask}
use Rattle.lab_people_access.specs.declared.sessions.Session.{Session}
use Rattle.lab_people_access.specs.declared.sessions.Closing.TheVariants.{All}
use Rattle.lab_people_access.specs.declared.openings.Opened.{Opened}
use Rattle.lab_people_access.specs.declared.refusals.Failure.{Failure}
use Rattle.lab_people_access.specs.declared.refusals.Failure.TheVariants.{Counted, Locking, AlreadyLocked, Stray}
use Rattle.lab_people_access.specs.declared.refusals.PeopleFault.TheVariants.{Refused}
use Rattle.lab_people_access.specs.declared.refusals.PeopleRefusal.{PeopleRefusal}
use Rattle.lab_people_access.specs.declared.refusals.PeopleRefusal.TheVariants.{RandomRepeated, CodeTaken, LabFull, OwnIssue, SamePerson, NoSuchPerson}
use Rattle.lab_people_access.specs.Refusals.{failure_person, failure_closing}
use Rattle.lab_people_access.specs.Passwords.{is_set, accepts}
use Rattle.lab_people_access.specs.Persons.{newcomer, person_of, is_locked, unlocked_person, stands, standing_ask}
use Rattle.lab_people_access.specs.Sessions.{session_of, closed_session, sessions_after}
use Rattle.lab_people_access.specs.Attempts.{failure_count, failures_to_lock, counted_person, locked_person, failure_of, attempt_by, attempt_of, signing_attempt}
use Rattle.lab_people_access.specs.Openings.{new_opening, numbered_opening, opening_by, opening, token_digest}
use Rattle.lab_people.specs.Accounts.{enrolling, person_meant, meant_then, retiring}
use Rattle.lab_people.specs.Issues.{with_one_time_word, confirming_of}
use Rattle.lab_people.specs.declared.accounts.Effect.{Effect}
use Rattle.lab_people.specs.declared.issues.Issued.{Issued}
use Rattle.lab_people.specs.Laws.{Try, person_left, person_after, HasAccount, IsWrong, AreWrong, IsNewCode, IsNewToken, IsRuleRefusal, AreClosed, own_refusal}

-- Whom a command means.

same_bytes : (bytes : List ℕ) → bytes_eq bytes bytes ≡ true
same_bytes bytes = (bytes_eq-Decides bytes bytes).1 refl

differs : (same : Bool) (one other : List ℕ) → (same ≡ true → one ≡ other) → one ≢ other → same ≡ false
differs true one other is differ = absurd (differ (is refl))
differs false one other is differ = refl

pub other_bytes : (one other : List ℕ) → one ≢ other → bytes_eq one other ≡ false
other_bytes one other differ = differs (bytes_eq one other) one other (bytes_eq-Decides one other).0 differ

abbrev meant : Bool → Bool → Person → Result Person PeopleRefusal
meant retired own person = cond retired (Err NoSuchPerson) (cond own (Err OwnIssue) (Ok person))

own_by : (retired own : Bool) (person : Person) → own ≡ true
    → meant retired own person ≡ Err (cond retired NoSuchPerson OwnIssue)
own_by true own person h = refl
own_by false true person h = refl
own_by false false person h = absurd (cc)

-- nobody is meant by the own commands
pub own_meant : (person : Person) → person_meant person.code (Some person) ≡ Err (own_refusal person)
own_meant person = own_by person.retired (bytes_eq person.code person.code) person (same_bytes person.code)

retired_by : (retired own : Bool) (person : Person) → retired ≡ true → meant retired own person ≡ Err NoSuchPerson
retired_by true own person h = refl
retired_by false own person h = absurd (cc)

-- nor is who is retired
pub retired_meant : (caller : List ℕ) (person : Person) → person.retired ≡ true
    → person_meant caller (Some person) ≡ Err NoSuchPerson
retired_meant caller person h = retired_by person.retired (bytes_eq person.code caller) person h

-- what follows a refusal is that refusal
pub refused_then : {A : Type 0} (first : Result Person PeopleRefusal) (next : Person → Result A PeopleRefusal) (refusal : PeopleRefusal)
    → first ≡ Err refusal → meant_then first next ≡ Err refusal
refused_then first next refusal h = ap (λ one. meant_then one next) h

-- One-time words.

asked_same : (own : Bool) (ask : Ask) (tick : Tick) (person : Person) → own ≡ true
    → cond own (Err SamePerson) (Ok (with_one_time_word tick ask person)) ≡ Err SamePerson
asked_same true ask tick person h = refl
asked_same false ask tick person h = absurd (cc)

abbrev confirming_while : Bool → Ask → Tick → Person → Result Issued PeopleRefusal
confirming_while still ask tick person = confirming_of ask.asker tick person (cond still (Some ask) None)

stands_same : (still : Bool) (ask : Ask) (tick : Tick) (person : Person) → still ≡ true
    → confirming_while still ask tick person ≡ Err SamePerson
stands_same true ask tick person h = asked_same (bytes_eq ask.asker ask.asker) ask tick person (same_bytes ask.asker)
stands_same false ask tick person h = absurd (cc)

is_refused : {A : Type 0} (answer : Result A PeopleRefusal) (refusal : PeopleRefusal) → answer ≡ Err refusal → IsRuleRefusal answer
is_refused (Ok value) refusal h = absurd (cc)
is_refused (Err other) refusal h = record {}

asked_stands : (still : Bool) (ask : Ask) (tick : Tick) (person : Person) → IsRuleRefusal (confirming_while still ask tick person)
asked_stands true ask tick person = is_refused _ SamePerson (stands_same true ask tick person refl)
asked_stands false ask tick person = record {}

-- what was asked for is what the person has
asked_is : (one : Option Ask) (ask : Ask) (tick : Tick) (person : Person) → one ≡ Some ask
    → confirming_of ask.asker tick person (standing_ask one tick.moment) ≡ confirming_while (stands ask tick.moment) ask tick person
asked_is one ask tick person h = ap (λ left. confirming_of ask.asker tick person (standing_ask left tick.moment)) h

abbrev confirming_meant : Bool → Bool → Person → Ask → Tick → Result Issued PeopleRefusal
confirming_meant retired own person ask tick =
    meant_then (meant retired own person) (λ found. confirming_of ask.asker tick found (standing_ask found.ask tick.moment))

-- the asker's confirmation is refused
pub confirmed_meant : (retired own : Bool) (person : Person) (ask : Ask) (tick : Tick) → person.ask ≡ Some ask
    → IsRuleRefusal (confirming_meant retired own person ask tick)
confirmed_meant true own person ask tick h = record {}
confirmed_meant false true person ask tick h = record {}
confirmed_meant false false person ask tick h =
    subst (λ answer. IsRuleRefusal answer) (sym (asked_is person.ask ask tick person h)) (asked_stands (stands ask tick.moment) ask tick person)

-- and told as the same person's, where all else is right
pub confirmed_same : (retired own : Bool) (person : Person) (ask : Ask) (tick : Tick) → person.ask ≡ Some ask
    → retired ≡ false → own ≡ false → stands ask tick.moment ≡ true
    → confirming_meant retired own person ask tick ≡ Err SamePerson
confirmed_same true own person ask tick h here other still = absurd (cc)
confirmed_same false true person ask tick h here other still = absurd (cc)
confirmed_same false false person ask tick h here other still =
    asked_is person.ask ask tick person h ∙ stands_same (stands ask tick.moment) ask tick person still

-- Codes and tokens.

enrolled_by : (taken full : Bool) (person : Person) (code name : List ℕ) (roles : Roles)
    → cond taken (Err CodeTaken) (cond full (Err LabFull) (Ok (newcomer code name roles))) ≡ Ok person
    → (taken ≡ false) × (newcomer code name roles ≡ person)
enrolled_by true full person code name roles h = absurd (cc)
enrolled_by false true person code name roles h = absurd (cc)
enrolled_by false false person code name roles h = (refl, cc)

differ_by : (one other : List ℕ) → bytes_eq one other ≡ false → one ≢ other
differ_by one other h same = absurd (cc (h, (bytes_eq-Decides one other).1 same))

passed : {A : Type 0} (test : Bool) (one : A) (others : Option A) → is_some (cond test (Some one) others) ≡ false
    → (test ≡ false) × (is_some others ≡ false)
passed true one others h = absurd (cc)
passed false one others h = (refl, h)

new_code : (code : List ℕ) (persons : List Person) → is_some (person_of persons code) ≡ false → IsNewCode code persons
new_code code [] h = record {}
new_code code (person ∷ persons) h =
    let parts = passed (bytes_eq person.code code) person (person_of persons code) h in
    (differ_by person.code code parts.0, new_code code persons parts.1)

pub code_given : (persons : List Person) (code name : List ℕ) (roles : Roles) (person : Person)
    → enrolling code name roles (person_of persons code) (length persons) ≡ Ok person
    → (person.code ≡ code) × IsNewCode person.code persons
unfolding enrolling
code_given persons code name roles person h =
    let parts = enrolled_by (is_some (person_of persons code)) (nat_le 500 (length persons)) person code name roles h in
    let same : code ≡ person.code = ap (λ one. one.code) parts.1 in
    (sym same, subst (λ one. IsNewCode one persons) same (new_code code persons parts.0))

new_token : (digest : List ℕ) (sessions : List Session) → is_some (session_of sessions digest) ≡ false
    → IsNewToken digest sessions
new_token digest [] h = record {}
new_token digest (session ∷ sessions) h =
    let parts = passed (bytes_eq session.token digest) session (session_of sessions digest) h in
    (differ_by session.token digest parts.0, new_token digest sessions parts.1)

numbered : (number : Option ℕ) (code : List ℕ) (tick : Tick) (person : Person) (opened : Opened)
    → numbered_opening number code tick person ≡ Ok opened → token_digest tick ≡ opened.session.token
numbered None code tick person opened h = absurd (cc)
numbered (Some number) code tick person opened h =
    let same : new_opening number code tick person ≡ opened = cc in
    ap (λ one. one.session.token) same

opened_by : (repeated : Bool) (number : Option ℕ) (code : List ℕ) (tick : Tick) (person : Person) (opened : Opened)
    → cond repeated (Err (Refused RandomRepeated)) (numbered_opening number code tick person) ≡ Ok opened
    → (repeated ≡ false) × (token_digest tick ≡ opened.session.token)
opened_by true number code tick person opened h = absurd (cc)
opened_by false number code tick person opened h = (refl, numbered number code tick person opened h)

opened_after : (attempted : Result Person Failure) (code : List ℕ) (tick : Tick) (sessions : List Session) (opened : Opened)
    → opening_by attempted code tick (length sessions) (session_of sessions (token_digest tick)) ≡ Ok opened
    → IsNewToken opened.session.token sessions
opened_after (Err failure) code tick sessions opened h = absurd (cc)
opened_after (Ok person) code tick sessions opened h =
    let repeated = is_some (session_of sessions (token_digest tick)) in
    let parts = opened_by repeated (ordinal_of (length sessions + 1)) code tick person opened h in
    subst (λ one. IsNewToken one sessions) parts.1 (new_token (token_digest tick) sessions parts.0)

pub token_given : (sessions : List Session) (code text : List ℕ) (person : Option Person) (tick : Tick) (opened : Opened)
    → opening code person text tick (length sessions) (session_of sessions (token_digest tick)) ≡ Ok opened
    → IsNewToken opened.session.token sessions
unfolding opening
token_given sessions code text person tick opened h =
    opened_after (attempt_of person text tick.moment) code tick sessions opened h

-- Sessions.

closed_by_all : (own : Bool) (session : Session) → own ≡ true → (cond own (closed_session session) session).closed ≡ true
closed_by_all true session h = refl
closed_by_all false session h = absurd (cc)

person_kept : (own : Bool) (session : Session) → (cond own (closed_session session) session).person ≡ session.person
person_kept true session = refl
person_kept false session = refl

-- after all of a person's sessions were closed, none of them is open
pub all_closed : (person : List ℕ) (sessions : List Session) → AreClosed person (sessions_after All person sessions)
all_closed person [] = record {}
all_closed person (session ∷ sessions) =
    let own = bytes_eq session.person person in
    (λ same. closed_by_all own session ((bytes_eq-Decides session.person person).1 (sym (person_kept own session) ∙ same)), all_closed person sessions)

-- Passwords of a person who has an account.

not_stray_by : (retired set : Bool) → retired ≡ false → set ≡ true → (retired || not set) ≡ false
not_stray_by true set here is = absurd (cc)
not_stray_by false true here is = refl
not_stray_by false false here is = absurd (cc)

not_stray : (person : Person) → HasAccount person → (person.retired || not (is_set person.password)) ≡ false
not_stray person has = not_stray_by person.retired (is_set person.password) has.here has.set

abbrev tests : Bool → Bool → Bool → Person → ℕ → Result Person Failure
tests stray locked accepted person moment =
    cond stray (Err Stray) (cond locked (Err (AlreadyLocked person)) (cond accepted (Ok (unlocked_person person)) (Err (failure_of person moment))))

right_by : (stray locked accepted : Bool) (person : Person) (moment : ℕ) → stray ≡ false → locked ≡ false → accepted ≡ true
    → tests stray locked accepted person moment ≡ Ok (unlocked_person person)
right_by true locked accepted person moment a b c = absurd (cc)
right_by false true accepted person moment a b c = absurd (cc)
right_by false false true person moment a b c = refl
right_by false false false person moment a b c = absurd (cc)

wrong_by : (stray locked accepted : Bool) (person : Person) (moment : ℕ) → stray ≡ false → locked ≡ false → accepted ≡ false
    → tests stray locked accepted person moment ≡ Err (failure_of person moment)
wrong_by true locked accepted person moment a b c = absurd (cc)
wrong_by false true accepted person moment a b c = absurd (cc)
wrong_by false false true person moment a b c = absurd (cc)
wrong_by false false false person moment a b c = refl

kept_by : (stray locked accepted : Bool) (person : Person) (moment : ℕ) → stray ≡ false → locked ≡ true
    → tests stray locked accepted person moment ≡ Err (AlreadyLocked person)
kept_by true locked accepted person moment a b = absurd (cc)
kept_by false true accepted person moment a b = refl
kept_by false false accepted person moment a b = absurd (cc)

retired_by_tests : (retired unset locked accepted : Bool) (person : Person) (moment : ℕ) → retired ≡ true
    → tests (retired || unset) locked accepted person moment ≡ Err Stray
retired_by_tests true unset locked accepted person moment h = refl
retired_by_tests false unset locked accepted person moment h = absurd (cc)

-- no password of a retired person is accepted, and nobody is counted
pub retired_attempt : (person : Person) (is_own : Bool) (text : List ℕ) (moment : ℕ) → person.retired ≡ true
    → attempt_by person is_own text moment ≡ Err Stray
unfolding attempt_by
retired_attempt person is_own text moment h =
    retired_by_tests person.retired (not (is_set person.password)) (is_locked person.locked moment) (is_own && accepts person.password text moment) person moment h

-- a right password is accepted where there is no lock
pub right_attempt : (person : Person) (text : List ℕ) (moment : ℕ) → HasAccount person → is_locked person.locked moment ≡ false
    → accepts person.password text moment ≡ true → attempt_of (Some person) text moment ≡ Ok (unlocked_person person)
unfolding attempt_by
right_attempt person text moment has free right =
    right_by (person.retired || not (is_set person.password)) (is_locked person.locked moment) (accepts person.password text moment) person moment (not_stray person has) free right

-- a wrong one fails
wrong_attempt : (person : Person) (one : Try) → HasAccount person → is_locked person.locked one.moment ≡ false
    → IsWrong person one → attempt_of (Some person) one.text one.moment ≡ Err (failure_of person one.moment)
unfolding attempt_by
wrong_attempt person one has free wrong =
    wrong_by (person.retired || not (is_set person.password)) (is_locked person.locked one.moment) (accepts person.password one.text one.moment) person one.moment (not_stray person has) free wrong

-- a lock stays
pub locked_attempt : (person : Person) (is_own : Bool) (text : List ℕ) (moment : ℕ) → HasAccount person → is_locked person.locked moment ≡ true
    → attempt_by person is_own text moment ≡ Err (AlreadyLocked person)
unfolding attempt_by
locked_attempt person is_own text moment has locked =
    kept_by (person.retired || not (is_set person.password)) (is_locked person.locked moment) (is_own && accepts person.password text moment) person moment (not_stray person has) locked

-- another's code is as a wrong password
pub other_attempt : (person : Person) (code text wrong : List ℕ) (moment : ℕ) → code ≢ person.code
    → accepts person.password wrong moment ≡ false
    → signing_attempt person (Some code) text moment ≡ signing_attempt person None wrong moment
unfolding attempt_by
other_attempt person code text wrong moment other h =
    let result = λ (accepted : Bool). tests (person.retired || not (is_set person.password)) (is_locked person.locked moment) accepted person moment in
    ap (λ own. result (own && accepts person.password text moment)) (other_bytes code person.code other) ∙ ap result (sym h)

-- Locks.

abbrev ClosesAll : Failure → Person → List Session → Type 0
ClosesAll failure person sessions = AreClosed person.code (sessions_after (failure_closing failure) person.code sessions)

failed_locks : (few : Bool) (counted locked after person : Person) (moment : ℕ) (failure : Failure) (sessions : List Session)
    → is_locked counted.locked moment ≡ false
    → cond few (Counted counted) (Locking locked) ≡ failure → failure_person failure ≡ Some after
    → is_locked after.locked moment ≡ true → ClosesAll failure person sessions
failed_locks true counted locked after person moment failure sessions free is left lock =
    let same : Some counted ≡ Some after = ap failure_person is ∙ left in
    let one : counted ≡ after = cc in
    absurd (cc (free, lock, ap (λ one. is_locked one.locked moment) one))
failed_locks false counted locked after person moment failure sessions free is left lock =
    subst (λ one. ClosesAll one person sessions) is (all_closed person.code sessions)

tests_lock : (stray locked accepted : Bool) (person after : Person) (moment : ℕ) (failure : Failure) (sessions : List Session)
    → tests stray locked accepted person moment ≡ Err failure → failure_person failure ≡ Some after
    → locked ≡ false → is_locked after.locked moment ≡ true → ClosesAll failure person sessions
tests_lock true locked accepted person after moment failure sessions h left free lock =
    let same : Stray ≡ failure = cc in
    absurd (cc (ap failure_person same, left))
tests_lock false true accepted person after moment failure sessions h left free lock = absurd (cc)
tests_lock false false true person after moment failure sessions h left free lock = absurd (cc)
tests_lock false false false person after moment failure sessions h left free lock =
    let count = failure_count person.locked person.failures in
    let same : failure_of person moment ≡ failure = cc in
    failed_locks (nat_lt (count + 1) failures_to_lock) (counted_person (count + 1) person) (locked_person moment person) after person moment failure sessions refl same left lock

-- an attempt that locks a person closes all of the person's sessions
pub lock_closes : (person after : Person) (is_own : Bool) (text : List ℕ) (moment : ℕ) (failure : Failure) (sessions : List Session)
    → attempt_by person is_own text moment ≡ Err failure → failure_person failure ≡ Some after
    → is_locked person.locked moment ≡ false → is_locked after.locked moment ≡ true
    → AreClosed person.code (sessions_after (failure_closing failure) person.code sessions)
unfolding attempt_by
lock_closes person after is_own text moment failure sessions h left free lock =
    tests_lock (person.retired || not (is_set person.password)) (is_locked person.locked moment) (is_own && accepts person.password text moment) person after moment failure sessions h left free lock

-- Failures.

few_by : (few : Bool) (counted locked : Person) → few ≡ true → cond few (Counted counted) (Locking locked) ≡ Counted counted
few_by true counted locked h = refl
few_by false counted locked h = absurd (cc)

many_by : (few : Bool) (counted locked : Person) → few ≡ false → cond few (Counted counted) (Locking locked) ≡ Locking locked
many_by true counted locked h = absurd (cc)
many_by false counted locked h = refl

-- a wrong password with which too few count to lock
pub wrong_counted : (person : Person) (one : Try) (count : ℕ) → HasAccount person → is_locked person.locked one.moment ≡ false
    → IsWrong person one → failure_count person.locked person.failures ≡ count → nat_lt (count + 1) failures_to_lock ≡ true
    → person_left (attempt_of (Some person) one.text one.moment) ≡ Some (counted_person (count + 1) person)
wrong_counted person one count has free wrong counts few =
    let before = failure_count person.locked person.failures in
    ap person_left (wrong_attempt person one has free wrong)
    ∙ ap failure_person (few_by (nat_lt (before + 1) failures_to_lock) (counted_person (before + 1) person) (locked_person one.moment person) (ap (λ n. nat_lt (n + 1) failures_to_lock) counts ∙ few))
    ∙ ap (λ n. Some (counted_person (n + 1) person)) counts

-- and with which enough do
pub wrong_locks : (person : Person) (one : Try) (count : ℕ) → HasAccount person → is_locked person.locked one.moment ≡ false
    → IsWrong person one → failure_count person.locked person.failures ≡ count → nat_lt (count + 1) failures_to_lock ≡ false
    → attempt_of (Some person) one.text one.moment ≡ Err (Locking (locked_person one.moment person))
wrong_locks person one count has free wrong counts many =
    let before = failure_count person.locked person.failures in
    wrong_attempt person one has free wrong
    ∙ ap (λ failure. Err failure) (many_by (nat_lt (before + 1) failures_to_lock) (counted_person (before + 1) person) (locked_person one.moment person) (ap (λ n. nat_lt (n + 1) failures_to_lock) counts ∙ many))

counted_has : (person : Person) (count : ℕ) → HasAccount person → HasAccount (counted_person count person)
counted_has person count has = record { here = has.here; set = has.set }

few_left : (n l : ℕ) → n + suc l < failures_to_lock → nat_lt (n + 1) failures_to_lock ≡ true
few_left n l h = grind (arith, nat_tests)

-- each wrong password counts, until there are enough to lock
pub counted_on : (person : Person) (n : ℕ) (tries : List Try) → HasAccount person → AreWrong person tries → n + length tries < failures_to_lock
    → person_after (counted_person n person) tries ≡ Some (counted_person (n + length tries) person)
counted_on person n [] has wrong few = ap (λ k. Some (counted_person k person)) (omega arith)
counted_on person n (one ∷ others) has wrong few =
    ap (option_and_then (λ left. person_after left others))
    (wrong_counted (counted_person n person) one n (counted_has person n has) refl wrong.0 refl (few_left n (length others) few))
    ∙ counted_on person (n + 1) others has wrong.1 (omega arith)
    ∙ ap (λ k. Some (counted_person k person)) (omega arith)

after_one : (left : Option Person) (tries others : List Try)
    → ((one : Person) → person_after one (tries ++ others) ≡ option_and_then (λ left. person_after left others) (person_after one tries))
    → option_and_then (λ one. person_after one (tries ++ others)) left
    ≡ option_and_then (λ one. person_after one others) (option_and_then (λ one. person_after one tries) left)
after_one None tries others more = refl
after_one (Some one) tries others more = more one

after_more : (person : Person) (tries others : List Try)
    → person_after person (tries ++ others) ≡ option_and_then (λ left. person_after left others) (person_after person tries)
after_more person [] others = refl
after_more person (one ∷ tries) others =
    after_one (person_left (attempt_of (Some person) one.text one.moment)) tries others (λ left. after_more left tries others)

-- the last of them locks
pub last_locks : (person : Person) (n : ℕ) (before : List Try) (last : Try) → HasAccount person → AreWrong person before
    → n + length before ≡ failures_to_lock - 1 → IsWrong person last
    → person_after (counted_person n person) (before ++ (last ∷ [])) ≡ Some (locked_person last.moment person)
last_locks person n before last has wrong long is =
    let few = failures_to_lock - 1 in
    after_more (counted_person n person) before (last ∷ [])
    ∙ ap (option_and_then (λ left. person_after left (last ∷ []))) (counted_on person n before has wrong (omega arith))
    ∙ ap (λ k. person_after (counted_person k person) (last ∷ [])) long
    ∙ ap (λ answer. option_and_then (λ left. Some left) (person_left answer))
    (wrong_locks (counted_person few person) last few (counted_has person few has) refl is refl refl)

-- a person who isn't locked is as they are with their failures
pub unlocked_as_is : (person : Person) → person.locked ≡ None → person ≡ counted_person person.failures person
unlocked_as_is person free = ap (λ since. record person { failures = person.failures; locked = since }) free

-- Retirement.

abbrev leaves : Person → Effect → List Session → Type 0
leaves person effect sessions =
    (effect.person ≡ record person { retired = true }) × AreClosed person.code (sessions_after effect.closing person.code sessions)

left_by_retirement : (retired own : Bool) (person : Person) (effect : Effect) (sessions : List Session)
    → meant_then (meant retired own person) (λ found. Ok (record { person = record found { retired = true }; closing = All })) ≡ Ok effect
    → leaves person effect sessions
left_by_retirement true own person effect sessions h = absurd (cc)
left_by_retirement false true person effect sessions h = absurd (cc)
left_by_retirement false false person effect sessions h =
    let same : record { person = record person { retired = true }; closing = All } ≡ effect = cc in
    subst (λ one. leaves person one sessions) same (refl, all_closed person.code sessions)

-- who is retired is left without an open session
pub retired_leaves : (caller : List ℕ) (person : Person) (effect : Effect) (sessions : List Session)
    → retiring caller (Some person) ≡ Ok effect → leaves person effect sessions
unfolding retiring
retired_leaves caller person effect sessions h = left_by_retirement person.retired (bytes_eq person.code caller) person effect sessions h
