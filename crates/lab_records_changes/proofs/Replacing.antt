-- What is done to the first item that passes a test, by its place; and what is done to the last item.
use Rattle.std.proofs.Common.{ℕ, suc, ◌≡◌, ◌+◌, ◌≤◌, Bool, true, false, not, cond, refl, sym, ◌∙◌, ap, List, [], ◌∷◌, Some, None, length, get_or, set, arith}
use Rattle.std.specs.Prelude.{position, bytes_eq, nat_lt}
use Rattle.std.specs.List.{position_or_len}
use borrow.Author.Tests.{ltb-false}
use Rattle.lab_people_access.specs.declared.persons.Person.{Person}
use Rattle.lab_people_access.specs.declared.sessions.Session.{Session}
use Rattle.lab_records_kept.specs.declared.records.Record.{Record}
use Rattle.lab_records_kept.specs.declared.records.Version.{Version}
use Rattle.lab_records_kept.specs.Lookups.{has_number, is_numbered}
use Rattle.lab_records_kept.specs.Changes.{with_person, with_session, in_record, in_version, in_last}

-- something is done to the first item that passes the test
abbrev pub replaced : {A : Type 0} → (A → Bool) → (A → A) → List A → List A
replaced p next [] = []
replaced p next (one ∷ others) =
    cond (p one) (next one ∷ others) (one ∷ replaced p next others)

at_first : {A : Type 0} (next : A → A) (one : A) (others rest : List A) (passes : Bool)
    (k place : ℕ) (x : A) → place ≡ cond (not passes) (1 + k) 0
    → x ≡ get_or (one ∷ others) place x → (x ≡ get_or others k x → rest ≡ set others k (next x))
    → cond passes (next one ∷ others) (one ∷ rest) ≡ set (one ∷ others) place (next x)
at_first next one others rest true k place x first here later =
    let same = rw first at here in
    rw first (ap (λ y. next y ∷ others) (sym same))
at_first next one others rest false k place x first here later =
    let place_is : place ≡ suc k = omega arith in
    let there = rw place_is at here in
    rw place_is (ap (λ (list : List _). one ∷ list) (later there))

pub replaced_first : {A : Type 0} (p : A → Bool) (next : A → A) (items : List A) (place : ℕ) (x : A)
    → place ≡ position_or_len p items → x ≡ get_or items place x
    → replaced p next items ≡ set items place (next x)
replaced_first p next [] place x first here = refl
replaced_first p next (one ∷ others) place x first here =
    at_first next one others (replaced p next others) (p one) (position_or_len p others) place x first here
    (λ there. replaced_first p next others (position_or_len p others) x refl there)

at_none : {A : Type 0} (next : A → A) (one : A) (others rest : List A) (passes : Bool) (k : ℕ)
    → length (one ∷ others) ≤ cond (not passes) (1 + k) 0 → (length others ≤ k → rest ≡ others)
    → cond passes (next one ∷ others) (one ∷ rest) ≡ one ∷ others
at_none next one others rest true k past later = absurd (omega arith)
at_none next one others rest false k past later =
    ap (λ (list : List _). one ∷ list) (later (omega arith))

pub replaced_past : {A : Type 0} (p : A → Bool) (next : A → A) (items : List A)
    → length items ≤ position_or_len p items → replaced p next items ≡ items
replaced_past p next [] past = refl
replaced_past p next (one ∷ others) past =
    at_none next one others (replaced p next others) (p one) (position_or_len p others) past
    (replaced_past p next others)

found_place : (within : Bool) (first place : ℕ) → cond within (Some first) None ≡ Some place
    → place ≡ first
found_place true first place found = cc
found_place false first place found = absurd (cc)

no_place : (within : Bool) (first : ℕ) → cond within (Some first) None ≡ None → within ≡ false
no_place true first found = absurd (cc)
no_place false first found = refl

-- by what `position` answers
pub replaced_at : {A : Type 0} (p : A → Bool) (next : A → A) (items : List A) (place : ℕ) (x : A)
    → position p items ≡ Some place → x ≡ get_or items place x
    → replaced p next items ≡ set items place (next x)
replaced_at p next items place x found here =
    replaced_first p next items place x
    (found_place (nat_lt (position_or_len p items) (length items)) (position_or_len p items) place found)
    here

pub replaced_none : {A : Type 0} (p : A → Bool) (next : A → A) (items : List A)
    → position p items ≡ None → replaced p next items ≡ items
replaced_none p next items found =
    replaced_past p next items
    (ltb-false (position_or_len p items) (length items)
    (no_place (nat_lt (position_or_len p items) (length items)) (position_or_len p items) found))

-- the changes of the laboratory are that
pub with_person_is : (person : Person) (persons : List Person)
    → with_person person persons
    ≡ replaced (λ one. bytes_eq one.code person.code) (λ one. person) persons
with_person_is person [] = refl
with_person_is person (one ∷ others) =
    ap (λ (rest : List Person). cond (bytes_eq one.code person.code) (person ∷ others) (one ∷ rest))
    (with_person_is person others)

pub with_session_is : (session : Session) (sessions : List Session)
    → with_session session sessions
    ≡ replaced (λ one. bytes_eq one.token session.token) (λ one. session) sessions
with_session_is session [] = refl
with_session_is session (one ∷ others) =
    ap (λ (rest : List Session). cond (bytes_eq one.token session.token) (session ∷ others) (one ∷ rest))
    (with_session_is session others)

pub in_record_is : (number : ℕ) (next : Record → Record) (records : List Record)
    → in_record number next records ≡ replaced (has_number number) next records
in_record_is number next [] = refl
in_record_is number next (one ∷ others) =
    ap (λ (rest : List Record). cond (has_number number one) (next one ∷ others) (one ∷ rest))
    (in_record_is number next others)

-- by what the search for the place answers
pub with_person_at : (person : Person) (persons : List Person) (place : ℕ) (old : Person)
    → position (λ one. bytes_eq one.code person.code) persons ≡ Some place
    → old ≡ get_or persons place old → with_person person persons ≡ set persons place person
with_person_at person persons place old found here =
    with_person_is person persons
    ∙ replaced_at (λ one. bytes_eq one.code person.code) (λ one. person) persons place old found here

pub with_person_none : (person : Person) (persons : List Person)
    → position (λ one. bytes_eq one.code person.code) persons ≡ None
    → with_person person persons ≡ persons
with_person_none person persons none =
    with_person_is person persons
    ∙ replaced_none (λ one. bytes_eq one.code person.code) (λ one. person) persons none

pub with_session_at : (session : Session) (sessions : List Session) (place : ℕ) (old : Session)
    → position (λ one. bytes_eq one.token session.token) sessions ≡ Some place
    → old ≡ get_or sessions place old → with_session session sessions ≡ set sessions place session
with_session_at session sessions place old found here =
    with_session_is session sessions
    ∙ replaced_at (λ one. bytes_eq one.token session.token) (λ one. session) sessions place old found here

pub with_session_none : (session : Session) (sessions : List Session)
    → position (λ one. bytes_eq one.token session.token) sessions ≡ None
    → with_session session sessions ≡ sessions
with_session_none session sessions none =
    with_session_is session sessions
    ∙ replaced_none (λ one. bytes_eq one.token session.token) (λ one. session) sessions none

pub in_record_at : (number : ℕ) (next : Record → Record) (records : List Record) (place : ℕ)
    (old : Record) → position (has_number number) records ≡ Some place
    → old ≡ get_or records place old → in_record number next records ≡ set records place (next old)
in_record_at number next records place old found here =
    in_record_is number next records
    ∙ replaced_at (has_number number) next records place old found here

pub in_record_none : (number : ℕ) (next : Record → Record) (records : List Record)
    → position (has_number number) records ≡ None → in_record number next records ≡ records
in_record_none number next records none =
    in_record_is number next records ∙ replaced_none (has_number number) next records none

-- what is done to the last version, by its place
pub in_last_at : (next : Version → Version) (versions : List Version) (place : ℕ) (last : Version)
    → length versions ≡ place + 1 → last ≡ get_or versions place last
    → in_last next versions ≡ set versions place (next last)
in_last_at next [] place last long here = refl
in_last_at next (one ∷ []) place last long here =
    let zero : place ≡ 0 = omega arith in
    let same = rw zero at here in
    rw zero (ap (λ y. next y ∷ []) (sym same))
in_last_at next (one ∷ other ∷ others) place last long here =
    let place_is : place ≡ suc (length others) = omega arith in
    let there = rw place_is at here in
    let shorter : length (other ∷ others) ≡ length others + 1 = omega arith in
    rw place_is (ap (λ (list : List Version). one ∷ list)
    (in_last_at next (other ∷ others) (length others) last shorter there))

pub in_version_is : (number : ℕ) (next : Version → Version) (versions : List Version)
    → in_version number next versions ≡ replaced (is_numbered number) next versions
in_version_is number next [] = refl
in_version_is number next (one ∷ others) =
    ap (λ (rest : List Version). cond (is_numbered number one) (next one ∷ others) (one ∷ rest))
    (in_version_is number next others)

pub in_version_at : (number : ℕ) (next : Version → Version) (versions : List Version) (place : ℕ)
    (old : Version) → position (is_numbered number) versions ≡ Some place
    → old ≡ get_or versions place old → in_version number next versions ≡ set versions place (next old)
in_version_at number next versions place old found here =
    in_version_is number next versions
    ∙ replaced_at (is_numbered number) next versions place old found here

pub in_version_none : (number : ℕ) (next : Version → Version) (versions : List Version)
    → position (is_numbered number) versions ≡ None → in_version number next versions ≡ versions
in_version_none number next versions none =
    in_version_is number next versions ∙ replaced_none (is_numbered number) next versions none

-- a place that is searched for is within the list, or at its end
within_next : {A : Type 0} (passes : Bool) (k : ℕ) (others : List A) → k ≤ length others
    → cond (not passes) (1 + k) 0 ≤ 1 + length others
within_next true k others le = omega arith
within_next false k others le = omega arith

pub place_within : {A : Type 0} (p : A → Bool) (items : List A) → position_or_len p items ≤ length items
place_within p [] = omega arith
place_within p (one ∷ others) =
    let within = within_next (p one) (position_or_len p others) others (place_within p others) in
    omega arith

-- where the search finds a place, it is the first; where it finds none, that is the end
pub place_found : {A : Type 0} (p : A → Bool) (items : List A) (place : ℕ) → position p items ≡ Some place
    → place ≡ position_or_len p items
place_found p items place found =
    found_place (nat_lt (position_or_len p items) (length items)) (position_or_len p items) place found

pub place_at_end : {A : Type 0} (p : A → Bool) (items : List A) → position p items ≡ None
    → length items ≡ position_or_len p items
place_at_end p items none =
    let past = ltb-false (position_or_len p items) (length items)
    (no_place (nat_lt (position_or_len p items) (length items)) (position_or_len p items) none) in
    let within = place_within p items in
    omega arith
