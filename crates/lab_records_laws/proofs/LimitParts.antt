-- Sessions, persons and the trail, as a command leaves them.
use Rattle.std.proofs.Common.{◌≡◌, ℕ, Bool, true, false, cond, List, [], ◌∷◌, Some, refl, sym, ◌∙◌, ap, subst}
use Rattle.std.specs.Prelude.{map, bytes_eq, IsTrue}
use Rattle.std.proofs.lemmas.Slice.Eq.{bytes_eq-Decides}
use Rattle.lab_people_access.specs.declared.persons.Person.{Person}
use Rattle.lab_people_access.specs.declared.sessions.Session.{Session}
use Rattle.lab_people_access.specs.declared.sessions.Closing.{Closing}
use Rattle.lab_people_access.specs.Sessions.{session_of, closed_session, is_closed_by, sessions_after}
use Rattle.lab_records_kept.specs.Changes.{with_person, with_session}
use Rattle.lab_records_kept.specs.Lookups.{comes_before}
use Rattle.lab_records_kept.specs.Limits.{AreInOrder}
use Rattle.lab_records_laws.proofs.LimitLists.{same_bytes}

abbrev pub session_number : Session → ℕ
session_number session = session.number

abbrev pub person_code : Person → List ℕ
person_code person = person.code

-- ---- sessions

session_case : (test : Bool) (new old one : Session) (others : List Session)
    → cond test (Some one) (session_of others new.token) ≡ Some old → new.number ≡ old.number
    → (session_of others new.token ≡ Some old
    → map session_number (with_session new others) ≡ map session_number others)
    → map session_number (cond test (new ∷ others) (one ∷ with_session new others))
    ≡ map session_number (one ∷ others)
session_case true new old one others found same next =
    let is : one ≡ old = cc in
    let numbers : new.number ≡ one.number = same ∙ ap session_number (sym is) in
    ap (λ n. n ∷ map session_number others) numbers
session_case false new old one others found same next = ap (λ l. one.number ∷ l) (next found)

-- a session that is set bears the number of the one whose token it has
pub session_numbers : (new old : Session) (sessions : List Session)
    → session_of sessions new.token ≡ Some old → new.number ≡ old.number
    → map session_number (with_session new sessions) ≡ map session_number sessions
session_numbers new old [] found same = refl
session_numbers new old (one ∷ others) found same =
    session_case (bytes_eq one.token new.token) new old one others found same
    (λ further. session_numbers new old others further same)

set_case : (test : Bool) (new old one : Session) (others : List Session)
    → bytes_eq one.token new.token ≡ test
    → cond test (Some one) (session_of others new.token) ≡ Some old
    → (session_of others new.token ≡ Some old
    → session_of (with_session new others) new.token ≡ Some new)
    → session_of (cond test (new ∷ others) (one ∷ with_session new others)) new.token ≡ Some new
set_case true new old one others tested found next =
    ap (λ b. cond b (Some new) (session_of others new.token)) (same_bytes new.token)
set_case false new old one others tested found next =
    ap (λ b. cond b (Some one) (session_of (with_session new others) new.token)) tested
    ∙ next found

-- and it is found
pub session_set : (new old : Session) (sessions : List Session)
    → session_of sessions new.token ≡ Some old
    → session_of (with_session new sessions) new.token ≡ Some new
session_set new old [] found = absurd (cc)
session_set new old (one ∷ others) found =
    set_case (bytes_eq one.token new.token) new old one others refl found
    (session_set new old others)

token_case : (test : Bool) (digest : List ℕ) (session one : Session) (others : List Session)
    → (test ≡ true → one.token ≡ digest)
    → cond test (Some one) (session_of others digest) ≡ Some session
    → (session_of others digest ≡ Some session → session.token ≡ digest)
    → session.token ≡ digest
token_case true digest session one others is found next =
    let same : session ≡ one = cc in ap (λ s. s.token) same ∙ is refl
token_case false digest session one others is found next = next found

-- a session is found by its token
pub session_token : (digest : List ℕ) (session : Session) (sessions : List Session)
    → session_of sessions digest ≡ Some session → session.token ≡ digest
session_token digest session [] found = absurd (cc)
session_token digest session (one ∷ others) found =
    token_case (bytes_eq one.token digest) digest session one others
    (bytes_eq-Decides one.token digest).0 found (session_token digest session others)

closed_number : (test : Bool) (session : Session)
    → (cond test (closed_session session) session).number ≡ session.number
closed_number true session = refl
closed_number false session = refl

-- sessions that are closed keep their numbers
pub closed_numbers : (closing : Closing) (person : List ℕ) (sessions : List Session)
    → map session_number (sessions_after closing person sessions) ≡ map session_number sessions
closed_numbers closing person [] = refl
closed_numbers closing person (one ∷ others) =
    let head : (cond (is_closed_by closing person one) (closed_session one) one).number ≡ one.number
    = closed_number (is_closed_by closing person one) one in
    let tail : map session_number (sessions_after closing person others)
    ≡ map session_number others = closed_numbers closing person others in
    cc (head, tail)

-- ---- persons

person_case : (test : Bool) (new one : Person) (others : List Person)
    → (test ≡ true → one.code ≡ new.code)
    → map person_code (with_person new others) ≡ map person_code others
    → map person_code (cond test (new ∷ others) (one ∷ with_person new others))
    ≡ map person_code (one ∷ others)
person_case true new one others is next =
    ap (λ c. c ∷ map person_code others) (sym (is refl))
person_case false new one others is next = ap (λ l. one.code ∷ l) next

-- a person who is set has the code of the one before
pub person_codes : (new : Person) (persons : List Person)
    → map person_code (with_person new persons) ≡ map person_code persons
person_codes new [] = refl
person_codes new (one ∷ others) =
    person_case (bytes_eq one.code new.code) new one others
    (bytes_eq-Decides one.code new.code).0 (person_codes new others)

-- persons of the same codes stand in the same order
pub order_same : (old new : List Person) → map person_code new ≡ map person_code old
    → AreInOrder old → AreInOrder new
order_same [] [] same ordered = record {}
order_same [] (other ∷ more) same ordered = absurd (cc)
order_same (one ∷ []) [] same ordered = absurd (cc)
order_same (one ∷ []) (other ∷ []) same ordered = record {}
order_same (one ∷ []) (other ∷ second ∷ more) same ordered = absurd (cc)
order_same (one ∷ next ∷ others) [] same ordered = absurd (cc)
order_same (one ∷ next ∷ others) (other ∷ []) same ordered = absurd (cc)
order_same (one ∷ next ∷ others) (other ∷ second ∷ more) same ordered =
    let head : other.code ≡ one.code = cc in
    let then : second.code ≡ next.code = cc in
    let tail : map person_code (second ∷ more) ≡ map person_code (next ∷ others) = cc in
    let before : comes_before other.code second.code ≡ comes_before one.code next.code =
    cc (head, then) in (
      subst (λ b. IsTrue b) (sym before) ordered.0,
      order_same (next ∷ others) (second ∷ more) tail ordered.1,
    )
