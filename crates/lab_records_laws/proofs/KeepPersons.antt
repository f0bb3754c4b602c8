-- Persons and sessions that are set stand for who and what was there.
use Rattle.std.proofs.Common.{◌≡◌, ℕ, Bool, true, false, cond, List, [], ◌∷◌, Option, Some, None, MatchOption, refl, sym, ◌∙◌, ap, subst}
use Rattle.std.specs.Prelude.{bytes_eq}
use Rattle.std.proofs.lemmas.Slice.Eq.{bytes_eq-Decides}
use Rattle.lab_people_access.specs.declared.persons.Person.{Person}
use Rattle.lab_people_access.specs.declared.sessions.Session.{Session}
use Rattle.lab_people_access.specs.declared.sessions.Closing.{Closing}
use Rattle.lab_people_access.specs.Persons.{person_of}
use Rattle.lab_people_access.specs.Sessions.{session_of, sessions_after, closed_session, is_closed_by}
use Rattle.lab_records_kept.specs.Changes.{with_person, with_session, added_person}
use Rattle.lab_records_kept.specs.Keeping.{Extends, KeepsPerson, KeepsPersons, KeepsSession}
use Rattle.lab_records_laws.proofs.KeepLists.{extends_itself, extends_on, placed, inserted_is}
use Rattle.lab_records_kept.specs.Lookups.{comes_before}

pub same_bytes : (bytes : List ℕ) → bytes_eq bytes bytes ≡ true
same_bytes bytes = (bytes_eq-Decides bytes bytes).1 refl

pub are_same : (one other : List ℕ) → bytes_eq one other ≡ true → one ≡ other
are_same one other h = (bytes_eq-Decides one other).0 h

-- ---- persons

-- who has the code, or nobody, is the person under the same name, retired if the person was
abbrev Finds : Option Person → Person → Type 0
Finds found person = MatchOption found ⊥ (KeepsPerson person)

pub person_itself : (person : Person) → KeepsPerson person person
person_itself person = record { same = record { code = refl; name = refl }; retired = λ is. is }

pub person_on : (one two three : Person) → KeepsPerson one two → KeepsPerson two three
    → KeepsPerson one three
person_on one two three h g = record {
  same = record { code = g.same.code ∙ h.same.code; name = g.same.name ∙ h.same.name };
  retired = λ is. g.retired (h.retired is);
}

finds_itself : (found : Option Person) (person : Person) → found ≡ Some person → Finds found person
finds_itself None person h = absurd (cc)
finds_itself (Some one) person h =
    let same : person ≡ one = cc in
    subst (KeepsPerson person) same (person_itself person)

pub persons_itself : (persons : List Person) → KeepsPersons persons persons
persons_itself persons = λ code person h. finds_itself (person_of persons code) person h

finds_on : (found last : Option Person) (person : Person) → Finds found person
    → ((one : Person) → found ≡ Some one → Finds last one) → Finds last person
finds_on None last person h next = absurd h
finds_on (Some one) None person h next = absurd (next one refl)
finds_on (Some one) (Some two) person h next = person_on person one two h (next one refl)

pub persons_on : (old between new : List Person) → KeepsPersons old between
    → KeepsPersons between new → KeepsPersons old new
persons_on old between new h g = λ code person is.
    finds_on (person_of between code) (person_of new code) person (h code person is)
    (λ one there. g code one there)

found_by : (is : Bool) (one person : Person) (rest : Option Person) (code : List ℕ)
    → bytes_eq one.code code ≡ is → cond is (Some one) rest ≡ Some person
    → (rest ≡ Some person → person.code ≡ code) → person.code ≡ code
found_by true one person rest code is h next =
    let same : one ≡ person = cc in
    ap (λ it. it.code) (sym same) ∙ are_same one.code code is
found_by false one person rest code is h next = next h

-- who has a code has it
pub found_code : (persons : List Person) (code : List ℕ) (person : Person)
    → person_of persons code ≡ Some person → person.code ≡ code
found_code [] code person h = absurd (cc)
found_code (one ∷ others) code person h =
    found_by (bytes_eq one.code code) one person (person_of others code) code refl h
    (found_code others code person)

-- a person who is set is somebody there, with the same code and name, retired if the one there was
pub record IsSet (persons : List Person) (person : Person) : Type 0 where
  pub old : Person
  pub there : person_of persons person.code ≡ Some old
  pub same : KeepsPerson old person

pub set_from : (persons : List Person) (code : List ℕ) (found person : Person)
    → person_of persons code ≡ Some found → KeepsPerson found person → IsSet persons person
set_from persons code found person h same =
    let own : code ≡ person.code = sym (found_code persons code found h) ∙ sym same.same.code in
    record {
      old = found;
      there = subst (λ one. person_of persons one ≡ Some found) own h;
      same = same;
    }

-- the first of two tests that pass at once
set_here : (is : Bool) (code : List ℕ) (one old person found : Person) (rest last : Option Person)
    → bytes_eq one.code code ≡ is → one ≡ old → KeepsPerson old person
    → cond is (Some one) rest ≡ Some found → bytes_eq person.code code ≡ is
    → (rest ≡ Some found → Finds last found)
    → Finds (cond (bytes_eq person.code code) (Some person) last) found
set_here true code one old person found rest last is at same h new next =
    let own : old ≡ found = cc in
    subst (λ test. Finds (cond test (Some person) last) found) (sym new)
    (subst (λ it. KeepsPerson it person) own same)
set_here false code one old person found rest last is at same h new next =
    subst (λ test. Finds (cond test (Some person) last) found) (sym new) (next h)

set_later : (is : Bool) (one found : Person) (rest last : Option Person)
    → cond is (Some one) rest ≡ Some found → (rest ≡ Some found → Finds last found)
    → Finds (cond is (Some one) last) found
set_later true one found rest last h next = finds_itself (Some one) found h
set_later false one found rest last h next = next h

same_test : (one person : Person) (code : List ℕ) → one.code ≡ person.code
    → bytes_eq person.code code ≡ bytes_eq one.code code
same_test one person code h = ap (λ it. bytes_eq it code) (sym h)

set_by : (own : Bool) (one old person : Person) (others : List Person)
    → bytes_eq one.code person.code ≡ own
    → cond own (Some one) (person_of others person.code) ≡ Some old → KeepsPerson old person
    → (person_of others person.code ≡ Some old → KeepsPersons others (with_person person others))
    → KeepsPersons (one ∷ others) (cond own (person ∷ others) (one ∷ with_person person others))
set_by true one old person others is h same next = λ code found there.
    let own : one ≡ old = cc in
    let first : one.code ≡ person.code = are_same one.code person.code is in
    set_here (bytes_eq one.code code) code one old person found (person_of others code)
    (person_of others code) refl own same there (same_test one person code first)
    (finds_itself (person_of others code) found)
set_by false one old person others is h same next = λ code found there.
    set_later (bytes_eq one.code code) one found (person_of others code)
    (person_of (with_person person others) code) there (next h code found)

with_person_keeps : (person old : Person) (persons : List Person)
    → person_of persons person.code ≡ Some old → KeepsPerson old person
    → KeepsPersons persons (with_person person persons)
with_person_keeps person old [] h same = absurd (cc)
with_person_keeps person old (one ∷ others) h same =
    set_by (bytes_eq one.code person.code) one old person others refl h same
    (λ there. with_person_keeps person old others there same)

-- a person who is set keeps all
pub set_keeps : (persons : List Person) (person : Person) → IsSet persons person
    → KeepsPersons persons (with_person person persons)
set_keeps persons person set = with_person_keeps person set.old persons set.there set.same

-- ---- a person more

abbrev later : Person → Person → Bool
later person one = comes_before person.code one.code

-- an answer that is found otherwise than by the new person stays
added_first : (is : Bool) (person found : Person) (rest : Option Person) (code : List ℕ)
    → bytes_eq person.code code ≡ is → (is ≡ true → rest ≡ None) → rest ≡ Some found
    → Finds (cond is (Some person) rest) found
added_first true person found rest code is none h = absurd (cc (none refl, h))
added_first false person found rest code is none h = finds_itself rest found h

added_by : (before : Bool) (person one found : Person) (others rest : List Person) (code : List ℕ)
    → (bytes_eq person.code code ≡ true → person_of (one ∷ others) code ≡ None)
    → person_of (one ∷ others) code ≡ Some found
    → (person_of others code ≡ Some found → Finds (person_of rest code) found)
    → Finds (person_of (cond before (person ∷ one ∷ others) (one ∷ rest)) code) found
added_by true person one found others rest code none h next =
    added_first (bytes_eq person.code code) person found (person_of (one ∷ others) code) code refl
    none h
added_by false person one found others rest code none h next =
    set_later (bytes_eq one.code code) one found (person_of others code) (person_of rest code) h
    next

-- nobody else has a code that nobody has
none_later : (is : Bool) (one : Person) (rest : Option Person) → cond is (Some one) rest ≡ None
    → rest ≡ None
none_later true one rest h = absurd (cc)
none_later false one rest h = h

placed_keeps : (person : Person) (persons : List Person) → person_of persons person.code ≡ None
    → KeepsPersons persons (placed (later person) person persons)
placed_keeps person [] free = λ code found h. absurd (cc)
placed_keeps person (one ∷ others) free = λ code found h.
    added_by (later person one) person one found others (placed (later person) person others) code
    (λ own. subst (λ it. person_of (one ∷ others) it ≡ None) (are_same person.code code own) free) h
    (placed_keeps person others
    (none_later (bytes_eq one.code person.code) one (person_of others person.code) free) code found)

pub added_keeps : (persons : List Person) (person : Person) → person_of persons person.code ≡ None
    → KeepsPersons persons (added_person person persons)
added_keeps persons person free =
    subst (KeepsPersons persons) (sym (inserted_is (later person) person persons))
    (placed_keeps person persons free)

-- ---- sessions

pub session_itself : (session : Session) → KeepsSession session session
session_itself session = record { same = record { number = refl; person = refl; token = refl; opened = refl }; closed = λ is. is }

pub session_on : (one two three : Session) → KeepsSession one two → KeepsSession two three
    → KeepsSession one three
session_on one two three h g = record {
  same = record {
    number = g.same.number ∙ h.same.number;
    person = g.same.person ∙ h.same.person;
    token = g.same.token ∙ h.same.token;
    opened = g.same.opened ∙ h.same.opened;
  };
  closed = λ is. g.closed (h.closed is);
}

pub sessions_itself : (sessions : List Session) → Extends KeepsSession sessions sessions
sessions_itself sessions = extends_itself KeepsSession session_itself sessions

pub sessions_on : (old between new : List Session) → Extends KeepsSession old between
    → Extends KeepsSession between new → Extends KeepsSession old new
sessions_on old between new h g = extends_on KeepsSession session_on old between new h g

token_by : (is : Bool) (one session : Session) (rest : Option Session) (token : List ℕ)
    → bytes_eq one.token token ≡ is → cond is (Some one) rest ≡ Some session
    → (rest ≡ Some session → session.token ≡ token) → session.token ≡ token
token_by true one session rest token is h next =
    let same : one ≡ session = cc in
    ap (λ it. it.token) (sym same) ∙ are_same one.token token is
token_by false one session rest token is h next = next h

-- the session that is found by a token has it
pub found_token : (sessions : List Session) (token : List ℕ) (session : Session)
    → session_of sessions token ≡ Some session → session.token ≡ token
found_token [] token session h = absurd (cc)
found_token (one ∷ others) token session h =
    token_by (bytes_eq one.token token) one session (session_of others token) token refl h
    (found_token others token session)

session_by : (is : Bool) (one old session : Session) (others rest : List Session)
    → cond is (Some one) (session_of others session.token) ≡ Some old → KeepsSession old session
    → (session_of others session.token ≡ Some old → Extends KeepsSession others rest)
    → Extends KeepsSession (one ∷ others) (cond is (session ∷ others) (one ∷ rest))
session_by true one old session others rest h same next =
    let own : old ≡ one = cc in
    (subst (λ it. KeepsSession it session) own same, sessions_itself others)
session_by false one old session others rest h same next = (session_itself one, next h)

-- a session that is set keeps all
pub with_session_keeps : (sessions : List Session) (session old : Session)
    → session_of sessions session.token ≡ Some old → KeepsSession old session
    → Extends KeepsSession sessions (with_session session sessions)
with_session_keeps [] session old h same = tt
with_session_keeps (one ∷ others) session old h same =
    session_by (bytes_eq one.token session.token) one old session others
    (with_session session others)
    h same (λ there. with_session_keeps others session old there same)

found_after : (is : Bool) (one old session : Session) (others rest : List Session)
    → bytes_eq one.token session.token ≡ is
    → cond is (Some one) (session_of others session.token) ≡ Some old
    → (session_of others session.token ≡ Some old → session_of rest session.token ≡ Some session)
    → session_of (cond is (session ∷ others) (one ∷ rest)) session.token ≡ Some session
found_after true one old session others rest is h next =
    ap (λ test. cond test (Some session) (session_of others session.token))
    (same_bytes session.token)
found_after false one old session others rest is h next =
    ap (λ test. cond test (Some one) (session_of rest session.token)) is ∙ next h

-- and is found by its token
pub with_session_found : (sessions : List Session) (session old : Session)
    → session_of sessions session.token ≡ Some old
    → session_of (with_session session sessions) session.token ≡ Some session
with_session_found [] session old h = absurd (cc)
with_session_found (one ∷ others) session old h =
    found_after (bytes_eq one.token session.token) one old session others
    (with_session session others) refl h (with_session_found others session old)

after_by : (is : Bool) (session : Session)
    → KeepsSession session (cond is (closed_session session) session)
after_by true session = record { same = record { number = refl; person = refl; token = refl; opened = refl }; closed = λ is. refl }
after_by false session = session_itself session

-- sessions that are closed stay
pub closed_keep : (closing : Closing) (person : List ℕ) (sessions : List Session)
    → Extends KeepsSession sessions (sessions_after closing person sessions)
closed_keep closing person [] = tt
closed_keep closing person (one ∷ others) =
    (after_by (is_closed_by closing person one) one, closed_keep closing person others)
