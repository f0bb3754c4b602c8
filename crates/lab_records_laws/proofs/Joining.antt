-- Changes that follow on others, and persons who stay known.
use Rattle.std.proofs.Common.{◌≡◌, ℕ, Bool, true, false, cond, List, [], ◌∷◌, ◌++◌, Option, Some, None, MatchOption, refl, ap, subst}
use Rattle.std.specs.Prelude.{IsSome, bytes_eq}
use Rattle.lab_people_access.specs.declared.persons.Person.{Person}
use Rattle.lab_people_access.specs.Persons.{person_of}
use Rattle.lab_records_kept.specs.declared.labs.Lab.{Lab}
use Rattle.lab_records_kept.specs.declared.changes.Change.{Change}
use Rattle.lab_records_kept.specs.declared.changes.Change.TheVariants.{Last, Strays, PersonAdded, PersonSet, SessionAdded, SessionSet, SessionsClosed, FormAdded, RecordAdded, RowAdded, VersionOpened, SignatureAdded, TrailAdded}
use Rattle.lab_records_kept.specs.Changes.{SamePerson, IsAskKnown, IsKnown, Fits, AllFit, change, changed, with_person, added_person}
use Rattle.lab_records_kept.specs.Keeping.{KeepsPerson, KeepsPersons}
use Rattle.lab_records_laws.proofs.KeepPersons.{are_same, added_keeps}

-- ---- some changes, and then others

pub changed_on : (lab : Lab) (first second : List Change)
    → changed lab (first ++ second) ≡ changed (changed lab first) second
changed_on lab [] second = refl
changed_on lab (one ∷ others) second = changed_on (change lab one) others second

pub all_fit_on : (lab : Lab) (first second : List Change) → AllFit lab first
    → AllFit (changed lab first) second → AllFit lab (first ++ second)
all_fit_on lab [] second fit further = further
all_fit_on lab (one ∷ others) second fit further =
    (fit.0, all_fit_on (change lab one) others second fit.1 further)

-- ---- a person who is set was there

set_case : (found : Option Person) (lab : Lab) (person : Person)
    → MatchOption found ⊥ (λ old. SamePerson old person × IsAskKnown lab old.ask person.ask)
    → IsSome found
set_case None lab person fits = absurd fits
set_case (Some old) lab person fits = refl

pub set_known : (lab : Lab) (person : Person) → Fits lab (PersonSet person)
    → IsKnown lab person.code
set_known lab person fits = set_case (person_of lab.persons person.code) lab person fits

-- ---- who is known stays known

known_case : (found next : Option Person)
    → ((person : Person) → found ≡ Some person → MatchOption next ⊥ (KeepsPerson person))
    → IsSome found → IsSome next
known_case None next keeps known = absurd (cc)
known_case (Some one) None keeps known = absurd (keeps one refl)
known_case (Some one) (Some other) keeps known = refl

known_kept : (old new : List Person) (code : List ℕ) → KeepsPersons old new
    → IsSome (person_of old code) → IsSome (person_of new code)
known_kept old new code keeps known =
    known_case (person_of old code) (person_of new code) (keeps code) known

-- the first or another of the same code
known_first : (is : Bool) (one other : Person) (rest last : Option Person)
    → IsSome (cond is (Some one) rest) → (IsSome rest → IsSome last)
    → IsSome (cond is (Some other) last)
known_first true one other rest last known next = refl
known_first false one other rest last known next = next known

known_by : (own : Bool) (one person : Person) (others rest : List Person) (code : List ℕ)
    → bytes_eq one.code person.code ≡ own → IsSome (person_of (one ∷ others) code)
    → (IsSome (person_of others code) → IsSome (person_of rest code))
    → IsSome (person_of (cond own (person ∷ others) (one ∷ rest)) code)
known_by true one person others rest code is known next =
    subst (λ test. IsSome (cond test (Some person) (person_of others code)))
    (ap (λ it. bytes_eq it code) (are_same one.code person.code is))
    (known_first (bytes_eq one.code code) one person (person_of others code)
    (person_of others code) known (λ there. there))
known_by false one person others rest code is known next =
    known_first (bytes_eq one.code code) one one (person_of others code) (person_of rest code)
    known next

-- and where a person is set
known_set : (person : Person) (persons : List Person) (code : List ℕ)
    → IsSome (person_of persons code) → IsSome (person_of (with_person person persons) code)
known_set person [] code known = known
known_set person (one ∷ others) code known =
    known_by (bytes_eq one.code person.code) one person others (with_person person others) code
    refl known (known_set person others code)

pub change_knows : (lab : Lab) (one : Change) (code : List ℕ) → Fits lab one → IsKnown lab code
    → IsKnown (change lab one) code
change_knows lab (Last moment) code fits known = known
change_knows lab (Strays count) code fits known = known
change_knows lab (PersonAdded person) code fits known =
    known_kept lab.persons (added_person person lab.persons) code
    (added_keeps lab.persons person fits.0) known
change_knows lab (PersonSet person) code fits known =
    known_set person lab.persons code known
change_knows lab (SessionAdded session) code fits known = known
change_knows lab (SessionSet session) code fits known = known
change_knows lab (SessionsClosed person closing) code fits known = known
change_knows lab (FormAdded form) code fits known = known
change_knows lab (RecordAdded kept) code fits known = known
change_knows lab (RowAdded number row) code fits known = known
change_knows lab (VersionOpened number version) code fits known = known
change_knows lab (SignatureAdded number version signature) code fits known = known
change_knows lab (TrailAdded row) code fits known = known

pub changes_know : (lab : Lab) (changes : List Change) (code : List ℕ) → AllFit lab changes
    → IsKnown lab code → IsKnown (changed lab changes) code
changes_know lab [] code fits known = known
changes_know lab (one ∷ others) code fits known =
    changes_know (change lab one) others code fits.1 (change_knows lab one code fits.0 known)
