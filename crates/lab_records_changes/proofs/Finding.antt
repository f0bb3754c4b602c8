-- What is found where a search for a place ended, and where there is such a place.
use Rattle.std.proofs.Common.{ℕ, suc, ◌≡◌, ◌+◌, ◌<◌, Bool, true, false, not, cond, refl, sym, subst, ◌∙◌, ap, List, [], ◌∷◌, Option, Some, None, length, get_or, arith}
use Rattle.std.specs.Prelude.{bytes_eq, find, is_some, nat_lt, position, slice_get}
use Rattle.std.specs.List.{position_or_len}
use Rattle.std.proofs.lemmas.Bool.{ltb-true, ltb-false, lt-ltb, le-ltb}
use Rattle.std.proofs.lemmas.Bool.Decides.{Decides-ltb}
use Rattle.std.proofs.lemmas.List.Folds.{find_at}
use Rattle.std.proofs.lemmas.Option.{slice_get-get_or}
use Rattle.lab_people_access.specs.declared.persons.Person.{Person}
use Rattle.lab_people_access.specs.declared.sessions.Session.{Session}
use Rattle.lab_people_access.specs.Persons.{person_of, has_code}
use Rattle.lab_people_access.specs.Sessions.{session_of, has_token}

placed : (within : Bool) (first place : ℕ) → cond within (Some first) None ≡ Some place
    → (within ≡ true) × (place ≡ first)
placed true first place found = (refl, cc)
placed false first place found = absurd (cc)

-- what stands in the place is the first that passes
pub found_at : {A : Type 0} (p : A → Bool) (items : List A) (place : ℕ) (x : A)
    → position p items ≡ Some place → x ≡ get_or items place x → find p items ≡ Some x
found_at p items place x ended here =
    let first : ℕ = position_or_len p items in
    let both : (nat_lt first (length items) ≡ true) × (place ≡ first) =
    placed (nat_lt first (length items)) first place ended in
    let inside : place < length items =
    subst (λ (k : ℕ). k < length items) (sym both.1) ((Decides-ltb first (length items)).0 both.0) in
    find_at p items ∙ ap (λ (k : ℕ). slice_get items k) (sym both.1)
    ∙ slice_get-get_or items place x inside ∙ ap (λ one. Some one) (sym here)

-- a place is found where somebody or something is
is_placed : (within : Bool) (first : ℕ) → is_some (cond within (Some first) None) ≡ within
is_placed true first = refl
is_placed false first = refl

next_within : (k n : ℕ) (b : Bool) → nat_lt k n ≡ b → nat_lt (1 + k) (suc n) ≡ b
next_within k n true less =
    let inside = ltb-true k n less in
    lt-ltb (1 + k) (suc n) (omega arith)
next_within k n false past =
    let after = ltb-false k n past in
    le-ltb (1 + k) (suc n) (omega arith)

is_within : {A : Type 0} (passes : Bool) (one : A) (rest : Option A) (k n : ℕ)
    → is_some rest ≡ nat_lt k n
    → is_some (cond passes (Some one) rest) ≡ nat_lt (cond (not passes) (1 + k) 0) (suc n)
is_within true one rest k n later = sym (lt-ltb 0 (suc n) (omega arith))
is_within false one rest k n later = later ∙ sym (next_within k n (nat_lt k n) refl)

person_within : (persons : List Person) (code : List ℕ)
    → has_code persons code
    ≡ nat_lt (position_or_len (λ one. bytes_eq one.code code) persons) (length persons)
person_within [] code = refl
person_within (one ∷ others) code =
    is_within (bytes_eq one.code code) one (person_of others code)
    (position_or_len (λ one. bytes_eq one.code code) others) (length others) (person_within others code)

pub person_placed : (persons : List Person) (code : List ℕ)
    → is_some (position (λ one. bytes_eq one.code code) persons) ≡ has_code persons code
person_placed persons code =
    is_placed (nat_lt (position_or_len (λ one. bytes_eq one.code code) persons) (length persons))
    (position_or_len (λ one. bytes_eq one.code code) persons)
    ∙ sym (person_within persons code)

session_within : (sessions : List Session) (digest : List ℕ)
    → has_token sessions digest
    ≡ nat_lt (position_or_len (λ one. bytes_eq one.token digest) sessions) (length sessions)
session_within [] digest = refl
session_within (one ∷ others) digest =
    is_within (bytes_eq one.token digest) one (session_of others digest)
    (position_or_len (λ one. bytes_eq one.token digest) others) (length others)
    (session_within others digest)

pub session_placed : (sessions : List Session) (digest : List ℕ)
    → is_some (position (λ one. bytes_eq one.token digest) sessions) ≡ has_token sessions digest
session_placed sessions digest =
    is_placed (nat_lt (position_or_len (λ one. bytes_eq one.token digest) sessions) (length sessions))
    (position_or_len (λ one. bytes_eq one.token digest) sessions)
    ∙ sym (session_within sessions digest)
