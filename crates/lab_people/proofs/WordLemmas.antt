-- The halves of a one-time word, and the word that they make.
use Rattle.std.proofs.Common.{◌≡◌, ℕ, Bool, true, false, cond, ◌&&◌, List, [], ◌∷◌, ◌++◌, length, length-append, Option, Some, None, Result, Ok, Err, refl, sym, ◌∙◌, ap, subst, arith}
use Rattle.std.specs.Prelude.{bytes_eq}
use Rattle.std.proofs.lemmas.Slice.Eq.{bytes_eq-Decides}
use Rattle.std.proofs.lemmas.List.{take_at, drop_at}
use Rattle.hex.specs.Hex.{encode_lower, lower_digits}
use Rattle.hex.proofs.HexLemmas.{length-encode_with}
use Rattle.lab_forms_texts.specs.declared.tick.Tick.{Tick}
use Rattle.lab_seal_hashes.specs.Words.{big_endian, half_of, one_time_word}
use Rattle.lab_seal_hashes.specs.Pbkdf2.{pbkdf2_block}
use Rattle.lab_seal_hashes.specs.Verifiers.{verifier_of, is_verified}
use Rattle.lab_seal_hashes.specs.declared.verifiers.VerifierParts.{VerifierParts}
use Rattle.lab_people_access.specs.declared.passwords.Password.TheVariants.{OneTime}
use Rattle.lab_people_access.specs.declared.persons.Person.{Person}
use Rattle.lab_people_access.specs.declared.persons.Ask.{Ask}
use Rattle.lab_people_access.specs.declared.refusals.PeopleRefusal.{PeopleRefusal}
use Rattle.lab_people_access.specs.declared.refusals.PeopleRefusal.TheVariants.{NoSuchPerson, OwnIssue, IssueOpen, SamePerson}
use Rattle.lab_people_access.specs.Passwords.{are_verified, serves, accepts}
use Rattle.lab_people_access.specs.Persons.{stands, standing_ask}
use Rattle.lab_people.specs.Accounts.{person_meant, meant_then}
use Rattle.lab_people.specs.Issues.{half_verifier, is_anothers, new_ask, with_ask, asking, with_one_time_word, confirming_of, confirming}
use Rattle.lab_people.specs.declared.issues.Issued.{Issued}
use Rattle.lab_people.specs.Laws.{IsWordGiven}

-- Lengths.

half_len : (words : List ℕ) → length words ≡ 8 → length (half_of words) ≡ 16
unfolding big_endian
half_len [] h = absurd (cc)
half_len (one ∷ []) h = absurd (omega (arith, h))
half_len (one ∷ two ∷ words) h = refl

-- a half is written by 32 digits
digits_len : (words : List ℕ) → length words ≡ 8 → length (encode_lower (half_of words)) ≡ 32
digits_len words h = let e = length-encode_with lower_digits (half_of words) in let long = half_len words h in omega (arith, e, long)

-- A text of two parts, where each part has a verifier.

verified : (text salt : List ℕ) (rounds : ℕ) → is_verified (verifier_of text salt rounds) text ≡ true
verified text salt rounds = let made = pbkdf2_block text salt rounds in (bytes_eq-Decides made made).1 refl

parts_verified : (first second salt other : List ℕ) (rounds : ℕ) → length first ≡ 32 → length second ≡ 32
    → are_verified (verifier_of first salt rounds) (verifier_of second other rounds) (first ++ second) ≡ true
parts_verified first second salt other rounds h k =
    rw (length-append first second, h, k, take_at first second 32 h, drop_at first second 32 h, verified first salt rounds, verified second other rounds) refl

and_true : (one other : Bool) → other ≡ true → (one && other) ≡ one
and_true true other h = h
and_true false other h = refl

and_false : (one other : Bool) → other ≡ false → (one && other) ≡ false
and_false true other h = h
and_false false other h = refl

-- both parts are accepted, while they serve
parts_accepted : (first second salt other : List ℕ) (rounds confirmed moment : ℕ) → length first ≡ 32 → length second ≡ 32
    → accepts (OneTime (verifier_of first salt rounds) (verifier_of second other rounds) confirmed) (first ++ second) moment
    ≡ serves confirmed moment
unfolding accepts
parts_accepted first second salt other rounds confirmed moment h k =
    and_true (serves confirmed moment) _ (parts_verified first second salt other rounds h k)

short_verified : (first second : VerifierParts) (text : List ℕ) → length text ≡ 32 → are_verified first second text ≡ false
short_verified first second text h = rw h refl

-- a text of 32 bytes is never accepted
short_accepted : (first second : VerifierParts) (text : List ℕ) (confirmed moment : ℕ) → length text ≡ 32
    → accepts (OneTime first second confirmed) text moment ≡ false
unfolding accepts
short_accepted first second text confirmed moment h =
    and_false (serves confirmed moment) _ (short_verified first second text h)

-- What an ask leaves.

abbrev IsAsked : List ℕ → Tick → Issued → Type 0
IsAsked caller tick asked = (asked.half ≡ half_of tick.words) × (asked.person.ask ≡ Some (new_ask caller tick))

asked_unless : (bars : Bool) (caller : List ℕ) (tick : Tick) (person : Person) (asked : Issued)
    → cond bars (Err IssueOpen) (Ok (with_ask caller tick person)) ≡ Ok asked → IsAsked caller tick asked
asked_unless true caller tick person asked h = absurd (cc)
asked_unless false caller tick person asked h =
    let same : with_ask caller tick person ≡ asked = cc in
    subst (λ one. IsAsked caller tick one) same (refl, refl)

asked_of : (meant : Result Person PeopleRefusal) (caller : List ℕ) (tick : Tick) (asked : Issued)
    → meant_then meant (λ found. cond (is_anothers caller (standing_ask found.ask tick.moment)) (Err IssueOpen) (Ok (with_ask caller tick found))) ≡ Ok asked
    → IsAsked caller tick asked
asked_of (Ok found) caller tick asked h = asked_unless (is_anothers caller (standing_ask found.ask tick.moment)) caller tick found asked h
asked_of (Err refusal) caller tick asked h = absurd (cc)

is_asked : (caller : List ℕ) (person : Option Person) (tick : Tick) (asked : Issued) → asking caller person tick ≡ Ok asked
    → IsAsked caller tick asked
unfolding asking
is_asked caller person tick asked h = asked_of (person_meant caller person) caller tick asked h

-- What its confirmation leaves.

abbrev IsConfirmed : Ask → Tick → Issued → Type 0
IsConfirmed ask tick confirmed =
    (confirmed.half ≡ half_of tick.words) × (confirmed.person.password ≡ OneTime ask.first (half_verifier tick) tick.moment)

confirmed_unless : (own : Bool) (ask : Ask) (tick : Tick) (person : Person) (confirmed : Issued)
    → cond own (Err SamePerson) (Ok (with_one_time_word tick ask person)) ≡ Ok confirmed → IsConfirmed ask tick confirmed
confirmed_unless true ask tick person confirmed h = absurd (cc)
confirmed_unless false ask tick person confirmed h =
    let same : with_one_time_word tick ask person ≡ confirmed = cc in
    subst (λ one. IsConfirmed ask tick one) same (refl, refl)

confirmed_while : (still : Bool) (caller : List ℕ) (ask : Ask) (tick : Tick) (person : Person) (confirmed : Issued)
    → confirming_of caller tick person (cond still (Some ask) None) ≡ Ok confirmed → IsConfirmed ask tick confirmed
confirmed_while true caller ask tick person confirmed h = confirmed_unless (bytes_eq ask.asker caller) ask tick person confirmed h
confirmed_while false caller ask tick person confirmed h = absurd (cc)

confirmed_of : (one : Option Ask) (caller : List ℕ) (ask : Ask) (tick : Tick) (person : Person) (confirmed : Issued) → one ≡ Some ask
    → confirming_of caller tick person (standing_ask one tick.moment) ≡ Ok confirmed → IsConfirmed ask tick confirmed
confirmed_of one caller ask tick person confirmed is h =
    confirmed_while (stands ask tick.moment) caller ask tick person confirmed
    (ap (λ left. confirming_of caller tick person (standing_ask left tick.moment)) (sym is) ∙ h)

meant_confirmed : (retired own : Bool) (caller : List ℕ) (ask : Ask) (tick : Tick) (person : Person) (confirmed : Issued) → person.ask ≡ Some ask
    → meant_then (cond retired (Err NoSuchPerson) (cond own (Err OwnIssue) (Ok person)))
    (λ found. confirming_of caller tick found (standing_ask found.ask tick.moment)) ≡ Ok confirmed
    → IsConfirmed ask tick confirmed
meant_confirmed true own caller ask tick person confirmed is h = absurd (cc)
meant_confirmed false true caller ask tick person confirmed is h = absurd (cc)
meant_confirmed false false caller ask tick person confirmed is h = confirmed_of person.ask caller ask tick person confirmed is h

is_confirmed : (caller : List ℕ) (ask : Ask) (tick : Tick) (person : Person) (confirmed : Issued) → person.ask ≡ Some ask
    → confirming caller (Some person) tick ≡ Ok confirmed → IsConfirmed ask tick confirmed
unfolding confirming
is_confirmed caller ask tick person confirmed is h =
    meant_confirmed person.retired (bytes_eq person.code caller) caller ask tick person confirmed is h

-- The word.

-- the halves are those of the ticks, and the password was made of them
given_of : (person : Option Person) (caller other : List ℕ) (tick later : Tick) (asked confirmed : Issued)
    → IsWordGiven person caller other tick later asked confirmed
    → (asked.half ≡ half_of tick.words) × IsConfirmed (new_ask caller tick) later confirmed
given_of person caller other tick later asked confirmed h =
    let first = is_asked caller person tick asked h.asks in
    (first.0, is_confirmed other (new_ask caller tick) later asked.person confirmed first.1 h.confirms)

-- the halves together are accepted while the word serves
pub halves_together : (person : Option Person) (caller other : List ℕ) (tick later : Tick) (asked confirmed : Issued) (moment : ℕ)
    → IsWordGiven person caller other tick later asked confirmed
    → accepts confirmed.person.password (one_time_word asked.half confirmed.half) moment ≡ serves later.moment moment
halves_together person caller other tick later asked confirmed moment h =
    let given = given_of person caller other tick later asked confirmed h in
    rw (given.0, given.1.0, given.1.1)
    (parts_accepted _ _ _ _ _ later.moment moment (digits_len tick.words h.eight_words) (digits_len later.words h.eight_later_words))

half_refused : (confirmed : Issued) (ask : Ask) (tick later : Tick) (half : List ℕ) (moment : ℕ) → IsConfirmed ask later confirmed
    → half ≡ half_of tick.words → length tick.words ≡ 8
    → accepts confirmed.person.password (encode_lower half) moment ≡ false
half_refused confirmed ask tick later half moment is same long =
    rw (is.1, same) (short_accepted _ _ _ later.moment moment (digits_len tick.words long))

-- and neither is alone
pub halves_alone : (person : Option Person) (caller other : List ℕ) (tick later : Tick) (asked confirmed : Issued) (moment : ℕ)
    → IsWordGiven person caller other tick later asked confirmed
    → (accepts confirmed.person.password (encode_lower asked.half) moment ≡ false)
    × (accepts confirmed.person.password (encode_lower confirmed.half) moment ≡ false)
halves_alone person caller other tick later asked confirmed moment h =
    let given = given_of person caller other tick later asked confirmed h in (
      half_refused confirmed (new_ask caller tick) tick later asked.half moment given.1 given.0 h.eight_words,
      half_refused confirmed (new_ask caller tick) later later confirmed.half moment given.1 given.1.0 h.eight_later_words,
    )
