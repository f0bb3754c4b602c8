-- Facts on numbers in decimal digits.
use Rattle.std.proofs.Common.{◌≡◌, ℕ, ◌+◌, ◌-◌, ◌*◌, ◌<◌, ◌≤◌, List, [], ◌∷◌, length, drop, get_or, Option, Some, None, refl, arith, nat_le, Bool, true, false, cond, ◌&&◌, ap, ◌∙◌, ◌==◌}
use Rattle.std.specs.Char.{digit_value, is_ascii_digit}
use Rattle.std.specs.Str.{all_ascii_digits}
use Rattle.std.specs.Str.Parse.{digits_value_after}
use Rattle.std.specs.Bool.{then_some, IsTrue}
use Rattle.std.specs.Prelude.{Result, Ok, Err, IfOk, IfErr, pos, ℤ, ◌≢◌}
use Rattle.std.specs.Result.{result_ok}
use Rattle.lab_forms_texts.specs.Moment.{is_moment}
use Rattle.std.proofs.lemmas.List.{at_drop_more, at_drop_all}
use Rattle.std.proofs.lemmas.Bool.Decides.{nat_tests}
use Rattle.lab_program_replay.specs.Event.{number_where}

-- the number that digits write after those of `value`, if it passes
unfoldable pub number_on : (ℕ → Bool) → ℕ → List ℕ → Option ℕ
number_on admits value digits =
    cond (all_ascii_digits digits && admits (digits_value_after 10 value digits))
    (Some (digits_value_after 10 value digits)) None

pub number_where-empty : (admits : ℕ → Bool) (text : List ℕ) → (length text == 0) ≡ true →
    number_where admits text ≡ None
unfolding number_where
number_where-empty admits [] h = refl
number_where-empty admits (b ∷ bs) h = absurd (grind (arith, nat_tests))

pub number_where-on : (admits : ℕ → Bool) (text : List ℕ) → (length text == 0) ≡ false →
    number_where admits text ≡ number_on admits 0 text
unfolding number_where number_on
number_where-on admits [] h = absurd (cc)
number_where-on admits (b ∷ bs) h = refl

value_of_digit : (b : ℕ) → is_ascii_digit b ≡ true → digit_value b ≡ b - 48
value_of_digit b h = grind (arith, nat_tests)

pub number_on-digit : (admits : ℕ → Bool) (value b : ℕ) (bs : List ℕ) → is_ascii_digit b ≡ true →
    number_on admits value (b ∷ bs) ≡ number_on admits (value * 10 + (b - 48)) bs
unfolding number_on
number_on-digit admits value b bs h = rw (h, value_of_digit b h) refl

pub number_on-other : (admits : ℕ → Bool) (value b : ℕ) (bs : List ℕ) → is_ascii_digit b ≡ false →
    number_on admits value (b ∷ bs) ≡ None
unfolding number_on
number_on-other admits value b bs h = rw h refl

digits_grow : (n : ℕ) (ds : List ℕ) → n ≤ digits_value_after 10 n ds
digits_grow n [] = omega arith
digits_grow n (d ∷ ds) = omega (arith, digits_grow (n * 10 + digit_value d) ds)

refused : (t : Bool) (most n : ℕ) → most < n → cond (t && nat_le n most) (Some n) None ≡ None
refused true most n h = grind (arith, nat_tests)
refused false most n h = refl

-- a number that passes the greatest stays so
pub number_on-over : (most value : ℕ) (bs : List ℕ) → most < value →
    number_on (λ n. nat_le n most) value bs ≡ None
unfolding number_on
number_on-over most value bs h =
    refused (all_ascii_digits bs) most (digits_value_after 10 value bs)
    (omega (arith, digits_grow value bs))

cond_then : (b : Bool) (n : ℕ) → cond b (Some n) None ≡ then_some b n
cond_then true n = refl
cond_then false n = refl

pub number_on-end : (most value : ℕ) →
    number_on (λ n. nat_le n most) value [] ≡ then_some (nat_le value most) value
unfolding number_on
number_on-end most value = cond_then (nat_le value most) value

-- a text whose first i bytes were read

pub read_other : (admits : ℕ → Bool) (value i : ℕ) (text : List ℕ) → i < length text →
    is_ascii_digit (get_or text i 0) ≡ false
    → number_where admits text ≡ number_on admits value (drop i text) →
    number_where admits text ≡ None
read_other admits value i text h other sofar =
    sofar ∙ at_drop_more (number_on admits value) text i 0 h
    ∙ number_on-other admits value (get_or text i 0) (drop (i + 1) text) other

pub read_digit : (admits : ℕ → Bool) (value i : ℕ) (text : List ℕ) → i < length text →
    is_ascii_digit (get_or text i 0) ≡ true
    → number_where admits text ≡ number_on admits value (drop i text)
    → number_where admits text ≡ number_on admits (value * 10 + (get_or text i 0 - 48))
    (drop (i + 1) text)
read_digit admits value i text h digit sofar =
    sofar ∙ at_drop_more (number_on admits value) text i 0 h
    ∙ number_on-digit admits value (get_or text i 0) (drop (i + 1) text) digit

pub read_over : (most value i : ℕ) (text : List ℕ) → i < length text →
    is_ascii_digit (get_or text i 0) ≡ true
    → most < value * 10 + (get_or text i 0 - 48)
    → number_where (λ n. nat_le n most) text ≡ number_on (λ n. nat_le n most) value (drop i text)
    → number_where (λ n. nat_le n most) text ≡ None
read_over most value i text h digit over sofar =
    read_digit (λ n. nat_le n most) value i text h digit sofar
    ∙ number_on-over most _ (drop (i + 1) text) over

pub read_end : (most value i : ℕ) (text : List ℕ) → length text ≤ i
    → number_where (λ n. nat_le n most) text ≡ number_on (λ n. nat_le n most) value (drop i text)
    → number_where (λ n. nat_le n most) text ≡ then_some (nat_le value most) value
read_end most value i text h sofar =
    sofar ∙ at_drop_all (number_on (λ n. nat_le n most) value) text i h ∙ number_on-end most value

-- A number under a second test.

within : (t : Bool) (most n m : ℕ) → cond (t && nat_le n most) (Some n) None ≡ Some m → m ≤ most
within t most n m e = grind (arith, nat_tests)

pub number_where_le : (most n : ℕ) (text : List ℕ) →
    number_where (λ n. nat_le n most) text ≡ Some n → n ≤ most
unfolding number_where
number_where_le most n [] e = absurd (cc)
number_where_le most n (b ∷ bs) e = within _ most _ n e

both : (t : Bool) (n m : ℕ) (p q : Bool) → (q ≡ true → p ≡ true) →
    cond (t && p) (Some n) None ≡ None → cond (t && q) (Some n) None ≡ None
both false n m p q h e = refl
both true n m p false h e = refl
both true n m p true h e = absurd
    (let e' : ◌≡◌ {A = Option ℕ} (Some n) None = rw (h refl) at e in cc)

-- a text that is refused by a test is refused by a stricter one
pub number_where-stricter : (p q : ℕ → Bool) (text : List ℕ) → ((n : ℕ) → q n ≡ true → p n ≡ true) →
    number_where p text ≡ None → number_where q text ≡ None
unfolding number_where
number_where-stricter p q [] h e = refl
number_where-stricter p q (b ∷ bs) h e = both _ _ 0 _ _ (h _) e

chosen : (t : Bool) (n m : ℕ) (p q : Bool) → cond (t && p) (Some n) None ≡ Some m →
    (n ≡ m) × (cond (t && q) (Some n) None ≡ cond q (Some m) None)
chosen false n m p q e = absurd (cc)
chosen true n m false q e = absurd (cc)
chosen true n m true q e = (cc, let same : n ≡ m = cc in ap (λ k. cond q (Some k) None) same)

-- and a text that is read is read under another test if its number passes that
pub number_where-also : (p q : ℕ → Bool) (n : ℕ) (text : List ℕ) → number_where p text ≡ Some n →
    number_where q text ≡ cond (q n) (Some n) None
unfolding number_where
number_where-also p q n [] e = absurd (cc)
number_where-also p q n (b ∷ bs) e =
    let parts = chosen _ _ n _ (q _) e in
    parts.1 ∙ ap (λ k. cond (q k) (Some n) None) parts.0

-- the moment of a number, as the number's own test
pub moment_of : {E : Type 0} (n : ℕ) (z : ℤ) (r : Result ℕ E) → z ≡ pos n
    → IfOk r (λ moment. IsTrue (is_moment moment) × (z ≡ pos moment)) →
    IfErr r (λ _. (k : ℕ) → IsTrue (is_moment k) → z ≢ pos k)
    → result_ok r ≡ cond (is_moment n) (Some n) None
moment_of n z (Ok m) e ok err = let same : n ≡ m = cc in grind (arith, nat_tests, ok.0)
moment_of n z (Err _) e ok err = grind (arith, nat_tests, err n)
