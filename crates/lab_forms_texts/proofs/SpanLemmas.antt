-- How a day falls into spans that follow one another, as years and months do.
use Rattle.std.proofs.Common.{◌≡◌, ℕ, zero, suc, ◌+◌, ◌-◌, ◌<◌, ◌≤◌, Bool, true, false, refl, inl, inr, arith}
use Rattle.std.specs.Prelude.{nat_lt, if◌then◌else◌}
use Rattle.std.proofs.lemmas.Bool.{cases_lt, ltb-true, ltb-false}
use Rattle.lab_forms_texts.specs.Calendar.{days_of_spans, span_of, place_of}

pub total-zero : (days : ℕ → ℕ) (k : ℕ) → days_of_spans days k 0 ≡ 0
unfolding days_of_spans
total-zero days k = refl

pub total-last : (days : ℕ → ℕ) (k n : ℕ) → days_of_spans days k (suc n) ≡ days_of_spans days k n + days (k + n)
unfolding days_of_spans
total-last days k n = refl

-- later spans add days
total-add : (days : ℕ → ℕ) (k n more : ℕ) → days_of_spans days k n ≤ days_of_spans days k (more + n)
total-add days k n zero = let same : 0 + n ≡ n = omega arith in rw same (omega arith)
total-add days k n (suc more) =
    let next : suc more + n ≡ suc (more + n) = omega arith in
    rw next (omega (arith, total-add days k n more, total-last days k (more + n)))

pub total_mono : (days : ℕ → ℕ) (k n later : ℕ) → n ≤ later → days_of_spans days k n ≤ days_of_spans days k later
total_mono days k n later h =
    let same : later - n + n ≡ later = omega arith in
    rw same at (total-add days k n (later - n))

-- a day lies in one span only
pub same_span : (days : ℕ → ℕ) (k a b r s : ℕ) → r < days (k + a) → s < days (k + b)
    → days_of_spans days k a + r ≡ days_of_spans days k b + s → a ≡ b
same_span days k a b r s in_a in_b e = elim (cases_lt a b) [
  | inl lt ↦ absurd (omega (arith, total-last days k a, total_mono days k (suc a) b lt))
  | inr le ↦ elim (cases_lt b a) [
    | inl lt ↦ absurd (omega (arith, total-last days k b, total_mono days k (suc b) a lt))
    | inr ge ↦ omega arith
  ]
]

-- Where a day falls: so many spans after span k, at a place there.
pub record Falls (days : ℕ → ℕ) (k day span place : ℕ) : Type 0 where
  pub passed : ℕ
  pub span_is : span ≡ k + passed
  pub day_is : days_of_spans days k passed + place ≡ day
  pub in_span : place < days (k + passed)

-- a day that comes after j spans, and before m + 1 more have passed
falls_from : (days : ℕ → ℕ) (m k j day : ℕ) → days_of_spans days k j ≤ day → day < days_of_spans days k (j + suc m)
    → Falls days k day (span_of days m (k + j) (day - days_of_spans days k j)) (place_of days m (k + j) (day - days_of_spans days k j))
unfolding span_of place_of
falls_from days zero k j day low high =
    let next : j + 1 ≡ suc j = omega arith in
    let below : day < days_of_spans days k (suc j) = rw next at high in
    record { passed = j; span_is = refl; day_is = omega arith; in_span = omega (arith, total-last days k j) }
falls_from days (suc m) k j day low high =
    by (nat_lt (day - days_of_spans days k j) (days (k + j))) refl
    (λ low. let later : suc j + suc m ≡ j + suc (suc m) = omega arith in falls_from days m k (suc j) day low (rw later high))
  where
    by : (t : Bool) → nat_lt (day - days_of_spans days k j) (days (k + j)) ≡ t
        → (days_of_spans days k (suc j) ≤ day → Falls days k day (span_of days m (k + suc j) (day - days_of_spans days k (suc j))) (place_of days m (k + suc j) (day - days_of_spans days k (suc j))))
        → Falls days k day (if t then k + j else span_of days m (k + j + 1) (day - days_of_spans days k j - days (k + j)))
        (if t then day - days_of_spans days k j else place_of days m (k + j + 1) (day - days_of_spans days k j - days (k + j)))
    by true is rest = record { passed = j; span_is = refl; day_is = omega arith; in_span = ltb-true _ _ is }
    by false is rest =
        let past = ltb-false (day - days_of_spans days k j) (days (k + j)) is in
        let next : k + suc j ≡ k + j + 1 = omega arith in
        let left : day - days_of_spans days k (suc j) ≡ day - days_of_spans days k j - days (k + j) = omega (arith, total-last days k j) in
        rw (next, left) at (rest (omega (arith, total-last days k j)))

pub falls : (days : ℕ → ℕ) (m k day : ℕ) → day < days_of_spans days k (suc m) → Falls days k day (span_of days m k day) (place_of days m k day)
falls days m k day h =
    let none = total-zero days k in
    let here : k + 0 ≡ k = omega arith in
    let first : 0 + suc m ≡ suc m = omega arith in
    let all : day - 0 ≡ day = omega arith in
    rw (none, here, all) at (falls_from days m k 0 day (omega (arith, none)) (rw first h))

-- spans of a day or more
pub total_ge : (days : ℕ → ℕ) (k n : ℕ) → ((j : ℕ) → 1 ≤ days j) → n ≤ days_of_spans days k n
total_ge days k zero h = omega arith
total_ge days k (suc n) h = omega (arith, total_ge days k n h, total-last days k n, h (k + n))
