-- Records that bear the numbers from 1 on: those of a range are the records that are found under its
-- numbers, one after the other.
use Rattle.std.proofs.Common.{◌≡◌, ◌⊎◌, ℕ, zero, suc, ◌+◌, ◌-◌, ◌<◌, ◌≤◌, Bool, true, false, cond, ◌&&◌, nat_le, List, [], ◌∷◌, ◌++◌, length, Option, Some, None, refl, sym, ap, ◌∙◌, arith, append-nil, append_assoc, option_to_list, inl, inr}
use Rattle.std.proofs.lemmas.Bool.{cases_order, cases_lt, le-leb, lt-leb, eq-eqb, ne_eqb}
use Rattle.lab_records_kept.specs.declared.labs.Lab.{Lab}
use Rattle.lab_records_kept.specs.declared.records.Record.{Record}
use Rattle.lab_records_kept.specs.Limits.{AreNumberedAfter, AreNumbered}
use Rattle.lab_records_kept.specs.Lookups.{record_of}
use Rattle.lab_records_kept.specs.Lookups.{is_within, records_within}
use Rattle.lab_records_copy_out.specs.Private.CopyTexts.{last_walked}
use Rattle.lab_records_copy_out.specs.CopyTexts.{numbers_between, record_at, walked}

abbrev Numbered : ℕ → List Record → Type 0
Numbered before records = AreNumberedAfter (λ (kept : Record). kept.number) before records

-- ---- whether a number is in a range

not_both : (b : Bool) → (b && false) ≡ false
not_both true = refl
not_both false = refl

past : (from to number : ℕ) → to < number → is_within from to number ≡ false
past from to number lt = ap (λ b. nat_le from number && b) (lt-leb number to lt) ∙ not_both (nat_le from number)

too_early : (from to number : ℕ) → number < from → is_within from to number ≡ false
too_early from to number lt = ap (λ b. b && nat_le number to) (lt-leb from number lt)

inside : (from to number : ℕ) → from ≤ number → number ≤ to → is_within from to number ≡ true
inside from to number least most =
    ap (λ b. b && nat_le number to) (le-leb from number least) ∙ le-leb number to most

same_side : (from to more number : ℕ) → number ≤ to → number ≤ more →
    is_within from to number ≡ is_within from more number
same_side from to more number one other =
    ap (λ b. nat_le from number && b) (le-leb number to one ∙ sym (le-leb number more other))

-- ---- one record, and the others

left_out : (from to : ℕ) (kept : Record) (others : List Record) →
    is_within from to kept.number ≡ false →
    records_within from to (kept ∷ others) ≡ records_within from to others
left_out from to kept others is =
    ap (λ b. cond b (kept ∷ records_within from to others) (records_within from to others)) is

taken_in : (from to : ℕ) (kept : Record) (others : List Record) →
    is_within from to kept.number ≡ true →
    records_within from to (kept ∷ others) ≡ kept ∷ records_within from to others
taken_in from to kept others is =
    ap (λ b. cond b (kept ∷ records_within from to others) (records_within from to others)) is

not_this : (number : ℕ) (kept : Record) (others : List Record) → (kept.number ≡ number → ⊥) →
    record_of (kept ∷ others) number ≡ record_of others number
not_this number kept others differs =
    ap (λ b. cond b (Some kept) (record_of others number)) (ne_eqb kept.number number differs)

this_one : (number : ℕ) (kept : Record) (others : List Record) → kept.number ≡ number →
    record_of (kept ∷ others) number ≡ Some kept
this_one number kept others same =
    ap (λ b. cond b (Some kept) (record_of others number)) (eq-eqb kept.number number same)

-- ---- none

-- a range that ends before the records has none of them
none_within : (from to before : ℕ) (records : List Record) → to ≤ before →
    Numbered before records → records_within from to records ≡ []
none_within from to before [] ends numbered = refl
none_within from to before (kept ∷ others) ends numbered =
    left_out from to kept others (past from to kept.number (omega (arith, numbered.0)))
    ∙ none_within from to (before + 1) others (omega arith) numbered.1

-- nor has one that ends before it begins
none_between : (from to : ℕ) (records : List Record) → to < from →
    records_within from to records ≡ []
none_between from to [] lt = refl
none_between from to (kept ∷ others) lt =
    by (cases_lt kept.number from) (none_between from to others lt)
  where
    by : (kept.number < from) ⊎ (from ≤ kept.number) → records_within from to others ≡ [] →
        records_within from to (kept ∷ others) ≡ []
    by (inl early) none =
        left_out from to kept others (too_early from to kept.number early) ∙ none
    by (inr late) none =
        left_out from to kept others (past from to kept.number (omega arith)) ∙ none

-- and a number before the records is none of theirs
none_found : (number before : ℕ) (records : List Record) → number ≤ before →
    Numbered before records → record_of records number ≡ None
none_found number before [] ends numbered = refl
none_found number before (kept ∷ others) ends numbered =
    not_this number kept others (λ same. omega (arith, numbered.0, same))
    ∙ none_found number (before + 1) others (omega arith) numbered.1

-- ---- a range with one number more has the record of that number more

keep_first : (b : Bool) (kept : Record) (more fewer last : List Record) → more ≡ fewer ++ last →
    cond b (kept ∷ more) more ≡ cond b (kept ∷ fewer) fewer ++ last
keep_first true kept more fewer last is = ap (λ (l : List Record). kept ∷ l) is
keep_first false kept more fewer last is = is

one_more : (from to before : ℕ) (records : List Record) → from ≤ to + 1 →
    Numbered before records → records_within from (to + 1) records
    ≡ records_within from to records ++ option_to_list (record_of records (to + 1))
one_more from to before [] le numbered = refl
one_more from to before (kept ∷ others) le numbered =
    by (cases_order before to) (one_more from to (before + 1) others le numbered.1)
  where
    by : (before ≡ to) ⊎ ((before < to) ⊎ (to < before)) →
        records_within from (to + 1) others
        ≡ records_within from to others ++ option_to_list (record_of others (to + 1)) →
        records_within from (to + 1) (kept ∷ others)
        ≡ records_within from to (kept ∷ others)
        ++ option_to_list (record_of (kept ∷ others) (to + 1))
    by (inl same) rest =
        let here : kept.number ≡ to + 1 = omega (arith, numbered.0, same) in
        let left : records_within from (to + 1) (kept ∷ others) ≡ kept ∷ [] =
        taken_in from (to + 1) kept others
        (inside from (to + 1) kept.number (omega (arith, here, le)) (omega (arith, here)))
        ∙ ap (λ (l : List Record). kept ∷ l)
        (none_within from (to + 1) (before + 1) others (omega (arith, same)) numbered.1) in
        let right : records_within from to (kept ∷ others) ≡ [] =
        none_within from to before (kept ∷ others) (omega (arith, same)) numbered in
        left ∙ sym (ap (λ l. l ++ option_to_list (record_of (kept ∷ others) (to + 1))) right
        ∙ ap option_to_list (this_one (to + 1) kept others here))
    by (inr (inl lt)) rest =
        let small : kept.number ≤ to = omega (arith, numbered.0, lt) in
        ap (λ b. cond b (kept ∷ records_within from (to + 1) others)
        (records_within from (to + 1) others))
        (same_side from (to + 1) to kept.number (omega (arith, small)) small)
        ∙ keep_first (is_within from to kept.number) kept _ _
        (option_to_list (record_of others (to + 1))) rest
        ∙ ap (λ (o : Option Record). records_within from to (kept ∷ others) ++ option_to_list o)
        (sym (not_this (to + 1) kept others (λ same. omega (arith, small, same))))
    by (inr (inr lt)) rest =
        none_within from (to + 1) before (kept ∷ others) (omega (arith, lt)) numbered
        ∙ sym (ap (λ l. l ++ option_to_list (record_of (kept ∷ others) (to + 1)))
        (none_within from to before (kept ∷ others) (omega (arith, lt)) numbered)
        ∙ ap option_to_list (none_found (to + 1) before (kept ∷ others) (omega (arith, lt)) numbered))

-- a range has no more by numbers behind the last record
end_within : (from to more before : ℕ) (records : List Record) → before + length records ≤ to →
    to ≤ more → Numbered before records →
    records_within from to records ≡ records_within from more records
end_within from to more before [] all le numbered = refl
end_within from to more before (kept ∷ others) all le numbered =
    ap (λ b. cond b (kept ∷ records_within from to others) (records_within from to others))
    (same_side from to more kept.number (omega (arith, numbered.0, all))
    (omega (arith, numbered.0, all, le)))
    ∙ ap (λ (l : List Record). cond (is_within from more kept.number) (kept ∷ l) l)
    (end_within from to more (before + 1) others (omega (arith, all)) le numbered.1)

-- ---- the walk

-- one number has the record of its range
first_walked : (lab : Lab) (from : ℕ) →
    AreNumbered (λ (kept : Record). kept.number) lab.records →
    walked (Some lab) from 1 ≡ records_within from from lab.records
first_walked lab zero numbered =
    ap option_to_list (none_found 0 0 lab.records (omega arith) numbered)
    ∙ sym (none_within 0 0 0 lab.records (omega arith) numbered)
first_walked lab (suc from) numbered =
    let here : suc from + 0 ≡ from + 1 = omega arith in
    let end : from + 1 ≡ suc from = omega arith in
    ap (λ number. option_to_list (record_of lab.records number)) here
    ∙ sym (one_more (suc from) from 0 lab.records (omega arith) numbered
    ∙ ap (λ l. l ++ option_to_list (record_of lab.records (from + 1)))
    (none_between (suc from) from lab.records (omega arith)))
    ∙ ap (λ last. records_within (suc from) last lab.records) end

-- and so have more
walked_count : (lab : Lab) (from : ℕ) →
    AreNumbered (λ (kept : Record). kept.number) lab.records → (count : ℕ) →
    walked (Some lab) from (suc count) ≡ records_within from (from + count) lab.records
walked_count lab from numbered zero =
    let same : from ≡ from + 0 = omega arith in
    first_walked lab from numbered ∙ ap (λ last. records_within from last lab.records) same
walked_count lab from numbered (suc count) =
    let next : from + suc count ≡ (from + count) + 1 = omega arith in
    ap (λ l. l ++ option_to_list (record_of lab.records (from + suc count)))
    (walked_count lab from numbered count)
    ∙ ap (λ number. records_within from (from + count) lab.records
    ++ option_to_list (record_of lab.records number)) next
    ∙ sym (one_more from (from + count) 0 lab.records (omega arith) numbered)
    ∙ ap (λ last. records_within from last lab.records) (sym next)

last_within : (from to : ℕ) (records : List Record) →
    AreNumbered (λ (kept : Record). kept.number) records →
    records_within from (last_walked to (length records)) records ≡ records_within from to records
last_within from to records numbered = by (cases_lt to (length records))
  where
    by : (to < length records) ⊎ (length records ≤ to) →
        records_within from (last_walked to (length records)) records
        ≡ records_within from to records
    by (inl lt) =
        let same : last_walked to (length records) ≡ to = omega (arith, lt) in
        ap (λ last. records_within from last records) same
    by (inr le) =
        let same : last_walked to (length records) ≡ length records = omega (arith, le) in
        ap (λ last. records_within from last records) same
        ∙ end_within from (length records) to 0 records (omega arith) le numbered

-- the records of the numbers from one up to the last that is kept are those of the range
pub walked_range : (lab : Lab) (from to : ℕ) →
    AreNumbered (λ (kept : Record). kept.number) lab.records →
    walked (Some lab) from (numbers_between from (last_walked to (length lab.records)))
    ≡ records_within from to lab.records
walked_range lab from to numbered =
    walked_to (last_walked to (length lab.records)) (cases_lt (last_walked to (length lab.records)) from)
    ∙ last_within from to lab.records numbered
  where
    walked_to : (last : ℕ) → (last < from) ⊎ (from ≤ last) →
        walked (Some lab) from (numbers_between from last) ≡ records_within from last lab.records
    walked_to last (inl lt) =
        let none : numbers_between from last ≡ 0 = omega (arith, lt) in
        ap (walked (Some lab) from) none ∙ sym (none_between from last lab.records lt)
    walked_to last (inr le) =
        let count : numbers_between from last ≡ suc (last - from) = omega (arith, le) in
        let same : from + (last - from) ≡ last = omega (arith, le) in
        ap (walked (Some lab) from) count ∙ walked_count lab from numbered (last - from)
        ∙ ap (λ end. records_within from end lab.records) same

-- ---- the walk so far is the front of the whole walk

walked_front : (lab : Option Lab) (from count more : ℕ) →
    (rest : List Record) × (walked lab from (count + more) ≡ walked lab from count ++ rest)
walked_front lab from count zero =
    let same : count + 0 ≡ count = omega arith in
    ([], ap (walked lab from) same ∙ sym (append-nil (walked lab from count)))
walked_front lab from count (suc more) =
    let one = walked_front lab from count more in
    let last = option_to_list (record_at (from + (count + more)) lab) in
    let next : count + suc more ≡ suc (count + more) = omega arith in (
      one.0 ++ last,
      ap (walked lab from) next ∙ ap (λ l. l ++ last) one.1
          ∙ append_assoc (walked lab from count) one.0 last,
    )

-- up to one number more
pub next_walked : (lab : Option Lab) (from number : ℕ) → from ≤ number →
    walked lab from (number + 1 - from)
    ≡ walked lab from (number - from) ++ option_to_list (record_at number lab)
next_walked lab from number le =
    let next : number + 1 - from ≡ suc (number - from) = omega (arith, le) in
    let here : from + (number - from) ≡ number = omega (arith, le) in
    ap (walked lab from) next
    ∙ ap (λ n. walked lab from (number - from) ++ option_to_list (record_at n lab)) here

-- and up to a last one
pub later_walked : (lab : Option Lab) (from number last : ℕ) → from ≤ number → number ≤ last →
    (rest : List Record) × (walked lab from (numbers_between from last)
    ≡ (walked lab from (number - from) ++ option_to_list (record_at number lab)) ++ rest)
later_walked lab from number last le within =
    let front = walked_front lab from (number + 1 - from) (last - number) in
    let all : numbers_between from last ≡ (number + 1 - from) + (last - number) =
    omega (arith, le, within) in (
      front.0,
      ap (walked lab from) all ∙ front.1
          ∙ ap (λ l. l ++ front.0) (next_walked lab from number le),
    )
