-- Lists whose items are numbered, and lists that differ in what isn't numbered.
use Rattle.std.proofs.Common.{◌≡◌, ◌+◌, ℕ, true, List, [], ◌∷◌, ◌++◌, length, refl, ◌∙◌, arith, length-append}
use Rattle.std.specs.Prelude.{map, bytes_eq}
use Rattle.std.proofs.lemmas.Slice.Eq.{bytes_eq-Decides}
use Rattle.lab_records_kept.specs.Limits.{AreNumberedAfter, AreNumbered}

pub same_bytes : (bytes : List ℕ) → bytes_eq bytes bytes ≡ true
same_bytes bytes = (bytes_eq-Decides bytes bytes).1 refl

-- one more item, with the next number
pub numbered_after_more : {A : Type 0} (number : A → ℕ) (before : ℕ) (list : List A) (item : A)
    → number item ≡ before + length list + 1 → AreNumberedAfter number before list
    → AreNumberedAfter number before (list ++ item ∷ [])
numbered_after_more number before [] item next numbered = (omega arith, record {})
numbered_after_more number before (one ∷ others) item next numbered =
    (numbered.0, numbered_after_more number (before + 1) others item (omega arith) numbered.1)

pub numbered_more : {A : Type 0} (number : A → ℕ) (list : List A) (item : A)
    → number item ≡ length list + 1 → AreNumbered number list
    → AreNumbered number (list ++ item ∷ [])
numbered_more number list item next numbered =
    numbered_after_more number 0 list item (omega arith) numbered

-- items of the same numbers
pub numbered_same : {A : Type 0} (number : A → ℕ) (before : ℕ) (old new : List A)
    → map number new ≡ map number old → AreNumberedAfter number before old
    → AreNumberedAfter number before new
numbered_same number before [] [] same numbered = record {}
numbered_same number before [] (other ∷ more) same numbered = absurd (cc)
numbered_same number before (one ∷ others) [] same numbered = absurd (cc)
numbered_same number before (one ∷ others) (other ∷ more) same numbered =
    let head : number other ≡ number one = cc in
    let tail : map number more ≡ map number others = cc in
    (head ∙ numbered.0, numbered_same number (before + 1) others more tail numbered.1)

-- lists that are the same in something are as long
pub same_length : {A B : Type 0} (part : A → B) (old new : List A) → map part new ≡ map part old
    → length new ≡ length old
same_length part [] [] same = refl
same_length part [] (other ∷ more) same = absurd (cc)
same_length part (one ∷ others) [] same = absurd (cc)
same_length part (one ∷ others) (other ∷ more) same =
    let tail : map part more ≡ map part others = cc in
    let same_tail : length more ≡ length others = same_length part others more tail in
    omega arith

pub longer : {A : Type 0} (list : List A) (item : A) → length (list ++ item ∷ []) ≡ length list + 1
longer list item = omega (arith, length-append list (item ∷ []))
