-- Lists that extend others, and items that are put before the first that passes a test.
use Rattle.std.proofs.Common.{◌≡◌, ℕ, suc, ◌+◌, Bool, true, false, cond, not, List, [], ◌∷◌, ◌++◌, length, refl, ◌∙◌, ap, arith}
use Rattle.std.specs.List.{insert, position_or_len}
use Rattle.lab_records_kept.specs.Keeping.{Extends, IsPrefix}

-- ---- extending

pub extends_itself : {A : Type 0} (Same : A → A → Type 0) → ((one : A) → Same one one)
    → (list : List A) → Extends Same list list
extends_itself Same same [] = tt
extends_itself Same same (one ∷ others) = (same one, extends_itself Same same others)

pub extends_more : {A : Type 0} (Same : A → A → Type 0) → ((one : A) → Same one one)
    → (list more : List A) → Extends Same list (list ++ more)
extends_more Same same [] more = tt
extends_more Same same (one ∷ others) more = (same one, extends_more Same same others more)

pub extends_on : {A : Type 0} (Same : A → A → Type 0)
    → ((one two three : A) → Same one two → Same two three → Same one three)
    → (old between new : List A) → Extends Same old between → Extends Same between new
    → Extends Same old new
extends_on Same on [] between new h g = tt
extends_on Same on (one ∷ others) [] new h g = absurd h
extends_on Same on (one ∷ others) (two ∷ more) [] h g = absurd g
extends_on Same on (one ∷ others) (two ∷ more) (three ∷ most) h g =
    (on one two three h.0 g.0, extends_on Same on others more most h.1 g.1)

pub prefix_itself : {A : Type 0} (list : List A) → IsPrefix list list
prefix_itself list = extends_itself (λ one other. other ≡ one) (λ one. refl) list

pub prefix_more : {A : Type 0} (list more : List A) → IsPrefix list (list ++ more)
prefix_more list more = extends_more (λ one other. other ≡ one) (λ one. refl) list more

pub prefix_on : {A : Type 0} (old between new : List A) → IsPrefix old between
    → IsPrefix between new
    → IsPrefix old new
prefix_on old between new h g =
    extends_on (λ one other. other ≡ one) (λ one two three a b. b ∙ a) old between new h g

-- ---- items among others

-- an item before the first that passes the test, or as the last
abbrev pub placed : {A : Type 0} → (A → Bool) → A → List A → List A
placed test item [] = item ∷ []
placed test item (one ∷ others) =
    cond (test one) (item ∷ one ∷ others) (one ∷ placed test item others)

inserted_by : {A : Type 0} (passes : Bool) (n : ℕ) (item one : A) (others : List A)
    → insert (one ∷ others) (cond (not passes) (1 + n) 0) item
    ≡ cond passes (item ∷ one ∷ others) (one ∷ insert others n item)
inserted_by true n item one others = refl
inserted_by false n item one others =
    let next : 1 + n ≡ suc n = omega arith in
    ap (λ k. insert (one ∷ others) k item) next

pub inserted_is : {A : Type 0} (test : A → Bool) (item : A) (list : List A)
    → insert list (position_or_len test list) item ≡ placed test item list
inserted_is test item [] = refl
inserted_is test item (one ∷ others) =
    inserted_by (test one) (position_or_len test others) item one others
    ∙ ap (λ rest. cond (test one) (item ∷ one ∷ others) (one ∷ rest)) (inserted_is test item others)

length_by : {A : Type 0} (passes : Bool) (item one : A) (others rest : List A)
    → length rest ≡ length others + 1
    → length (cond passes (item ∷ one ∷ others) (one ∷ rest)) ≡ length (one ∷ others) + 1
length_by true item one others rest h = omega arith
length_by false item one others rest h = omega arith

pub length_placed : {A : Type 0} (test : A → Bool) (item : A) (list : List A)
    → length (placed test item list) ≡ length list + 1
length_placed test item [] = omega arith
length_placed test item (one ∷ others) =
    length_by (test one) item one others (placed test item others) (length_placed test item others)
