-- What holds of each of the first items of a list, and of one more.
use Rattle.std.proofs.Common.{◌≡◌, ℕ, ◌+◌, ◌<◌, ◌≤◌, List, [], ◌∷◌, ◌++◌, length, take, sym, ap, subst, ◌∙◌}
use Rattle.std.specs.Prelude.{All, slice_index_or}
use Rattle.std.proofs.lemmas.List.{take_all, take_more}
use Rattle.std.proofs.lemmas.List.Elements.{All-push}

pub each_more : {A : Type 0} (Holds : A → Type 0) (list : List A) (count : ℕ) (one : A) →
    count < length list → one ≡ slice_index_or list count one → Holds one →
    All Holds (take count list) → All Holds (take (count + 1) list)
each_more Holds list count one lt at is so_far =
    let grown : take count list ++ one ∷ [] ≡ take (count + 1) list =
    ap (λ it. take count list ++ it ∷ []) at ∙ sym (take_more list count one lt) in
    subst (All Holds) grown (All-push Holds (take count list) one so_far is)

-- the same where the items are those of another list
pub each_more_of : {A : Type 0} (Holds : A → Type 0) (list items : List A) (count : ℕ) (one : A) →
    items ≡ list → count < length items → one ≡ slice_index_or items count one → Holds one →
    All Holds (take count list) → All Holds (take (count + 1) list)
each_more_of Holds list items count one same lt at is so_far =
    each_more Holds list count one (subst (λ l. count < length l) same lt)
    (subst (λ l. one ≡ slice_index_or l count one) same at) is so_far

-- and of each, where these are all
pub each_of : {A : Type 0} (Holds : A → Type 0) (list : List A) (count : ℕ) → length list ≤ count →
    All Holds (take count list) → All Holds list
each_of Holds list count all is = subst (All Holds) (take_all count list all) is
