-- Lists of typed rows: those that share a key.
use Rattle.std.proofs.Common.{◌≤◌, ℕ, ℤ, ◌&&◌, List, filter, length, sym, ◌∙◌, int_eq, bytes_eq}
use Rattle.std.proofs.lemmas.Bool.{and_parts, and_from}
use Rattle.sqlite_keyed.specs.Rules.{AreApart}
use Rattle.sqlite_keyed.proofs.KeyedLemmas.{same_int}
use Rattle.lab_store_read.proofs.Lists.{alone_if, int_alike}
use Rattle.lab_store_tables.proofs.Comparing.{text_is, text_alike}

-- one parent and two texts
pub alone_key : {X : Type 0} (parent : X → ℤ) (first second : X → List ℕ) (v : ℤ) (f s : List ℕ) (xs : List X)
    → AreApart (λ a b. (int_eq (parent a) (parent b) && bytes_eq (first a) (first b)) && bytes_eq (second a) (second b)) xs
    → length (filter (λ x. int_eq (parent x) v && (bytes_eq (first x) f && bytes_eq (second x) s)) xs) ≤ 1
alone_key parent first second v f s = alone_if _ _ (λ a b p q.
    let one = and_parts _ _ p in
    let two = and_parts _ _ q in
    let ones = and_parts _ _ one.1 in
    let twos = and_parts _ _ two.1 in
    and_from _ _ (and_from _ _ (int_alike _ _ (same_int _ v one.0 ∙ sym (same_int _ v two.0))) (text_alike _ _ (text_is _ f ones.0 ∙ sym (text_is _ f twos.0))))
    (text_alike _ _ (text_is _ s ones.1 ∙ sym (text_is _ s twos.1))))
