-- Rows that stand in the order of a text, and rows that are read one more.
use Rattle.std.proofs.Common.{◌<◌, ◌+◌, ◌++◌, map, take, get_or, ◌≡◌, ℕ, List, [], ◌∷◌, length, refl, sym, ap, ap₂, ◌∙◌, Ordering, Less, Equal, Greater}
use Rattle.std.specs.Ordering.{nat_cmp, ordering_then}
use Rattle.std.specs.Cmp.Lexicographic.{slice_cmp}
use Rattle.std.proofs.lemmas.List.{take_more, map-append}
use Rattle.sqlite_value.specs.declared.value.Value.TheVariants.{Text}
use Rattle.sqlite_value.specs.Order.{value_cmp}
use Rattle.sqlite_value.proofs.OrderLemmas.{value_cmp-Text}

then_equal : (o : Ordering) → ordering_then o Equal ≡ o
then_equal Less = refl
then_equal Equal = refl
then_equal Greater = refl

-- one column of texts in ORDER BY
pub by_text : (s t : List ℕ) → ordering_then (value_cmp (Text s) (Text t)) Equal ≡ slice_cmp nat_cmp s t
by_text s t = then_equal _ ∙ value_cmp-Text s t

-- one row more was read
pub mapped_more : {X Y : Type 0} (f : X → Y) (xs : List X) (i : ℕ) (x : X) (made more : List Y) (y : Y)
    → made ≡ map f (take i xs) → i < length xs → x ≡ get_or xs i x → y ≡ f x → more ≡ made ++ y ∷ [] → more ≡ map f (take (i + 1) xs)
mapped_more f xs i x made more y so below is read put =
    put ∙ ap₂ (λ l z. l ++ z ∷ []) so (read ∙ ap f is) ∙ sym (ap (map f) (take_more xs i x below) ∙ map-append f (take i xs) (get_or xs i x ∷ []))
