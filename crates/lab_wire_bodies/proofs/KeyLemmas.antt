-- Keys that stand twice in a list.
use Rattle.std.proofs.Common.{◌≡◌, ◌∙◌, ℕ, suc, ◌+◌, ◌<◌, List, [], ◌∷◌, map, length, get_or, take, drop, refl, sym, ap, add-one, ◌-◌, arith, length-drop, Bool}
use Rattle.std.specs.Prelude.{◌||◌, bytes_eq}
use Rattle.std.specs.List.{list_any}
use Rattle.std.proofs.Math.Seq.{drop-cons}
use Rattle.std.proofs.lemmas.List.{take_all}
use Rattle.lab_forms.specs.Words.{has_text, has_text_twice}

-- a text among those of the things
has_text-map : {X : Type 0} (f : X → List ℕ) (xs : List X) (text : List ℕ) → has_text (map f xs) text ≡ list_any (λ x. bytes_eq (f x) text) xs
has_text-map f [] text = refl
has_text-map f (x ∷ xs) text = ap (λ rest. bytes_eq (f x) text || rest) (has_text-map f xs text)

-- all that is left from a place on
rest_all : {X : Type 0} (xs : List X) (k : ℕ) → take (length xs - k) (drop k xs) ≡ drop k xs
rest_all xs k = take_all (length xs - k) (drop k xs) (omega (arith, length-drop k xs))

-- a text stands twice from one place on if it stands again behind, or another stands twice behind
pub twice-drop : {X : Type 0} (f : X → List ℕ) (xs : List X) (i : ℕ) (x : X) (text : List ℕ) (again : Bool) → i < length xs → x ≡ get_or xs i x → text ≡ f x → again ≡ list_any (λ y. bytes_eq (f y) text) (take (length xs - (i + 1)) (drop (i + 1) xs)) → has_text_twice (map f (drop i xs)) ≡ (again || has_text_twice (map f (drop (i + 1) xs)))
twice-drop f xs i x text again h is named test =
    let here : drop i xs ≡ x ∷ drop (i + 1) xs = rw add-one (drop-cons xs i x h ∙ ap (λ y. y ∷ drop (suc i) xs) (sym is)) in
    let rest = rest_all xs (i + 1) in
    let known : again ≡ has_text (map f (drop (i + 1) xs)) (f x) = test ∙ rw (rest, named) (sym (has_text-map f (drop (i + 1) xs) (f x))) in
    rw (here, known) refl
