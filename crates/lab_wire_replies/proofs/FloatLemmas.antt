-- Whole numbers, texts, and lists and objects of them have no number with a point, so that each has one text.
use Rattle.std.proofs.Common.{◌≡◌, List, [], ◌∷◌, map, Bool, true, false, refl}
use Rattle.std.specs.Prelude.{ℕ, ◌||◌}
use Rattle.serde_json.specs.Data.{Data, string}
use Rattle.serde_json.specs.View.{items_of}
use Rattle.serde_json.specs.Written.{has_float, items_have_float}

pub neither : (one other : Bool) → one ≡ false → other ≡ false → (one || other) ≡ false
neither true other h more = h
neither false other h more = more

-- a list of things none of which has one
pub list_floats : {A : Type 0} (data_of : A → Data) → ((thing : A) → has_float (data_of thing) ≡ false)
    → (things : List A) → items_have_float (items_of (map data_of things)) ≡ false
list_floats data_of h [] = refl
list_floats data_of h (thing ∷ things) = neither _ _ (h thing) (list_floats data_of h things)

pub texts_floats : (texts : List (List ℕ)) → items_have_float (items_of (map string texts)) ≡ false
texts_floats texts = list_floats string (λ text. refl) texts
