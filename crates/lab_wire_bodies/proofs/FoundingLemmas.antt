-- Three founders, by their places in the list.
use Rattle.std.proofs.Common.{◌≡◌, ◌<◌, ◌≤◌, List, [], ◌∷◌, length, map, get_or, Some, refl, arith}
use Rattle.serde_json.specs.Data.{Data}
use Rattle.serde_json.specs.View.{view}
use Rattle.serde_json.specs.declared.value.Value.{Value}
use Rattle.lab_wire_bodies.specs.Foundings.{founding_of_three, founding_by}

pub by_three : (values : List Value) (a b c : Value) (d : Data) → 3 ≤ length values → length values < 4
    → a ≡ get_or values 0 a → b ≡ get_or values 1 b → c ≡ get_or values 2 c
    → founding_by (Some (map view values)) d ≡ founding_of_three (view a) (view b) (view c) d
by_three [] a b c d least most x y z = absurd (omega (arith, least))
by_three (one ∷ []) a b c d least most x y z = absurd (omega (arith, least))
by_three (one ∷ two ∷ []) a b c d least most x y z = absurd (omega (arith, least))
by_three (one ∷ two ∷ three ∷ []) a b c d least most x y z = rw (x, y, z) refl
by_three (one ∷ two ∷ three ∷ four ∷ rest) a b c d least most x y z = absurd (omega (arith, most))
