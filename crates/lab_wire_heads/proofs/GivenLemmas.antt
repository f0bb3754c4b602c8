-- What a reader gave, put together.
use Rattle.std.proofs.Common.{◌≡◌, ℕ, ◌+◌, ◌<◌, ◌≤◌, List, [], ◌∷◌, ◌++◌, length, take, drop, sym, ap, subst, ◌∙◌, refl, arith, append_assoc, length-append, append-nil, Option, Some, None}
use Rattle.std.specs.Prelude.{set, IfSome}
use Rattle.std.specs.Io.KnownBytes.{Consumes, IsAtEnd}
use Rattle.std.proofs.lemmas.List.{take_at, drop_at, length-take-le, take_more_set}
use Rattle.std.proofs.lemmas.Slice.{take-put_mid}
use Rattle.std.proofs.KnownBytes.{Consumes-nil, Consumes-trans}
use lib.Seq.{take-take, take-add}
use borrow.Rule.Slice.PartMut.{put_mid}
use Rattle.lab_wire_heads.specs.Private.Reading.{CameBehind, HasBody}

-- one byte more came, and was put behind the others
pub one_more : (old mid new : Option (List ℕ)) (xs : List ℕ) (count byte : ℕ) → count < length xs
    → Consumes old mid (take count xs) → Consumes mid new (byte ∷ [])
    → Consumes old new (take (count + 1) (set xs count byte))
one_more old mid new xs count byte within first second =
    subst (Consumes old new) (sym (take_more_set xs count byte within))
    (Consumes-trans old mid new (take count xs) (byte ∷ []) first second)

-- no byte more came
pub no_more : (old mid new : Option (List ℕ)) (xs : List ℕ) → Consumes old mid xs → Consumes mid new [] → Consumes old new xs
no_more old mid new xs first second =
    subst (Consumes old new) (append-nil xs) (Consumes-trans old mid new xs [] first second)

-- a part that was read into stands after what was there
put_more : (a k n : ℕ) (xs ys : List ℕ) → a ≤ length xs → n ≤ length ys
    → take (a + n) (put_mid a k xs ys) ≡ take a xs ++ take n ys
put_more a k n xs ys within fits =
    let joined = take a xs ++ ys in
    let long : length (take a xs) ≡ a = length-take-le a xs within in
    sym (take-take (a + n) (a + length ys) (put_mid a k xs ys) (omega arith))
    ∙ ap (take (a + n)) (take-put_mid a k xs ys (a + length ys) refl within)
    ∙ take-add a n joined
    ∙ ap (λ front. front ++ take n (drop a joined)) (take_at (take a xs) ys a long)
    ∙ ap (λ back. take a xs ++ take n back) (drop_at (take a xs) ys a long)

-- ---- bytes behind others

pub came_none : (before : List ℕ) (known : Option (List ℕ)) → CameBehind before before known known
came_none before known = ([], sym (append-nil before), Consumes-nil known)

pub came_more : (old mid new : Option (List ℕ)) (before : List ℕ) (a k n : ℕ) (xs ys : List ℕ) → a ≤ length xs → n ≤ length ys
    → CameBehind before (take a xs) old mid → Consumes mid new (take n ys)
    → CameBehind before (take (a + n) (put_mid a k xs ys)) old new
came_more old mid new before a k n xs ys within fits first second = (
  first.0 ++ take n ys,
  put_more a k n xs ys within fits ∙ ap (λ t. t ++ take n ys) first.1 ∙ append_assoc before first.0 (take n ys),
  Consumes-trans old mid new first.0 (take n ys) first.2 second,
)

-- no byte more came
pub came_no_more : (old mid new : Option (List ℕ)) (before now ys : List ℕ) (n : ℕ) → n ≡ 0
    → CameBehind before now old mid → Consumes mid new (take n ys) → CameBehind before now old new
came_no_more old mid new before now ys n none first second = (
  first.0,
  first.1,
  no_more old mid new first.0 first.2 (subst (λ m. Consumes mid new (take m ys)) none second),
)

-- ---- a body

-- all of it came
pub whole_body : (old new : Option (List ℕ)) (head bytes : List ℕ) (count : ℕ)
    → length bytes ≡ length head + count → CameBehind head bytes old new → HasBody head count bytes old new
whole_body old new head bytes count size came = (
  came.0,
  came.1,
  omega (arith, size, ap length came.1, length-append head came.0),
  came.2,
)

-- the reader ended before
pub short_body : (old new : Option (List ℕ)) (head now : List ℕ) (count : ℕ) → length now < length head + count
    → CameBehind head now old new → IsAtEnd new → IfSome old (λ left. length left < count)
short_body None new head now count size came end = tt
short_body (Some left) None head now count size came end = absurd came.2
short_body (Some left) (Some rest) head now count size came end =
    let all : left ≡ came.0 = came.2 ∙ ap (λ t. came.0 ++ t) end ∙ append-nil came.0 in
    omega (arith, size, ap length all, ap length came.1, length-append head came.0)
