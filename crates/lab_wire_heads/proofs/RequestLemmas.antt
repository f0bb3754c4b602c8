-- From the checks of a head and of a body to the request.
use Rattle.std.proofs.Common.{◌≡◌, ℕ, ◌+◌, ◌*◌, ◌<◌, ◌≤◌, Bool, true, false, List, length, drop, min, refl, sym, ap, ◌∙◌, ⊎_elim, arith, Option, Some, None, Result, Ok, Err}
use Rattle.std.specs.Prelude.{if◌then◌else◌, nat_le}
use Rattle.std.proofs.lemmas.Bool.{cases_lt}
use Rattle.std.proofs.lemmas.Grind.{common_steps}
use Rattle.lab_wire_heads.specs.declared.refusals.HeadRefusal.{HeadRefusal}
use Rattle.lab_wire_heads.specs.declared.refusals.HeadRefusal.TheVariants.{ShortBody}
use Rattle.lab_wire_heads.specs.Heads.{GoodHead, good_head}
use Rattle.lab_wire_heads.specs.Lengths.{head_refusal}
use Rattle.lab_wire_heads.specs.Requests.{unless_refused, head_accepted, accepted_head, body_in, body_end, RequestParts, request_by, request_after, request_in}

-- a number that is capped stays capped after one more digit
pub capped_step : (value digit cap : ℕ) → min (min value cap * 10 + digit) cap ≡ min (value * 10 + digit) cap
capped_step value digit cap =
    ⊎_elim
    (λ (small : value < cap). let same : min value cap ≡ value = omega arith in rw same)
    (λ (large : cap ≤ value). let same : min value cap ≡ cap = omega arith in rw same (omega arith))
    (cases_lt value cap)

-- what stands behind a place, or behind the end where the place is past it
pub drop_within : (bytes : List ℕ) (limit : ℕ) → drop (min (length bytes) limit) bytes ≡ drop limit bytes
drop_within bytes limit = grind (arith, common_steps)

-- ---- the head

pub accepted_bad : (bytes : List ℕ) (refusal : HeadRefusal) → good_head bytes ≡ Err refusal → accepted_head bytes ≡ Err refusal
unfolding accepted_head
accepted_bad bytes refusal is = ap head_accepted is

pub accepted_refused : (bytes : List ℕ) (good : GoodHead) (refusal : HeadRefusal) → good_head bytes ≡ Ok good
    → Some refusal ≡ head_refusal good.head → accepted_head bytes ≡ Err refusal
unfolding accepted_head
accepted_refused bytes good refusal is found = ap head_accepted is ∙ ap (unless_refused good) (sym found)

pub accepted_good : (bytes : List ℕ) (good : GoodHead) → good_head bytes ≡ Ok good
    → None ≡ head_refusal good.head → accepted_head bytes ≡ Ok good
unfolding accepted_head
accepted_good bytes good is found = ap head_accepted is ∙ ap (unless_refused good) (sym found)

-- ---- the body

-- the request by its body, if that has come
abbrev pub request_of : GoodHead → Option (List ℕ) → Result RequestParts HeadRefusal
request_of good None = Err ShortBody
request_of good (Some body) = Ok (request_by good body)

-- the body, if it has come
abbrev pub body_found : List ℕ → GoodHead → Option (List ℕ)
body_found bytes good = if nat_le (body_end good) (length bytes) then Some (body_in bytes good) else None

after_is : (bytes : List ℕ) (good : GoodHead) → request_after bytes (Ok good) ≡ request_of good (body_found bytes good)
after_is bytes good = by_test (nat_le (body_end good) (length bytes))
  where
    by_test : (came : Bool) → (if came then Ok (request_by good (body_in bytes good)) else Err ShortBody)
        ≡ request_of good (if came then Some (body_in bytes good) else None)
    by_test true = refl
    by_test false = refl

pub request_refused : (bytes : List ℕ) (refusal : HeadRefusal) → accepted_head bytes ≡ Err refusal → request_in bytes ≡ Err refusal
unfolding request_in
request_refused bytes refusal is = ap (request_after bytes) is

pub request_is : (bytes : List ℕ) (good : GoodHead) (found : Option (List ℕ)) → accepted_head bytes ≡ Ok good
    → found ≡ body_found bytes good → request_in bytes ≡ request_of good found
unfolding request_in
request_is bytes good found is came =
    ap (request_after bytes) is ∙ after_is bytes good ∙ ap (request_of good) (sym came)
