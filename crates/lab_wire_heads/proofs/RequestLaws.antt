-- A request is by its own bytes: what stands behind them says nothing of it.
use Rattle.std.proofs.Common.{◌≡◌, ℕ, ◌+◌, ◌-◌, ◌≤◌, Bool, true, false, List, [], min, ◌++◌, length, take, drop, refl, sym, ap, ◌∙◌, arith, append_assoc, length-append, take_all, Option, Some, None, Result, Ok, Err}
use Rattle.std.specs.Prelude.{nat_le, if◌then◌else◌, IsOk, is_ok}
use Rattle.std.proofs.Math.Seq.{take-append-add, take-append_seam}
use Rattle.std.proofs.lemmas.Bool.{leb-true, le-leb}
use Rattle.std.proofs.lemmas.List.{drop-append-le, take-append-le, drop-take, length-drop, length-take, length-take-le, append-nil}
use Rattle.lab_wire_heads.specs.declared.refusals.HeadRefusal.{HeadRefusal}
use Rattle.lab_wire_heads.specs.declared.refusals.HeadRefusal.TheVariants.{ShortBody}
use Rattle.lab_wire_heads.specs.Heads.{GoodHead, head_limit, head_text, has_end, head_end, good_head}
use Rattle.lab_wire_heads.specs.Lengths.{body_length, head_refusal}
use Rattle.lab_wire_heads.specs.Requests.{unless_refused, head_accepted, accepted_head, body_end, body_in, request_by, request_after, request_in}
use Rattle.lab_wire_heads.specs.Receptions.{end_after, request_length, head_stop, HeadIsByFront, RequestIsByFront, RequestIsItsBytes}
use Rattle.lab_wire_heads.proofs.FrontLemmas.{IsByFront, by_front, by_near, good_parts}
use Rattle.lab_wire_heads.proofs.ReadLemmas.{take_within}

-- ---- what a request is made of

abbrev pub Found : Type 0
Found = Result GoodHead HeadRefusal

unless_from : (head good : GoodHead) (refusal : Option HeadRefusal) → unless_refused head refusal ≡ Ok good
    → ◌≡◌ {A = Found} (Ok head) (Ok good)
unless_from head good None same = same
unless_from head good (Some refusal) same = absurd (cc)

pub accepted_from : (found : Found) (good : GoodHead) → head_accepted found ≡ Ok good → found ≡ Ok good
accepted_from (Err refusal) good is = absurd (cc)
accepted_from (Ok head) good is = unless_from head good (head_refusal head.head) is

-- a head that is accepted, whose body has come
pub record IsWhole (bytes : List ℕ) : Type 0 where
  pub good : GoodHead
  pub accepted : accepted_head bytes ≡ Ok good
  pub came : nat_le (body_end good) (length bytes) ≡ true

whole_of : (bytes : List ℕ) → IsOk (request_in bytes) → IsWhole bytes
unfolding request_in
whole_of bytes ok = by (accepted_head bytes) refl ok
  where
    test : (good : GoodHead) (t : Bool)
        → is_ok (if t then Ok (request_by good (body_in bytes good)) else Err ShortBody) ≡ true → t ≡ true
    test good true e = refl
    test good false e = absurd (cc)

    by : (found : Result GoodHead HeadRefusal) → accepted_head bytes ≡ found
        → is_ok (request_after bytes found) ≡ true → IsWhole bytes
    by (Ok good) is e = record { good = good; accepted = is; came = test good (nat_le (body_end good) (length bytes)) e }
    by (Err refusal) is e = absurd (cc)

-- the request of an accepted head whose body has come
pub request_whole : (bytes : List ℕ) (good : GoodHead) → accepted_head bytes ≡ Ok good
    → nat_le (body_end good) (length bytes) ≡ true → request_in bytes ≡ Ok (request_by good (body_in bytes good))
unfolding request_in
request_whole bytes good accepted came =
    ap (request_after bytes) accepted
    ∙ ap (λ t. if t then Ok (request_by good (body_in bytes good)) else Err ShortBody) came

-- other bytes with the same head and body are the same request
same_request : (bytes other : List ℕ) (whole : IsWhole bytes) → good_head other ≡ good_head bytes
    → nat_le (body_end whole.good) (length other) ≡ true → body_in other whole.good ≡ body_in bytes whole.good
    → request_in other ≡ request_in bytes
unfolding accepted_head
same_request bytes other whole head came body =
    request_whole other whole.good (ap head_accepted head ∙ whole.accepted) came
    ∙ ap (λ b. Ok (request_by whole.good b)) body
    ∙ sym (request_whole bytes whole.good whole.accepted whole.came)

-- the head of a whole request stands in the first of its bytes
pub record HasFront (bytes : List ℕ) (good : GoodHead) : Type 0 where
  pub front : IsByFront bytes
  pub size : length front.whole ≡ good.end

front_of : (bytes : List ℕ) (good : GoodHead) → accepted_head bytes ≡ Ok good → HasFront bytes good
unfolding accepted_head
front_of bytes good accepted =
    let parts = good_parts bytes good (accepted_from (good_head bytes) good accepted) in
    let front = by_front bytes parts.ends in
    record { front = front; size = front.size ∙ sym parts.place }

-- what stands behind an accepted head says nothing of it
pub accepted_behind : (bytes more : List ℕ) (good : GoodHead) → accepted_head bytes ≡ Ok good
    → accepted_head (bytes ++ more) ≡ Ok good
unfolding accepted_head
accepted_behind bytes more good accepted =
    let front = (front_of bytes good accepted).front in
    ap head_accepted
    (ap good_head (ap (λ t. t ++ more) front.parts ∙ append_assoc front.whole front.rest more)
    ∙ front.same (front.rest ++ more))
    ∙ accepted

-- ---- the laws

pub by_front_law : RequestIsByFront
by_front_law bytes more ok =
    let whole = whole_of bytes ok in
    let good = whole.good in
    let found = front_of bytes good whole.accepted in
    let front = found.front in
    let count : ℕ = body_length good.head.fields in
    let fits : good.end + count ≤ length bytes = leb-true (body_end good) (length bytes) whole.came in
    let longer = length-append bytes more in
    let left = length-drop good.end bytes in
    same_request bytes (bytes ++ more) whole
    (ap good_head (ap (λ t. t ++ more) front.parts ∙ append_assoc front.whole front.rest more)
    ∙ front.same (front.rest ++ more))
    (le-leb (body_end good) (length (bytes ++ more)) (omega (arith, fits, longer)))
    (ap (take count) (drop-append-le good.end bytes more (omega (arith, fits)))
    ∙ take-append-le count (drop good.end bytes) more (omega (arith, fits, left)))

pub length_is : (bytes : List ℕ) (good : GoodHead) → accepted_head bytes ≡ Ok good → request_length bytes ≡ body_end good
unfolding request_length
length_is bytes good accepted = ap end_after accepted

pub its_bytes_law : RequestIsItsBytes
its_bytes_law bytes ok =
    let whole = whole_of bytes ok in
    let good = whole.good in
    let found = front_of bytes good whole.accepted in
    let front = found.front in
    let count : ℕ = body_length good.head.fields in
    let end : ℕ = good.end + count in
    let fits : end ≤ length bytes = leb-true (body_end good) (length bytes) whole.came in
    let reach : length front.whole + (end - length front.whole) ≡ end = omega (arith, found.size) in
    let taken : take end bytes ≡ front.whole ++ take (end - length front.whole) front.rest =
    ap (take end) front.parts
    ∙ ap (λ n. take n (front.whole ++ front.rest)) (sym reach)
    ∙ take-append-add front.whole front.rest (end - length front.whole) in
    let size = length-take-le end bytes fits in
    let body : List ℕ = take count (drop good.end bytes) in
    ap (λ n. request_in (take n bytes)) (length_is bytes good whole.accepted)
    ∙ same_request bytes (take end bytes) whole
    (ap good_head taken ∙ front.same (take (end - length front.whole) front.rest))
    (le-leb end (length (take end bytes)) (omega (arith, size)))
    (ap (take count) (drop-take good.end count bytes)
    ∙ take_all count body (omega (arith, length-take count (drop good.end bytes))))

pub head_law : HeadIsByFront
unfolding accepted_head head_stop
head_law bytes = ap head_accepted (by (has_end (head_text bytes)) refl)
  where
    stop : (t : Bool) → has_end (head_text bytes) ≡ t
        → take (head_stop bytes) bytes ≡ take (if t then head_end bytes else min (length bytes) head_limit) bytes
    stop t is = ap (λ b. take (if b then head_end bytes else min (length bytes) head_limit) bytes) is

    by : (t : Bool) → has_end (head_text bytes) ≡ t → good_head (take (head_stop bytes) bytes) ≡ good_head bytes
    by true is =
        let front = by_front bytes is in
        ap good_head
        (stop true is
        ∙ (λ i. take (sym front.size i) (front.parts i))
        ∙ take-append_seam front.whole front.rest
        ∙ sym (append-nil front.whole))
        ∙ front.same []
    by false is = ap good_head (stop false is ∙ take_within bytes head_limit) ∙ by_near bytes
