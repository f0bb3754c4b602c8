-- From what came of a head and of a body to what a reception is.
use Rattle.std.proofs.Common.{◌≡◌, ℕ, ◌<◌, ◌≤◌, inl, inr, true, false, List, ◌++◌, length, take, drop, sym, ap, subst, ◌∙◌, arith, append_assoc, length-append, Option, Some, None, Result, Ok, Err}
use Rattle.std.specs.Prelude.{if◌then◌else◌, nat_le, IfSome, IfOk, IfErr, is_ok, IsUtf8}
use Rattle.std.specs.Io.KnownBytes.{Consumes, Appends}
use Rattle.std.proofs.KnownBytes.{Consumes-trans, Appends-nil}
use Rattle.std.proofs.Math.Seq.{take-append_seam, drop-append_seam, take-length}
use Rattle.std.proofs.lemmas.List.{length-take-le}
use Rattle.std.proofs.lemmas.Bool.{le-leb}
use Rattle.std.proofs.lemmas.Bool.Decides.{nat_tests}
use Rattle.lab_wire_heads.specs.declared.refusals.HeadRefusal.{HeadRefusal}
use Rattle.lab_wire_heads.specs.declared.refusals.HeadRefusal.TheVariants.{ShortBody}
use Rattle.lab_wire_heads.specs.declared.refusals.HeadFault.{HeadFault}
use Rattle.lab_wire_heads.specs.declared.refusals.HeadFault.TheVariants.{Refused, Read, Write, Memory}
use Rattle.lab_wire_heads.specs.declared.expected.ExpectedBody.{ExpectedBody}
use Rattle.httparse.specs.Spans.{span_bytes, IsWithin}
use Rattle.httparse.specs.declared.spans.Span.{Span}
use Rattle.lab_wire_heads.specs.declared.accepted.AcceptedHead.{AcceptedHead}
use Rattle.lab_wire_heads.specs.Accepted.{IsHeadAt, IsRequestAt}
use Rattle.lab_wire_heads.specs.Heads.{GoodHead, good_head, StandsAt}
use Rattle.lab_wire_heads.proofs.PlaceLemmas.{slice_more}
use Rattle.lab_wire_heads.specs.Lengths.{body_length}
use Rattle.lab_wire_heads.specs.Requests.{accepted_head, body_end, body_in, request_by, request_after, request_in}
use Rattle.lab_wire_heads.specs.Interims.{is_interim_due, expected_of, interim_after, interim_text}
use Rattle.lab_wire_heads.specs.Receptions.{head_stop, request_length}
use Rattle.lab_wire_heads.proofs.FrontLemmas.{good_parts}
use Rattle.lab_wire_heads.proofs.RequestLemmas.{request_refused}
use Rattle.lab_wire_heads.proofs.RequestLaws.{accepted_from, accepted_behind, request_whole, length_is, by_front_law, head_law}
use Rattle.lab_wire_heads.specs.Private.Reading.{HasBody, IsBodyFault}
use Rattle.lab_wire_heads.specs.Reading.{OnMemory}
use Rattle.lab_wire_heads.specs.Receiving.{IsWholeRequest, IsReception, IsInterimOf}
use Rattle.lab_wire_heads.specs.Private.Receiving.{lines_if}
use Rattle.lab_wire_heads.proofs.StopLemmas.{stop_if}

-- ---- a head that is accepted, and nothing behind it

pub record IsHead (head : List ℕ) (good : GoodHead) : Type 0 where
  pub accepted : accepted_head head ≡ Ok good
  pub own : head_stop head ≡ length head

size_is : (head : List ℕ) (good : GoodHead) → IsHead head good → good.end ≡ length head
unfolding accepted_head
size_is head good is =
    let parts = good_parts head good (accepted_from (good_head head) good is.accepted) in
    parts.place ∙ sym (stop_if head true parts.ends) ∙ is.own

module _ (head : List ℕ) (good : GoodHead) (is : IsHead head good) where
  -- its body came
  module _ (body : List ℕ) (size : length body ≡ body_length good.head.fields) where
    end_is : body_end good ≡ length (head ++ body)
    end_is = omega (arith, size, size_is head good is, length-append head body)

    request_is : request_in (head ++ body) ≡ Ok (request_by good (body_in (head ++ body) good))
    request_is = request_whole (head ++ body) good (accepted_behind head body good is.accepted)
        (le-leb (body_end good) (length (head ++ body)) (omega (arith, end_is)))

    pub whole_is : IsWholeRequest (head ++ body)
    whole_is = (
      ap is_ok request_is,
      length_is (head ++ body) good (accepted_behind head body good is.accepted) ∙ end_is,
    )

    pub exact_is : (bytes left : List ℕ) → bytes ≡ (head ++ body) ++ left → IsReception bytes (Ok (head ++ body))
    exact_is bytes left parts =
        let same : request_in bytes ≡ request_in (head ++ body) =
        ap request_in parts ∙ by_front_law (head ++ body) left whole_is.0 in
        let accepted : accepted_head bytes ≡ Ok good =
        ap accepted_head (parts ∙ append_assoc head body left) ∙ accepted_behind head (body ++ left) good is.accepted in
        let count : request_length bytes ≡ length (head ++ body) = length_is bytes good accepted ∙ end_is in (
          ap is_ok (same ∙ request_is),
          sym (take-append_seam (head ++ body) left)
              ∙ (λ i. take (sym count i) (sym parts i)),
          sym same,
        )

  -- fewer bytes came
  short_is : (left : List ℕ) → length left < body_length good.head.fields → request_in (head ++ left) ≡ Err ShortBody
  unfolding request_in
  short_is left few =
      let size = size_is head good is in
      let long = length-append head left in
      let late : nat_le (body_end good) (length (head ++ left)) ≡ false =
      let after : length (head ++ left) < body_end good = omega (arith, few, size, long) in grind (arith, nat_tests) in
      ap (request_after (head ++ left)) (accepted_behind head left good is.accepted)
      ∙ ap (λ t. if t then Ok (request_by good (body_in (head ++ left) good)) else Err ShortBody) late

  -- ---- of what a reader gave

  pub whole_of : (request : List ℕ) (mid new : Option (List ℕ)) → HasBody head (body_length good.head.fields) request mid new
      → IsWholeRequest request
  whole_of request mid new came = subst IsWholeRequest (sym came.1) (whole_is came.0 came.2)

  pub rest_of : (request : List ℕ) (old mid new : Option (List ℕ)) → Consumes old mid head
      → HasBody head (body_length good.head.fields) request mid new → Consumes old new request
  rest_of request old mid new gave came =
      subst (Consumes old new) (sym came.1) (Consumes-trans old mid new head came.0 gave came.3)

  pub exact_of : (request : List ℕ) (old mid new : Option (List ℕ)) → Consumes old mid head
      → HasBody head (body_length good.head.fields) request mid new → IfSome old (λ bytes. IsReception bytes (Ok request))
  exact_of request None mid new gave came = tt
  exact_of request (Some bytes) None new gave came = absurd gave
  exact_of request (Some bytes) (Some behind) None gave came = absurd came.3
  exact_of request (Some bytes) (Some behind) (Some left) gave came =
      subst (λ t. IsReception bytes (Ok t)) (sym came.1)
      (exact_is came.0 came.2 bytes left (gave ∙ ap (λ t. head ++ t) came.3 ∙ sym (append_assoc head came.0 left)))

  accepted_of : (bytes left : List ℕ) → bytes ≡ head ++ left → accepted_head bytes ≡ Ok good
  accepted_of bytes left parts = ap accepted_head parts ∙ accepted_behind head left good is.accepted

  pub exact_fault : (fault : HeadFault) (old mid : Option (List ℕ)) → Consumes old mid head
      → IsBodyFault mid (body_length good.head.fields) fault → IfSome old (λ bytes. IsReception bytes (Err fault))
  exact_fault fault None mid gave came = tt
  exact_fault fault (Some bytes) None gave came = absurd gave
  exact_fault (Refused refusal) (Some bytes) (Some left) gave came =
      ap request_in gave ∙ short_is left came.1 ∙ ap (λ t. Err t) (sym came.0)
  exact_fault Read (Some bytes) (Some left) gave came = tt
  exact_fault (Write sent) (Some bytes) (Some left) gave came = absurd came
  exact_fault Memory (Some bytes) (Some left) gave came = ap is_ok (accepted_of bytes left gave)

  -- ---- and of what was written

  text_of : (bytes left : List ℕ) → bytes ≡ head ++ left → interim_text bytes ≡ lines_if (is_interim_due good.head)
  unfolding interim_text
  text_of bytes left parts = ap interim_after (accepted_of bytes left parts)

  module _ (from to : Option (List ℕ)) where
    pub interim_of : (request : List ℕ) (old mid : Option (List ℕ)) → Consumes old mid head
        → Appends from to (lines_if (is_interim_due good.head))
        → IfSome old (λ bytes. IsInterimOf (interim_text bytes) (Ok request) from to)
    interim_of request None mid gave wrote = tt
    interim_of request (Some bytes) None gave wrote = absurd gave
    interim_of request (Some bytes) (Some left) gave wrote = subst (Appends from to) (sym (text_of bytes left gave)) wrote

    pub interim_fault : (fault : HeadFault) (old mid : Option (List ℕ)) → Consumes old mid head
        → IsBodyFault mid (body_length good.head.fields) fault
        → Appends from to (lines_if (is_interim_due good.head))
        → IfSome old (λ bytes. IsInterimOf (interim_text bytes) (Err fault) from to)
    interim_fault fault None mid gave came wrote = tt
    interim_fault fault (Some bytes) None gave came wrote = absurd gave
    interim_fault (Refused refusal) (Some bytes) (Some left) gave came wrote =
        subst (Appends from to) (sym (text_of bytes left gave)) wrote
    interim_fault Read (Some bytes) (Some left) gave came wrote =
        inl (subst (Appends from to) (sym (text_of bytes left gave)) wrote)
    interim_fault (Write sent) (Some bytes) (Some left) gave came wrote = absurd came
    interim_fault Memory (Some bytes) (Some left) gave came wrote =
        subst (Appends from to) (sym (text_of bytes left gave)) wrote

    pub interim_cut : (sent : ℕ) (old mid : Option (List ℕ)) → Consumes old mid head
        → Appends from to (take sent (lines_if (is_interim_due good.head)))
        → IfSome old (λ bytes. IsInterimOf (interim_text bytes) (Err (Write sent)) from to)
    interim_cut sent None mid gave wrote = tt
    interim_cut sent (Some bytes) None gave wrote = absurd gave
    interim_cut sent (Some bytes) (Some left) gave wrote =
        subst (λ t. Appends from to (take sent t)) (sym (text_of bytes left gave)) wrote

  pub exact_cut : (sent : ℕ) (old mid : Option (List ℕ)) → Consumes old mid head
      → sent < length (lines_if (is_interim_due good.head)) → IfSome old (λ bytes. IsReception bytes (Err (Write sent)))
  exact_cut sent None mid gave few = tt
  exact_cut sent (Some bytes) None gave few = absurd gave
  exact_cut sent (Some bytes) (Some left) gave few =
      subst (λ t. sent < length t) (sym (text_of bytes left gave)) few

-- ---- a head that says what is to come

pub record IsFound (head : List ℕ) (body : ExpectedBody) : Type 0 where
  pub good : GoodHead
  pub is : IsHead head good
  pub same : body ≡ expected_of good

pub found_of : (room : List ℕ) (count : ℕ) (kept : AcceptedHead) → count ≤ length room
    → head_stop (take count room) ≡ count → IsHeadAt (take count room) kept
    → IsFound (take count room) kept.body
found_of room count kept within own at = record {
  good = at.good;
  is = record { accepted = at.accepted; own = own ∙ sym (length-take-le count room within) };
  same = at.body;
}

module _ (head : List ℕ) (body : ExpectedBody) (found : IsFound head body) where
  module _ (result : Result (List ℕ) HeadFault) (old mid new : Option (List ℕ)) (gave : Consumes old mid head) where
    pub whole_result : IfOk result (λ request. HasBody head body.length request mid new) → IfOk result IsWholeRequest
    whole_result came = by result (subst (λ b. IfOk result (λ request. HasBody head b.length request mid new)) found.same came)
      where
        by : (r : Result (List ℕ) HeadFault)
            → IfOk r (λ request. HasBody head (body_length found.good.head.fields) request mid new) → IfOk r IsWholeRequest
        by (Ok request) e = whole_of head found.good found.is request mid new e
        by (Err fault) e = tt

    pub exact_result : IfOk result (λ request. HasBody head body.length request mid new)
        → IfErr result (IsBodyFault mid body.length) → IfSome old (λ bytes. IsReception bytes result)
    exact_result came short = by result
        (subst (λ b. IfOk result (λ request. HasBody head b.length request mid new)) found.same came)
        (subst (λ b. IfErr result (IsBodyFault mid b.length)) found.same short)
      where
        by : (r : Result (List ℕ) HeadFault)
            → IfOk r (λ request. HasBody head (body_length found.good.head.fields) request mid new)
            → IfErr r (IsBodyFault mid (body_length found.good.head.fields)) → IfSome old (λ bytes. IsReception bytes r)
        by (Ok request) e f = exact_of head found.good found.is request old mid new gave e
        by (Err fault) e f = exact_fault head found.good found.is fault old mid gave f

    pub interim_result : (from to : Option (List ℕ)) → Appends from to (lines_if body.is_interim_due)
        → IfErr result (IsBodyFault mid body.length) → IfSome old (λ bytes. IsInterimOf (interim_text bytes) result from to)
    interim_result from to wrote short = by result
        (subst (λ b. Appends from to (lines_if b.is_interim_due)) found.same wrote)
        (subst (λ b. IfErr result (IsBodyFault mid b.length)) found.same short)
      where
        by : (r : Result (List ℕ) HeadFault) → Appends from to (lines_if (is_interim_due found.good.head))
            → IfErr r (IsBodyFault mid (body_length found.good.head.fields))
            → IfSome old (λ bytes. IsInterimOf (interim_text bytes) r from to)
        by (Ok request) e f = interim_of head found.good found.is from to request old mid gave e
        by (Err fault) e f = interim_fault head found.good found.is from to fault old mid gave f e

  module _ (sent : ℕ) (old mid : Option (List ℕ)) (gave : Consumes old mid head) where
    pub exact_unsent : sent < length (lines_if body.is_interim_due) → IfSome old (λ bytes. IsReception bytes (Err (Write sent)))
    exact_unsent few = exact_cut head found.good found.is sent old mid gave
        (subst (λ b. sent < length (lines_if b.is_interim_due)) found.same few)

    pub interim_unsent : (from to : Option (List ℕ)) → Appends from to (take sent (lines_if body.is_interim_due))
        → IfSome old (λ bytes. IsInterimOf (interim_text bytes) (Err (Write sent)) from to)
    interim_unsent from to wrote = interim_cut head found.good found.is from to sent old mid gave
        (subst (λ b. Appends from to (take sent (lines_if b.is_interim_due))) found.same wrote)

-- ---- what is kept of the head shows the request

within_more : (head body : List ℕ) (span : Span) → IsWithin (length head) span → IsWithin (length (head ++ body)) span
within_more head body span within = (within.0, omega (arith, within.1, length-append head body))

module _ (head body : List ℕ) (kept : AcceptedHead) (at : IsHeadAt head kept) (own : head_stop head ≡ length head)
    (size : length body ≡ kept.body.length) where
  stated : length body ≡ body_length at.good.head.fields
  stated = size ∙ ap (λ (one : ExpectedBody). one.length) at.body

  is_head : IsHead head at.good
  is_head = record { accepted = at.accepted; own = own }

  end_is_head : kept.end ≡ length head
  end_is_head = at.end ∙ size_is head at.good is_head

  shows : (span : Span) (part : List ℕ) → StandsAt head span part → span_bytes (head ++ body) span ≡ part
  shows span part stands = slice_more head body span.start span.end stands.0.0 stands.0.1 ∙ stands.1

  body_is : body_in (head ++ body) at.good ≡ drop kept.end (head ++ body)
  body_is =
      let behind : drop at.good.end (head ++ body) ≡ body =
      ap (λ n. drop n (head ++ body)) (size_is head at.good is_head) ∙ drop-append_seam head body in
      let all : take (body_length at.good.head.fields) body ≡ body =
      ap (λ n. take n body) (sym stated) ∙ take-length body in
      ap (take (body_length at.good.head.fields)) behind ∙ all
      ∙ sym (ap (λ n. drop n (head ++ body)) end_is_head ∙ drop-append_seam head body)

  stands_whole : IsRequestAt (head ++ body) kept
  stands_whole = record {
    method = within_more head body kept.method at.method.0;
    target = within_more head body kept.target at.target.0;
    text = subst IsUtf8 (sym (shows kept.target at.good.head.target at.target)) at.text;
    end = omega (arith, end_is_head, length-append head body);
    request = request_is head at.good is_head body stated
        ∙ (λ i. Ok (record {
          method = sym (shows kept.method at.good.head.method at.method) i;
          target = sym (shows kept.target at.good.head.target at.target) i;
          token = sym at.token i;
          body = body_is i;
        }));
  }

-- of bytes that came behind it
pub request_behind_head : (head request : List ℕ) (old new : Option (List ℕ)) (kept : AcceptedHead) → IsHeadAt head kept
    → head_stop head ≡ length head → HasBody head kept.body.length request old new → IsRequestAt request kept
request_behind_head head request old new kept at own came =
    subst (λ t. IsRequestAt t kept) (sym came.1) (stands_whole head came.0 kept at own came.2)

-- ---- a head that is refused

pub stop_of : (old : Option (List ℕ)) (room : List ℕ) (count : ℕ) → count ≤ length room
    → IfSome old (λ bytes. count ≡ head_stop bytes) → IfSome old (λ bytes. length (take count room) ≡ head_stop bytes)
stop_of old room count within stops =
    subst (λ n. IfSome old (λ bytes. n ≡ head_stop bytes)) (sym (length-take-le count room within)) stops

refused_of : (bytes left head : List ℕ) (refusal : HeadRefusal) → bytes ≡ head ++ left → length head ≡ head_stop bytes
    → accepted_head head ≡ Err refusal → accepted_head bytes ≡ Err refusal
refused_of bytes left head refusal parts stop is =
    let front : take (head_stop bytes) bytes ≡ head =
    (λ i. take (sym stop i) (parts i)) ∙ take-append_seam head left in
    sym (head_law bytes) ∙ ap accepted_head front ∙ is

pub exact_refused : (old mid : Option (List ℕ)) (head : List ℕ) (refusal : HeadRefusal) → Consumes old mid head
    → IfSome old (λ bytes. length head ≡ head_stop bytes) → accepted_head head ≡ Err refusal
    → IfSome old (λ bytes. IsReception bytes (Err (Refused refusal)))
exact_refused None mid head refusal gave stop is = tt
exact_refused (Some bytes) None head refusal gave stop is = absurd gave
exact_refused (Some bytes) (Some left) head refusal gave stop is =
    request_refused bytes refusal (refused_of bytes left head refusal gave stop is)

pub interim_refused : (from old mid : Option (List ℕ)) (head : List ℕ) (refusal : HeadRefusal) → Consumes old mid head
    → IfSome old (λ bytes. length head ≡ head_stop bytes) → accepted_head head ≡ Err refusal
    → IfSome old (λ bytes. IsInterimOf (interim_text bytes) (Err (Refused refusal)) from from)
unfolding interim_text
interim_refused from None mid head refusal gave stop is = tt
interim_refused from (Some bytes) None head refusal gave stop is = absurd gave
interim_refused from (Some bytes) (Some left) head refusal gave stop is =
    subst (Appends from from) (sym (ap interim_after (refused_of bytes left head refusal gave stop is))) (Appends-nil from)

-- ---- a reader that failed before

pub exact_unread : (old : Option (List ℕ)) → IfSome old (λ bytes. IsReception bytes (Err Read))
exact_unread None = tt
exact_unread (Some bytes) = tt

pub interim_unread : (from old : Option (List ℕ)) → IfSome old (λ bytes. IsInterimOf (interim_text bytes) (Err Read) from from)
interim_unread from None = tt
interim_unread from (Some bytes) = inr (Appends-nil from)

-- ---- no memory for a body

pub unread_result : {R : Type 0} (rem : R → Option (List ℕ)) (old mid new : R) (head : List ℕ) (result : Result (List ℕ) HeadFault)
    → Consumes (rem old) (rem mid) head → IfSome (rem old) (λ bytes. length head ≡ head_stop bytes) → OnMemory result (new ≡ mid)
    → OnMemory result (IfSome (rem old) (λ bytes. Consumes (rem old) (rem new) (take (head_stop bytes) bytes)))
unread_result rem old mid new head (Ok request) gave stop same = tt
unread_result rem old mid new head (Err (Refused refusal)) gave stop same = tt
unread_result rem old mid new head (Err Read) gave stop same = tt
unread_result rem old mid new head (Err (Write sent)) gave stop same = tt
unread_result rem old mid new head (Err Memory) gave stop same =
    subst (λ left. IfSome (rem old) (λ bytes. Consumes (rem old) left (take (head_stop bytes) bytes))) (ap rem (sym same))
    (by (rem old) (rem mid) gave stop)
  where
    by : (before after : Option (List ℕ)) → Consumes before after head → IfSome before (λ bytes. length head ≡ head_stop bytes)
        → IfSome before (λ bytes. Consumes before after (take (head_stop bytes) bytes))
    by None after gave stop = tt
    by (Some bytes) None gave stop = absurd gave
    by (Some bytes) (Some left) gave stop =
        let front : take (head_stop bytes) bytes ≡ head =
        (λ i. take (sym stop i) (gave i)) ∙ take-append_seam head left in
        gave ∙ ap (λ t. t ++ left) (sym front)
