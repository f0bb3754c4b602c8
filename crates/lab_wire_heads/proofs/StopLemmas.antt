-- Where a reader that is asked byte by byte stops for a head.
use Rattle.std.proofs.Common.{◌≡◌, ℕ, ◌+◌, ◌-◌, ◌≤◌, ◌⊎◌, inl, inr, min, Bool, true, false, List, [], ◌∷◌, ◌++◌, length, take, sym, ap, ◌∙◌, refl, arith, append_assoc, length-append, append-nil, Option, Some, None}
use Rattle.std.specs.Prelude.{if◌then◌else◌, IfSome}
use Rattle.std.specs.Io.KnownBytes.{Consumes, IsAtEnd}
use Rattle.std.proofs.Math.Seq.{take-append-add}
use Rattle.std.proofs.lemmas.List.{take-append-le, length-take-le}
use lib.Seq.{take-take}
use Rattle.lab_wire_heads.specs.Heads.{head_limit, without_front, head_text, has_end, head_end}
use Rattle.lab_wire_heads.specs.Receptions.{head_stop}
use Rattle.lab_wire_heads.proofs.FrontLemmas.{IsByFront, by_front}

-- the place by whether the head has ended
pub stop_if : (bytes : List ℕ) (t : Bool) → has_end (head_text bytes) ≡ t
    → head_stop bytes ≡ (if t then head_end bytes else min (length bytes) head_limit)
unfolding head_stop
stop_if bytes t is = ap (λ b. if b then head_end bytes else min (length bytes) head_limit) is

-- the head ends with the last of these bytes, if it hasn't ended before
nothing_left : (bytes : List ℕ) (count : ℕ) (front : IsByFront bytes) → length bytes ≡ count + 1
    → has_end (head_text (take count bytes)) ≡ false → length front.rest ≡ 0
nothing_left bytes count front size before = by front.rest refl
  where
    contrary : (b : Bool) → b ≡ true → b ≡ false → ⊥
    contrary true e f = cc
    contrary false e f = cc

    by : (rest : List ℕ) → front.rest ≡ rest → length rest ≡ 0
    by [] is = refl
    by (r ∷ rest) is =
        let parts : bytes ≡ front.whole ++ (r ∷ rest) = front.parts ∙ ap (λ t. front.whole ++ t) is in
        let longer : length front.whole + length (r ∷ rest) ≡ count + 1 =
        sym (length-append front.whole (r ∷ rest)) ∙ sym (ap length parts) ∙ size in
        let reach : length front.whole + (count - length front.whole) ≡ count = omega (arith, longer) in
        let cut : take count bytes ≡ front.whole ++ take (count - length front.whole) (r ∷ rest) =
        ap (take count) parts
        ∙ ap (λ n. take n (front.whole ++ (r ∷ rest))) (sym reach)
        ∙ take-append-add front.whole (r ∷ rest) (count - length front.whole) in
        absurd (contrary (has_end (head_text (take count bytes)))
        (ap (λ t. has_end (head_text t)) cut ∙ front.ends (take (count - length front.whole) (r ∷ rest))) before)

stop_here : (bytes more : List ℕ) (count : ℕ) → length bytes ≡ count + 1
    → has_end (head_text bytes) ≡ true → has_end (head_text (take count bytes)) ≡ false
    → count + 1 ≡ head_stop (bytes ++ more)
stop_here bytes more count size ends before =
    let front = by_front bytes ends in
    let none = nothing_left bytes count front size before in
    let whole : length front.whole ≡ count + 1 =
    omega (arith, none, size, ap length front.parts, length-append front.whole front.rest) in
    let joined : front.whole ++ (front.rest ++ more) ≡ bytes ++ more =
    sym (append_assoc front.whole front.rest more) ∙ ap (λ t. t ++ more) (sym front.parts) in
    sym whole ∙ front.size
    ∙ sym (front.place (front.rest ++ more))
    ∙ ap head_end joined
    ∙ sym (stop_if (bytes ++ more) true (ap (λ t. has_end (head_text t)) (sym joined) ∙ front.ends (front.rest ++ more)))

-- no head has ended, and there are no more bytes, or no more that count
stop_without : (bytes more : List ℕ) → length bytes ≤ head_limit
    → (more ≡ []) ⊎ (length bytes ≡ head_limit) → has_end (head_text bytes) ≡ false
    → length bytes ≡ head_stop (bytes ++ more)
stop_without bytes more fits (inl none) before =
    let whole : bytes ++ more ≡ bytes = ap (λ t. bytes ++ t) none ∙ append-nil bytes in
    let least : length bytes ≡ min (length bytes) head_limit = omega (arith, fits) in
    least ∙ sym (stop_if bytes false before) ∙ ap head_stop (sym whole)
stop_without bytes more fits (inr full) before =
    let near : take head_limit (bytes ++ more) ≡ take head_limit bytes =
    take-append-le head_limit bytes more (omega (arith, full)) in
    let none : has_end (head_text (bytes ++ more)) ≡ false = ap (λ t. has_end (without_front t)) near ∙ before in
    let least : length bytes ≡ min (length (bytes ++ more)) head_limit =
    omega (arith, full, length-append bytes more) in
    least ∙ sym (stop_if (bytes ++ more) false none)

-- ---- of the bytes that came

-- the head ends with the last of them
pub own_here : (room : List ℕ) (count : ℕ) → count + 1 ≤ length room
    → has_end (head_text (take (count + 1) room)) ≡ true → has_end (head_text (take count room)) ≡ false
    → head_stop (take (count + 1) room) ≡ count + 1
own_here room count fits ends before =
    ap head_stop (sym (append-nil (take (count + 1) room)))
    ∙ sym (stop_here (take (count + 1) room) [] count (length-take-le (count + 1) room fits) ends
    (ap (λ t. has_end (head_text t)) (take-take count (count + 1) room (omega arith)) ∙ before))

-- it hasn't ended
pub own_without : (room : List ℕ) (count : ℕ) → count ≤ length room → length room ≡ head_limit
    → has_end (head_text (take count room)) ≡ false → head_stop (take count room) ≡ count
own_without room count fits size before =
    let long = length-take-le count room fits in
    let least : min (length (take count room)) head_limit ≡ count = omega (arith, long, fits, size) in
    stop_if (take count room) false before ∙ least

-- ---- of what a reader gave

-- by the bytes that it gave, and what it has left
pub known_here : (old new : Option (List ℕ)) (room : List ℕ) (count : ℕ) → Consumes old new (take (count + 1) room)
    → count + 1 ≤ length room → has_end (head_text (take (count + 1) room)) ≡ true
    → has_end (head_text (take count room)) ≡ false → IfSome old (λ bytes. count + 1 ≡ head_stop bytes)
known_here None new room count gave fits ends before = tt
known_here (Some bytes) None room count gave fits ends before = absurd gave
known_here (Some bytes) (Some left) room count gave fits ends before =
    stop_here (take (count + 1) room) left count (length-take-le (count + 1) room fits) ends
    (ap (λ t. has_end (head_text t)) (take-take count (count + 1) room (omega arith)) ∙ before)
    ∙ ap head_stop (sym gave)

pub known_end : (old new : Option (List ℕ)) (room : List ℕ) (count : ℕ) → Consumes old new (take count room)
    → IsAtEnd new → count ≤ length room → length room ≡ head_limit
    → has_end (head_text (take count room)) ≡ false → IfSome old (λ bytes. count ≡ head_stop bytes)
known_end None new room count gave none fits size before = tt
known_end (Some bytes) None room count gave none fits size before = absurd gave
known_end (Some bytes) (Some left) room count gave none fits size before =
    let long = length-take-le count room fits in
    sym long
    ∙ stop_without (take count room) left (omega (arith, long, size)) (inl none) before
    ∙ ap head_stop (sym gave)

pub known_full : (old new : Option (List ℕ)) (room : List ℕ) (count : ℕ) → Consumes old new (take count room)
    → count ≡ head_limit → length room ≡ head_limit
    → has_end (head_text (take count room)) ≡ false → IfSome old (λ bytes. count ≡ head_stop bytes)
known_full None new room count gave full size before = tt
known_full (Some bytes) None room count gave full size before = absurd gave
known_full (Some bytes) (Some left) room count gave full size before =
    let long = length-take-le count room (omega (arith, full, size)) in
    sym long
    ∙ stop_without (take count room) left (omega (arith, long, full)) (inr (long ∙ full)) before
    ∙ ap head_stop (sym gave)

-- no head in no bytes
pub none_ended : has_end [] ≡ false
unfolding has_end
none_ended = refl
