-- Where a part of a text stands in the bytes that the text was taken from.
use Rattle.std.proofs.Common.{◌≡◌, ℕ, suc, ◌+◌, ◌-◌, ◌≤◌, Bool, true, false, List, [], ◌∷◌, ◌++◌, length, take, drop, refl, sym, ap, subst, ◌∙◌, arith, length-drop}
use Rattle.std.specs.Prelude.{if◌then◌else◌}
use Rattle.std.specs.List.{slice_range}
use Rattle.std.proofs.lemmas.Grind.{common_steps}
use Rattle.std.proofs.lemmas.List.{take-append-drop, take-append-le, drop-append-le}
use Rattle.httparse.specs.Pieces.{is_newline}
use Rattle.httparse.specs.Spans.{span_bytes, IsWithin}
use Rattle.httparse.specs.declared.spans.Span.{Span}
use Rattle.lab_wire_heads.specs.Heads.{head_limit, head_text, without_front, front_length, StandsAt}

front_dropped : (bytes : List ℕ) → without_front bytes ≡ drop (front_length bytes) bytes
front_dropped [] = refl
front_dropped (b ∷ bytes) = by (front_dropped bytes) (is_newline b)
  where
    by : without_front bytes ≡ drop (front_length bytes) bytes → (t : Bool) → (if t then without_front bytes else b ∷ bytes)
        ≡ drop (if t then suc (front_length bytes) else 0) (b ∷ bytes)
    by rest true = rest
    by rest false = refl

front_within : (bytes : List ℕ) → front_length bytes ≤ length bytes
front_within [] = omega arith
front_within (b ∷ bytes) = by (front_within bytes) (is_newline b)
  where
    by : front_length bytes ≤ length bytes → (t : Bool)
        → (if t then suc (front_length bytes) else 0) ≤ suc (length bytes)
    by rest true = omega (arith, rest)
    by rest false = omega arith

-- more bytes behind them change nothing
pub slice_more : (bytes more : List ℕ) (start end : ℕ) → start ≤ end → end ≤ length bytes
    → slice_range (bytes ++ more) start end ≡ slice_range bytes start end
slice_more bytes more start end ordered fits =
    ap (take (end - start)) (drop-append-le start bytes more (omega (arith, ordered, fits)))
    ∙ take-append-le (end - start) (drop start bytes) more (grind (arith, common_steps))

slice_dropped : (bytes : List ℕ) (front start end : ℕ)
    → slice_range (drop front bytes) start end ≡ slice_range bytes (front + start) (front + end)
slice_dropped bytes front start end = (λ i. take (same i) (drop_twice i))
  where
    same : end - start ≡ (front + end) - (front + start)
    same = omega arith

    drop_twice : drop start (drop front bytes) ≡ drop (front + start) bytes
    drop_twice = grind (arith, common_steps)

-- of a text behind so many bytes of a front
slice_behind : (bytes : List ℕ) (limit front start end : ℕ) → start ≤ end → front + end ≤ length (take limit bytes)
    → slice_range (drop front (take limit bytes)) start end ≡ slice_range bytes (front + start) (front + end)
slice_behind bytes limit front start end ordered fits =
    slice_dropped (take limit bytes) front start end
    ∙ sym (slice_more (take limit bytes) (drop limit bytes) (front + start) (front + end) (omega (arith, ordered)) fits)
    ∙ ap (λ t. slice_range t (front + start) (front + end)) (take-append-drop limit bytes)

reaches : (near text : List ℕ) (front len end : ℕ) → text ≡ drop front near → front ≤ length near → len ≤ length text
    → end ≤ len → front + end ≤ length near
reaches near text front len end dropped before short within =
    let size : length text ≡ length near - front = ap length dropped ∙ length-drop front near in
    omega (arith, size, before, short, within)

-- a part of the text that is read of the bytes
pub stands_behind : (bytes text : List ℕ) (front len : ℕ) (span : Span) (part : List ℕ)
    → front ≡ front_length (take head_limit bytes) → text ≡ head_text bytes
    → front + length text ≤ length bytes → len ≤ length text → IsWithin len span
    → part ≡ span_bytes text span
    → StandsAt bytes (record { start = front + span.start; end = front + span.end }) part
stands_behind bytes text front len span part front_is text_is fits short within is =
    let dropped : text ≡ drop front (take head_limit bytes) =
    text_is ∙ front_dropped (take head_limit bytes) ∙ ap (λ n. drop n (take head_limit bytes)) (sym front_is) in
    let near : front + span.end ≤ length (take head_limit bytes) =
    reaches (take head_limit bytes) text front len span.end dropped
    (subst (λ n. n ≤ length (take head_limit bytes)) (sym front_is) (front_within (take head_limit bytes))) short within.1 in (
      (omega (arith, within.0), omega (arith, fits, short, within.1)),
      sym (slice_behind bytes head_limit front span.start span.end within.0 near)
          ∙ ap (λ t. slice_range t span.start span.end) (sym dropped) ∙ sym is,
    )
