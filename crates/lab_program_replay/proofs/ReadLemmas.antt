-- Facts on what a reader gave.
use Rattle.std.proofs.Common.{◌≡◌, ◌≢◌, ℕ, ◌+◌, ◌<◌, ◌≤◌, List, [], ◌∷◌, ◌++◌, length, take, drop, Option, Some, None, Bool, true, false, cond, ◌==◌, refl, arith, sym, ap, subst, ◌∙◌, drop_at, length-take-le, length-append, append_assoc}
use Rattle.std.specs.Prelude.{option_map, IfSome, Ok, Err}
use Rattle.std.proofs.lemmas.List.{take_at}
use lib.Seq.{take-take, take-add}
use Rattle.std.proofs.lemmas.Bool.Decides.{nat_tests}
use Rattle.std.proofs.lemmas.Slice.{take-put_mid}
use Rattle.std.proofs.KnownBytes.{Consumes-trans}
use Rattle.std.specs.Io.KnownBytes.{Consumes}
use borrow.Rule.Slice.PartMut.{put_mid}
use Rattle.lab_program_replay.specs.declared.fault.ReplayFault.{ReplayFault}
use Rattle.lab_program_replay.specs.declared.fault.ReplayFault.TheVariants.{BadEvent, ReadFault, WriteFault, Storage, Memory}
use Rattle.lab_program_replay.specs.Event.{cut_at, line_feed}
use Rattle.lab_program_replay.specs.Private.Reading.{TakesAtMost, TakesByte}

-- a part that was read into stands after what was there
put_more : (a k n : ℕ) (xs ys : List ℕ) → a ≤ length xs → n ≤ length ys →
    take (a + n) (put_mid a k xs ys) ≡ take a xs ++ take n ys
put_more a k n xs ys within fits =
    let joined = take a xs ++ ys in
    let long : length (take a xs) ≡ a = length-take-le a xs within in
    sym (take-take (a + n) (a + length ys) (put_mid a k xs ys) (omega arith))
    ∙ ap (take (a + n)) (take-put_mid a k xs ys (a + length ys) refl within)
    ∙ take-add a n joined
    ∙ ap (λ front. front ++ take n (drop a joined)) (take_at (take a xs) ys a long)
    ∙ ap (λ back. take a xs ++ take n back) (drop_at (take a xs) ys a long)

pub Consumes-put_more : (old mid new : Option (List ℕ)) (a k n : ℕ) (xs ys : List ℕ) →
    a ≤ length xs → n ≤ length ys
    → Consumes old mid (take a xs) → Consumes mid new (take n ys) →
    Consumes old new (take (a + n) (put_mid a k xs ys))
Consumes-put_more old mid new a k n xs ys within fits first second =
    subst (Consumes old new) (sym (put_more a k n xs ys within fits))
    (Consumes-trans old mid new (take a xs) (take n ys) first second)

-- Lines.

-- what is cut, with bytes put in front of it
abbrev pub after : List ℕ → Option (List ℕ × List ℕ) → Option (List ℕ × List ℕ)
after front cut = option_map (λ parts. (front ++ parts.0, parts.1)) cut

after_none : (cut : Option (List ℕ × List ℕ)) → cut ≡ after [] cut
after_none None = refl
after_none (Some parts) = refl

after_more : (front : List ℕ) (b : ℕ) (cut : Option (List ℕ × List ℕ)) →
    after front (after (b ∷ []) cut) ≡ after (front ++ b ∷ []) cut
after_more front b None = refl
after_more front b (Some parts) =
    ap (λ bytes. Some (bytes, parts.1)) (sym (append_assoc front (b ∷ []) parts.0))

cut_past : (same : Bool) (b : ℕ) (bs : List ℕ) → (b == 10) ≡ same → b ≢ 10 →
    cond same (Some ([], bs)) (after (b ∷ []) (cut_at 10 bs)) ≡ after (b ∷ []) (cut_at 10 bs)
cut_past true b bs e other = absurd (other (grind (arith, nat_tests)))
cut_past false b bs e other = refl

cut_other : (b : ℕ) (bs : List ℕ) → b ≢ 10 → cut_at 10 (b ∷ bs) ≡ after (b ∷ []) (cut_at 10 bs)
unfolding cut_at
cut_other b bs other = cut_past (b == 10) b bs refl other

pub cut_feed : (bs : List ℕ) → cut_at 10 (10 ∷ bs) ≡ Some ([], bs)
unfolding cut_at
cut_feed bs = refl

pub cut_end : cut_at 10 [] ≡ None
unfolding cut_at
cut_end = refl

-- these bytes were read from the front of an input, the rest is left, and no line feed is among
-- them
abbrev pub HasRead : Option (List ℕ) → Option (List ℕ) → List ℕ → Type 0
HasRead None left front = Unit {0}
HasRead (Some input) left front =
    (rest : List ℕ) × (left ≡ Some rest) × (input ≡ front ++ rest)
    × (cut_at line_feed input ≡ after front (cut_at line_feed rest))

pub has_read-none : (old : Option (List ℕ)) → HasRead old old []
has_read-none None = tt
has_read-none (Some input) = (input, refl, refl, after_none (cut_at 10 input))

-- a byte after them that is no line feed
pub has_read-more : (old mid new : Option (List ℕ)) (front : List ℕ) (b : ℕ) → b ≢ 10 →
    HasRead old mid front
    → IfSome mid (λ input. TakesByte input new (Ok (Some b))) → HasRead old new (front ++ b ∷ [])
has_read-more None mid new front b other read took = tt
has_read-more (Some input) mid new front b other read took =
    let byte : IfSome (Some read.0) (λ xs. TakesByte xs new (Ok (Some b))) = rw read.1 at took in (
      byte.0,
      byte.2,
      read.2 ∙ ap (λ xs. front ++ xs) byte.1 ∙ sym (append_assoc front (b ∷ []) byte.0),
      read.3 ∙ ap (λ xs. after front (cut_at 10 xs)) byte.1
          ∙ ap (after front) (cut_other b byte.0 other) ∙ after_more front b (cut_at 10 byte.0),
    )

-- how many were taken, before the next byte was asked for, and after it
pub taken_before : (old mid : Option (List ℕ)) (front : List ℕ) (most : ℕ) → length front ≤ most →
    HasRead old mid front → TakesAtMost most old mid
taken_before None mid front most within read = ([], tt, omega arith)
taken_before (Some input) mid front most within read = rw read.1 (front, read.2, within)

pub taken_after : (old mid new : Option (List ℕ)) (front : List ℕ) (b most : ℕ) →
    length front < most → HasRead old mid front
    → IfSome mid (λ input. TakesByte input new (Ok (Some b))) → TakesAtMost most old new
taken_after None mid new front b most within read took = ([], tt, omega arith)
taken_after (Some input) mid new front b most within read took =
    let byte : IfSome (Some read.0) (λ xs. TakesByte xs new (Ok (Some b))) = rw read.1 at took in
    rw byte.2 (
      front ++ b ∷ [],
      read.2 ∙ ap (λ xs. front ++ xs) byte.1 ∙ sym (append_assoc front (b ∷ []) byte.0),
      omega (arith, length-append front (b ∷ [])),
    )

pub taken_at_end : (old mid new : Option (List ℕ)) (front : List ℕ) (most : ℕ) →
    length front ≤ most → HasRead old mid front
    → IfSome mid (λ input. TakesByte input new (Ok None)) → TakesAtMost most old new
taken_at_end None mid new front most within read took = ([], tt, omega arith)
taken_at_end (Some input) mid new front most within read took =
    let byte : IfSome (Some read.0) (λ xs. TakesByte xs new (Ok None)) = rw read.1 at took in
    rw byte.1 (front, read.2, within)

left_at_fault : (input : List ℕ) (new : Option (List ℕ)) (fault : ReplayFault) →
    TakesByte input new (Err fault) → new ≡ Some input
left_at_fault input new BadEvent took = absurd took
left_at_fault input new ReadFault took = took
left_at_fault input new WriteFault took = took
left_at_fault input new Storage took = took
left_at_fault input new Memory took = took

pub taken_at_fault : (old mid new : Option (List ℕ)) (front : List ℕ) (most : ℕ)
    (fault : ReplayFault) → length front ≤ most → HasRead old mid front
    → IfSome mid (λ input. TakesByte input new (Err fault)) → TakesAtMost most old new
taken_at_fault None mid new front most fault within read took = ([], tt, omega arith)
taken_at_fault (Some input) mid new front most fault within read took =
    let byte : IfSome (Some read.0) (λ xs. TakesByte xs new (Err fault)) = rw read.1 at took in
    rw (left_at_fault read.0 new fault byte) (front, read.2, within)
