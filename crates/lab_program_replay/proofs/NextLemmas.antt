-- The next line and the next event, from what the readers gave.
use Rattle.std.proofs.Common.{◌≡◌, ℕ, ◌<◌, ◌≤◌, List, [], ◌∷◌, ◌++◌, length, take, drop, Option, Some, None, Bool, true, false, cond, nat_le, refl, arith, sym, ap, ◌∙◌, length-append, append-nil}
use Rattle.std.specs.Prelude.{IfSome, Ok, Err, Vec}
use Rattle.std.proofs.lemmas.Bool.Decides.{nat_tests}
use Rattle.lab_desk_events.specs.declared.events.Event.{Event as EventRead}
use Rattle.lab_program_replay.specs.declared.event.Heading.{Heading as HeadingRead}
use Rattle.lab_program_replay.specs.declared.fault.ReplayFault.{ReplayFault}
use Rattle.lab_program_replay.specs.declared.fault.ReplayFault.TheVariants.{BadEvent, ReadFault, WriteFault, Storage, Memory}
use Rattle.lab_program_replay.specs.Event.{cut_at, most_line, line_at, short_line, ◌>>=◌, heading_of, next_event, next_of, with_bytes, Event, End, Bad, Taken}
use Rattle.lab_program_replay.specs.Private.Reading.{IsReadingRefused, TakesByte, TakesLine, TakesBytes, heading_said}
use Rattle.lab_program_replay.specs.Reading.{TakesNext, event_said}
use Rattle.lab_program_replay.proofs.ReadLemmas.{HasRead, after, cut_feed, cut_end}

short_test : (b : Bool) (parts : List ℕ × List ℕ) → b ≡ true → cond b (Some parts) None ≡ Some parts
short_test true parts e = refl
short_test false parts e = absurd (cc)

long_test : (b : Bool) (parts : List ℕ × List ℕ) → b ≡ false → cond b (Some parts) None ≡ None
long_test true parts e = absurd (cc)
long_test false parts e = refl

short_enough : (line rest : List ℕ) → length line ≤ most_line →
    short_line (line, rest) ≡ Some (line, rest)
short_enough line rest h = let e : nat_le (length line) most_line ≡ true =
    grind (arith, nat_tests) in short_test _ (line, rest) e

too_long : (line : List ℕ) (cut : Option (List ℕ × List ℕ)) → most_line < length line →
    after line cut >>= short_line ≡ None
too_long line None h = refl
too_long line (Some parts) h =
    let longer : most_line < length (line ++ parts.0) =
    omega (arith, h, length-append line parts.0) in
    let e : nat_le (length (line ++ parts.0)) most_line ≡ false = grind (arith, nat_tests) in
    long_test _ (line ++ parts.0, parts.1) e

-- the line that the bytes before a line feed are
pub line_taken : {A : Type 0} → (old mid new : Option (List ℕ)) (line : Vec ℕ A) (b : ℕ) → b ≡ 10 →
    length line.items ≤ most_line
    → HasRead old mid line.items → IfSome mid (λ input. TakesByte input new (Ok (Some b))) →
    IfSome old (λ input. TakesLine input new (Ok (Some line)))
line_taken None mid new line b feed within read took = tt
line_taken (Some input) mid new line b feed within read took =
    let byte : IfSome (Some read.0) (λ xs. TakesByte xs new (Ok (Some b))) = rw read.1 at took in
    let rest : read.0 ≡ 10 ∷ byte.0 = byte.1 ∙ ap (λ x. x ∷ byte.0) feed in
    let cut : cut_at 10 input ≡ Some (line.items ++ [], byte.0) =
    read.3 ∙ ap (λ xs. after line.items (cut_at 10 xs)) rest
    ∙ ap (after line.items) (cut_feed byte.0) in
    let whole : cut_at 10 input ≡ Some (line.items, byte.0) =
    cut ∙ ap (λ xs. Some (xs, byte.0)) (append-nil line.items) in
    (byte.0, ap (λ o. o >>= short_line) whole ∙ short_enough line.items byte.0 within, byte.2)

-- bytes that the end of the input follows are no line
pub line_short : (A : Type 0) (old mid new : Option (List ℕ)) (line : List ℕ) →
    HasRead old mid line → IfSome mid (λ input. TakesByte input new (Ok None))
    → 0 < length line → IfSome old (λ input. TakesLine {A = A} input new (Err BadEvent))
line_short A None mid new line read took some = tt
line_short A (Some input) mid new line read took some =
    let byte : IfSome (Some read.0) (λ xs. TakesByte xs new (Ok None)) = rw read.1 at took in
    let cut : cut_at 10 input ≡ None =
    read.3 ∙ ap (λ xs. after line (cut_at 10 xs)) byte.0 ∙ ap (after line) cut_end in
    let long : 0 < length input = omega
    (arith, some, ap length read.2, length-append line read.0) in
    (long, ap (λ o. o >>= short_line) cut)

-- nor are too many bytes
pub line_long : (A : Type 0) (old mid : Option (List ℕ)) (line : List ℕ) → HasRead old mid line →
    most_line < length line
    → IfSome old (λ input. TakesLine {A = A} input mid (Err BadEvent))
line_long A None mid line read many = tt
line_long A (Some input) mid line read many =
    let long : 0 < length input = omega
    (arith, many, ap length read.2, length-append line read.0) in
    (long, ap (λ o. o >>= short_line) read.3 ∙ too_long line (cut_at 10 read.0) many)

-- The next event.

next_at_end : (input : List ℕ) → input ≡ [] → next_event input ≡ End
unfolding next_event
next_at_end [] e = refl
next_at_end (b ∷ bs) e = absurd (cc)

next_of_line : (input : List ℕ) → 0 < length input → next_event input ≡ next_of (line_at input)
unfolding next_event
next_of_line [] h = absurd (omega arith)
next_of_line (b ∷ bs) h = refl

no_line : (parts : List ℕ × List ℕ) → line_at [] ≡ Some parts → ⊥
no_line parts line = let none : line_at [] ≡ None =
    ap (λ o. o >>= short_line) cut_end in absurd (cc)

next_of_cut : (input : List ℕ) (parts : List ℕ × List ℕ) → line_at input ≡ Some parts →
    next_event input ≡ with_bytes (heading_of parts.0) parts.1
unfolding next_event
next_of_cut [] parts cut = absurd (no_line parts cut)
next_of_cut (b ∷ bs) parts cut = ap next_of cut

-- there was no next line
pub next_ended : (A : Type 0) (old left after : Option (List ℕ)) →
    IfSome old (λ input. TakesLine {A = A} input left (Ok None))
    → IfSome old (λ input. TakesNext (next_event input) after (Ok None))
next_ended A None left after line = tt
next_ended A (Some input) left after line = next_at_end input line

pub next_no_line : (A : Type 0) (old left after : Option (List ℕ)) (fault : ReplayFault) →
    IfSome old (λ input. TakesLine {A = A} input left (Err fault))
    → IfSome old (λ input. TakesNext (next_event input) after (Err fault))
next_no_line A None left after fault line = tt
next_no_line A (Some input) left after BadEvent line = next_of_line input line.0 ∙ ap next_of line.1
next_no_line A (Some input) left after ReadFault line = tt
next_no_line A (Some input) left after WriteFault line = line
next_no_line A (Some input) left after Storage line = tt
next_no_line A (Some input) left after Memory line = tt

module _ {A : Type 0} (line : Vec ℕ A) where
  bad_heading : (input : List ℕ) (parts : List ℕ × List ℕ) → line_at input ≡ Some parts →
      heading_of parts.0 ≡ None → next_event input ≡ Bad
  bad_heading input parts cut none =
      next_of_cut input parts cut ∙ ap (λ o. with_bytes o parts.1) none

  -- the line's words were no heading
  pub next_no_heading : (old left after : Option (List ℕ)) (fault : ReplayFault) →
      IfSome old (λ input. TakesLine input left (Ok (Some line)))
      → IsReadingRefused fault (heading_of line.items) →
      IfSome old (λ input. TakesNext (next_event input) after (Err fault))
  next_no_heading None left after fault taken refused = tt
  next_no_heading (Some input) left after BadEvent taken refused =
      bad_heading input (line.items, taken.0) taken.1 refused
  next_no_heading (Some input) left after ReadFault taken refused = tt
  next_no_heading (Some input) left after WriteFault taken refused = refused
  next_no_heading (Some input) left after Storage taken refused = tt
  next_no_heading (Some input) left after Memory taken refused = tt

  short_bytes : (b : Bool) (event : Event) (rest : List ℕ) → b ≡ false →
      cond b (Taken event rest) Bad ≡ Bad
  short_bytes true event rest e = absurd (cc)
  short_bytes false event rest e = refl

  enough_bytes : (b : Bool) (event : Event) (rest : List ℕ) → b ≡ true →
      cond b (Taken event rest) Bad ≡ Taken event rest
  enough_bytes true event rest e = refl
  enough_bytes false event rest e = absurd (cc)

  too_short : (count : ℕ) (rest : List ℕ) → length rest < count → nat_le count (length rest) ≡ false
  too_short count rest h = grind (arith, nat_tests)

  long_enough : (count : ℕ) (rest : List ℕ) → count ≤ length rest →
      nat_le count (length rest) ≡ true
  long_enough count rest h = grind (arith, nat_tests)

  -- fewer bytes follow the line than it says
  pub next_no_bytes : (old left after : Option (List ℕ)) (heading : HeadingRead)
      (fault : ReplayFault)
      → IfSome old (λ input. TakesLine input left (Ok (Some line))) →
      heading_of line.items ≡ Some (heading_said heading)
      → IfSome left (λ input. TakesBytes {A = A} heading.length input after (Err fault))
      → IfSome old (λ input. TakesNext (next_event input) after (Err fault))
  next_no_bytes None left after heading fault taken said bytes = tt
  next_no_bytes (Some input) left after heading BadEvent taken said bytes =
      let short : IfSome (Some taken.0)
      (λ input. TakesBytes {A = A} heading.length input after (Err BadEvent)) =
      rw taken.2 at bytes in
      next_of_cut input (line.items, taken.0) taken.1 ∙ ap (λ o. with_bytes o taken.0) said
      ∙ short_bytes _ _ (drop heading.length taken.0) (too_short heading.length taken.0 short)
  next_no_bytes (Some input) left after heading ReadFault taken said bytes = tt
  next_no_bytes (Some input) left after heading WriteFault taken said bytes =
      let no : IfSome (Some taken.0)
      (λ input. TakesBytes {A = A} heading.length input after (Err WriteFault)) =
      rw taken.2 at bytes in no
  next_no_bytes (Some input) left after heading Storage taken said bytes = tt
  next_no_bytes (Some input) left after heading Memory taken said bytes = tt

  -- the event was read
  pub next_taken : (old left after : Option (List ℕ)) (heading : HeadingRead) (bytes : Vec ℕ A)
      (event : EventRead)
      → IfSome old (λ input. TakesLine input left (Ok (Some line))) →
      heading_of line.items ≡ Some (heading_said heading)
      → IfSome left (λ input. TakesBytes heading.length input after (Ok bytes))
      → event_said event ≡ record {
        founded = heading.founded;
        moment = heading.tick.moment;
        words = heading.tick.words;
        bytes = bytes.items;
      }
      → IfSome old (λ input. TakesNext (next_event input) after (Ok (Some event)))
  next_taken None left after heading bytes event taken said got made = tt
  next_taken (Some input) left after heading bytes event taken said got made =
      let here : IfSome (Some taken.0) (λ input. TakesBytes heading.length input after (Ok bytes)) =
      rw taken.2 at got in
      let same : event_said event ≡ record {
        founded = heading.founded;
        moment = heading.tick.moment;
        words = heading.tick.words;
        bytes =
            take heading.length taken.0;
      } = rw (here.1) at made in (
        drop heading.length taken.0,
        next_of_cut input (line.items, taken.0) taken.1 ∙ ap (λ o. with_bytes o taken.0) said
            ∙ enough_bytes _ _ (drop heading.length taken.0)
            (long_enough heading.length taken.0 here.0)
            ∙ ap (λ e. Taken e (drop heading.length taken.0)) (sym same),
        here.2,
      )
