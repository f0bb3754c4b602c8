-- The lines of a text, one after another.
use Rattle.std.proofs.Common.{◌≡◌, ℕ, ◌+◌, ◌<◌, ◌≤◌, Bool, true, false, cond, List, [], ◌∷◌, ◌++◌, length, take, drop, refl, sym, ap, ◌∙◌, arith, Some, None, nat_lt, ◌-◌, length-drop}
use Rattle.std.specs.Prelude.{◌||◌, All, not, take_while, position}
use Rattle.std.specs.List.{list_any, slice_split, position_or_len, before_first, after_first}
use Rattle.std.proofs.lemmas.List.Splits.{slice_split_at, slice_split_first, slice_split_none, length-slice_split}
use Rattle.std.proofs.lemmas.List.Sums.{take_while-cons, fails_before_first}
use Rattle.std.proofs.lemmas.Grind.{common_steps}
use Rattle.lab_wire_heads.specs.Heads.{is_line_feed, but_last, ended_lines, is_empty_line, head_lines, has_end, lines_length, head_length}

pub but_last-cons : (x : List ℕ) (parts : List (List ℕ)) → 0 < length parts
    → but_last (x ∷ parts) ≡ x ∷ but_last parts
but_last-cons x [] some = absurd (omega arith)
but_last-cons x (y ∷ parts) some = refl

parts_some : (text : List ℕ) → 0 < length (slice_split is_line_feed text)
parts_some text = omega (arith, length-slice_split is_line_feed text)

-- a line, and the lines after it
pub ended_lines_at : (line rest : List ℕ) → All (λ b. is_line_feed b ≡ false) line
    → ended_lines (line ++ 10 ∷ rest) ≡ line ∷ ended_lines rest
ended_lines_at line rest none =
    ap but_last (slice_split_at is_line_feed line 10 rest none refl)
    ∙ but_last-cons line (slice_split is_line_feed rest) (parts_some rest)

-- the same by the place of the first line feed
ended_lines_first : (text : List ℕ) → position_or_len is_line_feed text < length text
    → ended_lines text ≡ before_first is_line_feed text ∷ ended_lines (after_first is_line_feed text)
ended_lines_first text found =
    ap but_last (slice_split_first is_line_feed text 0 found)
    ∙ but_last-cons (before_first is_line_feed text) _ (parts_some (after_first is_line_feed text))

-- a text that begins with a line that is not empty
pub record IsFullLine (text line rest : List ℕ) : Type 0 where
  pub lines : head_lines text ≡ line ∷ head_lines rest
  pub ends : has_end text ≡ has_end rest
  pub size : head_length text ≡ length line + 1 + head_length rest

pub full_line : (text line rest : List ℕ) → ended_lines text ≡ line ∷ ended_lines rest
    → is_empty_line line ≡ false → IsFullLine text line rest
unfolding head_lines has_end head_length
full_line text line rest lines is = record {
  lines =
      ap (take_while (λ l. not (is_empty_line l))) lines
      ∙ take_while-cons (λ l. not (is_empty_line l)) line (ended_lines rest)
      ∙ ap (λ b. cond (not b) (line ∷ head_lines rest) []) is;
  ends = ap (list_any is_empty_line) lines ∙ ap (λ b. b || has_end rest) is;
  size = ap lines_length lines ∙ ap (λ b. length line + 1 + cond b 0 (head_length rest)) is;
}

-- a text that begins with an empty line
pub record IsEmptyLine (text line : List ℕ) : Type 0 where
  pub lines : head_lines text ≡ []
  pub ends : has_end text ≡ true
  pub size : head_length text ≡ length line + 1

pub empty_line : (text line rest : List ℕ) → ended_lines text ≡ line ∷ ended_lines rest
    → is_empty_line line ≡ true → IsEmptyLine text line
unfolding head_lines has_end head_length
empty_line text line rest lines is = record {
  lines =
      ap (take_while (λ l. not (is_empty_line l))) lines
      ∙ take_while-cons (λ l. not (is_empty_line l)) line (ended_lines rest)
      ∙ ap (λ b. cond (not b) (line ∷ head_lines rest) []) is;
  ends = ap (list_any is_empty_line) lines ∙ ap (λ b. b || has_end rest) is;
  size = ap lines_length lines ∙ ap (λ b. length line + 1 + cond b 0 (head_length rest)) is ∙ omega arith;
}

some_place : (p n : ℕ) (b : Bool) (k : ℕ) → nat_lt p n ≡ b → cond b (Some p) None ≡ Some k → (p ≡ k) × (p < n)
some_place p n true k is e = (cc, grind (arith, common_steps))
some_place p n false k is e = absurd (cc)

no_place : (p n : ℕ) (b : Bool) → nat_lt p n ≡ b → cond b (Some p) None ≡ None → n ≤ p
no_place p n true is e = absurd (cc)
no_place p n false is e = grind (arith, common_steps)

-- where the first line feed stands at k
first_line : (text : List ℕ) (k : ℕ) → position is_line_feed text ≡ Some k
    → ended_lines text ≡ take k text ∷ ended_lines (drop (k + 1) text)
first_line text k at =
    let place = some_place (position_or_len is_line_feed text) (length text) _ k refl at in
    ended_lines_first text place.1 ∙ ap (λ i. take i text ∷ ended_lines (drop (i + 1) text)) place.0

pub first_line_full : (text : List ℕ) (k : ℕ) → position is_line_feed text ≡ Some k
    → is_empty_line (take k text) ≡ false
    → (length (head_lines text) ≡ 1 + length (head_lines (drop (k + 1) text)))
    × (has_end text ≡ has_end (drop (k + 1) text))
first_line_full text k at is =
    let line = full_line text (take k text) (drop (k + 1) text) (first_line text k at) is in
    let longer : length (take k text ∷ head_lines (drop (k + 1) text)) ≡ 1 + length (head_lines (drop (k + 1) text)) = omega arith in
    (ap length line.lines ∙ longer, line.ends)

pub first_line_empty : (text : List ℕ) (k : ℕ) → position is_line_feed text ≡ Some k
    → is_empty_line (take k text) ≡ true
    → (length (head_lines text) ≡ 0) × (has_end text ≡ true)
first_line_empty text k at is =
    let line = empty_line text (take k text) (drop (k + 1) text) (first_line text k at) is in
    (ap length line.lines, line.ends)

-- where no line has ended
pub no_line : (text : List ℕ) → position is_line_feed text ≡ None
    → (length (head_lines text) ≡ 0) × (has_end text ≡ false)
unfolding head_lines has_end
no_line text none =
    let all = no_place (position_or_len is_line_feed text) (length text) _ refl none in
    let parts = slice_split_none is_line_feed text (λ k d lt. fails_before_first is_line_feed text k d (omega arith)) in
    let lines : ended_lines text ≡ [] = ap but_last parts in
    (ap (λ ls. length (take_while (λ l. not (is_empty_line l)) ls)) lines, ap (list_any is_empty_line) lines)

-- the rest behind a line, as a slice of what was left
rest_after : (rest : List ℕ) (k : ℕ) → take (length rest - (k + 1)) (drop (k + 1) rest) ≡ drop (k + 1) rest
rest_after rest k = grind (arith, common_steps)

-- one more line counted: the lines so far, and those of what is left
pub counted : (text rest : List ℕ) (lines k : ℕ) → position is_line_feed rest ≡ Some k
    → is_empty_line (take k rest) ≡ false
    → lines + length rest ≤ length text
    → lines + length (head_lines rest) ≡ length (head_lines text)
    → has_end rest ≡ has_end text
    → let next : List ℕ = take (length rest - (k + 1)) (drop (k + 1) rest) in
    (lines + 1 + length next ≤ length text)
    × (lines + 1 + length (head_lines next) ≡ length (head_lines text))
    × (has_end next ≡ has_end text)
counted text rest lines k at is fits counts ends =
    let more = first_line_full rest k at is in
    let place = some_place (position_or_len is_line_feed rest) (length rest) _ k refl at in
    let shorter = length-drop (k + 1) rest in
    rw (rest_after rest k) (omega arith, omega (arith, more.0), sym more.1 ∙ ends)
