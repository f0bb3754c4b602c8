-- The lines and words of a head are what the grammar of `httparse` says of its bytes.
use Rattle.std.proofs.Common.{◌≡◌, ◌≢◌, ℕ, ◌+◌, ◌<◌, ◌≤◌, Bool, true, false, cond, List, [], ◌∷◌, ◌++◌, length, take, drop, map, refl, sym, ap, ◌∙◌, arith, append_assoc, append-nil, nat_lt, ◌-◌, get_or, length-append}
use Rattle.std.specs.Prelude.{◌||◌, ◌==◌, All, not}
use Rattle.std.specs.List.{list_all, position_or_len, after_first, flat_map}
use Rattle.std.specs.Str.Lines.{strip_carriage_return}
use Rattle.std.proofs.Math.Seq.{get_or-append_seam, take-append_seam, drop-append-add}
use Rattle.std.proofs.lemmas.List.{take-append-drop, drop_more}
use Rattle.std.proofs.lemmas.Bool.{false≢true, or_from, and_from, and_parts, ne_eqb, eqb-true, cond-false, lt-ltb, ltb-true}
use Rattle.std.proofs.lemmas.List.Elements.{All-append, All-cons, All-nil, All-head, All-tail, All-weaker}
use Rattle.std.proofs.lemmas.List.Sums.{list_all-from_AllPass, AllPass-from_list_all, split_at_first, passes_at_first}
use Rattle.std.proofs.lemmas.Grind.{common_steps}
use Rattle.httparse.specs.Grammar.{is_token_byte, is_token, IsToken, is_value_byte, AllPass, LineEnd, crlf, lf, print_end, Field, print_field, IsField, print_section}
use Rattle.httparse.specs.Pieces.{is_newline}
use Rattle.httparse.proofs.PieceLemmas.{colon_ends_token, token_is_no_newline}
use Rattle.lab_wire_heads.specs.Heads.{is_line_feed, ended_lines, is_empty_line, head_lines, has_end, head_length, field_name, is_field_line}
use Rattle.lab_wire_heads.proofs.LineLemmas.{ended_lines_at, full_line, empty_line}

-- ---- bytes

-- a line without CR and LF
abbrev pub IsPlain : List ℕ → Type 0
IsPlain line = All (λ b. is_newline b ≡ false) line

plain_from : (test : ℕ → Bool) → test 13 ≡ false → test 10 ≡ false → (b : ℕ) → test b ≡ true → is_newline b ≡ false
plain_from test cr nl b pass =
    let not_cr : b ≢ 13 = λ e. false≢true (sym cr ∙ ap test (sym e) ∙ pass) in
    let not_lf : b ≢ 10 = λ e. false≢true (sym nl ∙ ap test (sym e) ∙ pass) in
    or_from _ _ (ne_eqb b 13 not_cr) (ne_eqb b 10 not_lf)

pub plain_run : (test : ℕ → Bool) → test 13 ≡ false → test 10 ≡ false → (bytes : List ℕ) → AllPass test bytes → IsPlain bytes
plain_run test cr nl bytes all =
    All-weaker (λ b. test b ≡ true) (λ b. is_newline b ≡ false) (plain_from test cr nl) bytes all

pub plain_token : (bytes : List ℕ) → AllPass is_token_byte bytes → IsPlain bytes
plain_token bytes all =
    All-weaker (λ b. is_token_byte b ≡ true) (λ b. is_newline b ≡ false) token_is_no_newline bytes all

not_newline : (a b : Bool) → (a || b) ≡ false → (a ≡ false) × (b ≡ false)
not_newline true b e = absurd (cc)
not_newline false b e = (refl, e)

-- what is read of a byte that is neither CR nor LF
plain_no_lf : (b : ℕ) → is_newline b ≡ false → is_line_feed b ≡ false
plain_no_lf b e = (not_newline (b == 13) (b == 10) e).1

plain_no_cr : (b : ℕ) → is_newline b ≡ false → (b == 13) ≡ false
plain_no_cr b e = (not_newline (b == 13) (b == 10) e).0

-- ---- line ends

-- the CR before the LF of a line end
abbrev pub return_of : LineEnd → List ℕ
return_of crlf = 13 ∷ []
return_of lf = []

pub end_split : (end : LineEnd) (rest : List ℕ) → print_end end ++ rest ≡ return_of end ++ 10 ∷ rest
end_split crlf rest = refl
end_split lf rest = refl

no_lf_return : (end : LineEnd) → All (λ b. is_line_feed b ≡ false) (return_of end)
no_lf_return crlf = All-cons (λ b. is_line_feed b ≡ false) 13 [] refl (All-nil (λ b. is_line_feed b ≡ false))
no_lf_return lf = All-nil (λ b. is_line_feed b ≡ false)

-- a plain line, its end, and the lines after it
pub ended_line : (line : List ℕ) (end : LineEnd) (rest : List ℕ) → IsPlain line
    → ended_lines (line ++ (print_end end ++ rest)) ≡ (line ++ return_of end) ∷ ended_lines rest
ended_line line end rest plain =
    ap (λ t. ended_lines (line ++ t)) (end_split end rest)
    ∙ ap ended_lines (sym (append_assoc line (return_of end) (10 ∷ rest)))
    ∙ ended_lines_at (line ++ return_of end) rest
    (All-append (λ b. is_line_feed b ≡ false) line (return_of end)
    (All-weaker (λ b. is_newline b ≡ false) (λ b. is_line_feed b ≡ false) plain_no_lf line plain)
    (no_lf_return end))

-- the CR is taken off
pub stripped : (line : List ℕ) (end : LineEnd) → IsPlain line → strip_carriage_return (line ++ return_of end) ≡ line
stripped line crlf plain =
    let l : List ℕ = line ++ 13 ∷ [] in
    let at : length l - 1 ≡ length line = omega (arith, length-append line (13 ∷ [])) in
    ap (λ k. cond (get_or l k 0 == 13) (take k l) l) at
    ∙ ap (λ v. cond (v == 13) (take (length line) l) l) (get_or-append_seam line 13 [] 0)
    ∙ take-append_seam line (13 ∷ [])
stripped [] lf plain = refl
stripped (b ∷ line) lf plain =
    ap strip_carriage_return (append-nil (b ∷ line))
    ∙ cond-false _ (take (length (b ∷ line) - 1) (b ∷ line)) (b ∷ line)
    (plain_no_cr (get_or (b ∷ line) (length (b ∷ line) - 1) 0) (plain (length (b ∷ line) - 1) 0 (omega arith)))

-- a line is what is left of it and that CR
pub stripped_back : (line : List ℕ) → (end : LineEnd) × (line ≡ strip_carriage_return line ++ return_of end)
stripped_back [] = (lf, refl)
stripped_back (b ∷ line) = by (get_or (b ∷ line) (length (b ∷ line) - 1) 0 == 13) refl
  where
    by : (t : Bool) → (get_or (b ∷ line) (length (b ∷ line) - 1) 0 == 13) ≡ t
        → (end : LineEnd) × ((b ∷ line) ≡ cond t (take (length (b ∷ line) - 1) (b ∷ line)) (b ∷ line) ++ return_of end)
    by true is =
        let n : ℕ = length (b ∷ line) - 1 in
        let last : get_or (b ∷ line) n 0 ≡ 13 = eqb-true _ 13 is in
        let all : length (b ∷ line) ≤ n + 1 = omega arith in
        let none : drop (n + 1) (b ∷ line) ≡ [] = grind (arith, common_steps) in (
          crlf,
          sym (take-append-drop n (b ∷ line))
              ∙ ap (λ l. take n (b ∷ line) ++ l)
              (drop_more (b ∷ line) n 0 (omega arith) ∙ ap (λ v. v ∷ drop (n + 1) (b ∷ line)) last ∙ ap (λ l. 13 ∷ l) none),
        )
    by false is = (lf, sym (append-nil (b ∷ line)))

pub two_bytes : (line : List ℕ) → 1 < length line → is_empty_line line ≡ false
two_bytes [] long = absurd (omega arith)
two_bytes (a ∷ []) long = absurd (omega arith)
two_bytes (a ∷ b ∷ line) long = refl

pub empty_return : (end : LineEnd) → is_empty_line (return_of end) ≡ true
empty_return crlf = refl
empty_return lf = refl

-- ---- field lines

-- the bytes of a field line before its end
abbrev pub line_of : Field → List ℕ
line_of f = f.name ++ 58 ∷ f.raw

abbrev pub ended_line_of : Field → List ℕ
ended_line_of f = line_of f ++ return_of f.end

pub plain_field : (f : Field) → IsField f → IsPlain (line_of f)
plain_field f is =
    All-append (λ b. is_newline b ≡ false) f.name (58 ∷ f.raw) (plain_token f.name is.name.1)
    (All-cons (λ b. is_newline b ≡ false) 58 f.raw refl (plain_run is_value_byte refl refl f.raw is.raw))

long_field : (f : Field) → IsField f → 1 < length (ended_line_of f)
long_field f is =
    omega (arith, is.name.0, length-append (line_of f) (return_of f.end), length-append f.name (58 ∷ f.raw))

pub next_field : (f : Field) (fields : List Field) (last : LineEnd) (rest : List ℕ)
    → print_section (f ∷ fields) last ++ rest ≡ line_of f ++ (print_end f.end ++ (print_section fields last ++ rest))
next_field f fields last rest =
    regroup (line_of f) (print_end f.end) (flat_map print_field fields) (print_end last) rest
  where
    regroup : (a b c d r : List ℕ) → (((a ++ b) ++ c) ++ d) ++ r ≡ a ++ (b ++ ((c ++ d) ++ r))
    regroup a b c d r = simp append_assoc

-- the lines of a section, up to its empty line, and how many bytes they take
pub record IsSection (text rest : List ℕ) (ls : List (List ℕ)) : Type 0 where
  pub lines : head_lines text ≡ ls
  pub ends : has_end text ≡ true
  pub size : head_length text + length rest ≡ length text

pub end_length : (end : LineEnd) (rest : List ℕ)
    → length (print_end end ++ rest) ≡ length (return_of end) + 1 + length rest
end_length crlf rest = omega arith
end_length lf rest = omega arith

pub section_lines : (fields : List Field) (last : LineEnd) (rest : List ℕ) → All IsField fields
    → IsSection (print_section fields last ++ rest) rest (map ended_line_of fields)
section_lines [] last rest all =
    let line = empty_line (print_end last ++ rest) (return_of last) rest
    (ended_line [] last rest (All-nil (λ b. is_newline b ≡ false))) (empty_return last) in
    record {
      lines = line.lines;
      ends = line.ends;
      size = omega (arith, line.size, end_length last rest);
    }
section_lines (f ∷ fields) last rest all =
    let is = All-head IsField f fields all in
    let more = section_lines fields last rest (All-tail IsField f fields all) in
    let after : List ℕ = print_section fields last ++ rest in
    let text : List ℕ = line_of f ++ (print_end f.end ++ after) in
    let line = full_line text (ended_line_of f) after (ended_line (line_of f) f.end after (plain_field f is))
    (two_bytes (ended_line_of f) (long_field f is)) in
    let first : length text ≡ length (ended_line_of f) + 1 + length after =
    omega (
      arith,
      length-append (line_of f) (print_end f.end ++ after),
      length-append (line_of f) (return_of f.end),
      end_length f.end after,
    ) in
    rw (next_field f fields last rest) (record {
      lines = line.lines ∙ ap (λ ls. ended_line_of f ∷ ls) more.lines;
      ends = line.ends ∙ more.ends;
      size = omega (arith, line.size, more.size, first);
    })

-- ---- words

-- bytes of a class have no byte outside it
pub avoids : (test : ℕ → Bool) (stop : ℕ) → test stop ≡ false → (bytes : List ℕ) → AllPass test bytes
    → All (λ b. (b == stop) ≡ false) bytes
avoids test stop fails bytes all =
    All-weaker (λ b. test b ≡ true) (λ b. (b == stop) ≡ false)
    (λ b pass. ne_eqb b stop (λ e. false≢true (sym fails ∙ ap test (sym e) ∙ pass))) bytes all

-- the first place of a byte that stands nowhere in front
place_of : (stop : ℕ) (front rest : List ℕ) → All (λ b. (b == stop) ≡ false) front → (stop == stop) ≡ true
    → position_or_len (λ b. b == stop) (front ++ stop ∷ rest) ≡ length front
place_of stop [] rest none same = ap (λ t. cond (not t) (1 + position_or_len (λ b. b == stop) rest) 0) same
place_of stop (b ∷ front) rest none same =
    ap (λ t. cond (not t) (1 + position_or_len (λ v. v == stop) (front ++ stop ∷ rest)) 0)
    (All-head (λ v. (v == stop) ≡ false) b front none)
    ∙ ap (λ n. 1 + n) (place_of stop front rest (All-tail (λ v. (v == stop) ≡ false) b front none) same)
    ∙ omega arith

colon_place : (f : Field) → IsField f → position_or_len (λ b. b == 58) (line_of f) ≡ length f.name
colon_place f is = place_of 58 f.name f.raw (avoids is_token_byte 58 colon_ends_token f.name is.name.1) refl

pub name_of_line : (f : Field) → IsField f → field_name (line_of f) ≡ f.name
name_of_line f is =
    ap (λ n. take n (line_of f)) (colon_place f is) ∙ take-append_seam f.name (58 ∷ f.raw)

pub value_of_line : (f : Field) → IsField f → after_first (λ b. b == 58) (line_of f) ≡ f.raw
value_of_line f is =
    ap (λ n. drop (n + 1) (line_of f)) (colon_place f is) ∙ drop-append-add f.name (58 ∷ f.raw) 1

pub is_token_from : (bytes : List ℕ) → IsToken bytes → is_token bytes ≡ true
is_token_from bytes is = and_from _ _ (lt-ltb 0 (length bytes) is.0) (list_all-from_AllPass is_token_byte bytes is.1)

pub token_from : (bytes : List ℕ) → is_token bytes ≡ true → IsToken bytes
token_from bytes is =
    let both = and_parts _ _ is in
    (ltb-true 0 (length bytes) both.0, AllPass-from_list_all is_token_byte bytes both.1)

pub is_field_line_of : (f : Field) → IsField f → is_field_line (line_of f) ≡ true
is_field_line_of f is =
    and_from _ _ (and_from _ _
    (ap is_token (name_of_line f is) ∙ is_token_from f.name is.name)
    (ap (λ l. nat_lt (length l) (length (line_of f))) (name_of_line f is)
    ∙ lt-ltb (length f.name) (length (line_of f)) (omega (arith, length-append f.name (58 ∷ f.raw)))))
    (ap (list_all is_value_byte) (value_of_line f is) ∙ list_all-from_AllPass is_value_byte f.raw is.raw)

shorter_than : (n : ℕ) (line : List ℕ) → length (take n line) < length line → n < length line
shorter_than n line shorter = grind (arith, common_steps)

-- a line that is one gives a field
pub field_from_line : (line : List ℕ) (end : LineEnd) → is_field_line line ≡ true
    → (f : Field) × IsField f × (line_of f ≡ line) × (f.end ≡ end)
field_from_line line end is =
    let outer = and_parts _ _ is in
    let inner = and_parts _ _ outer.0 in
    let place : ℕ = position_or_len (λ b. b == 58) line in
    let shorter : length (take place line) < length line = ltb-true _ _ inner.1 in
    let found : place < length line = shorter_than place line shorter in
    let colon : get_or line place 0 ≡ 58 = eqb-true _ 58 (passes_at_first (λ b. b == 58) line 0 found) in (
      record { name = field_name line; raw = after_first (λ b. b == 58) line; end = end },
      record { name = token_from (field_name line) inner.0; raw = AllPass-from_list_all is_value_byte _ outer.1 },
      sym (split_at_first (λ b. b == 58) line 0 found
          ∙ ap (λ v. field_name line ++ v ∷ after_first (λ b. b == 58) line) colon),
      refl,
    )
