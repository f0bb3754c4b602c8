-- What stands behind a head says nothing of it.
use Rattle.std.proofs.Common.{min, ◌≡◌, ℕ, suc, ◌+◌, ◌-◌, ◌<◌, ◌≤◌, Bool, true, false, List, [], ◌∷◌, ◌++◌, length, take, drop, map, refl, sym, ap, subst, ◌∙◌, arith, append_assoc, length-append, take_all, ⊎_elim, Option, Some, None, Result, Ok, Err}
use Rattle.std.specs.Prelude.{◌&&◌, ◌||◌, All, not, nat_le, nat_lt, if◌then◌else◌}
use Rattle.std.specs.List.{list_any}
use Rattle.std.specs.Str.Lines.{strip_carriage_return}
use Rattle.std.proofs.lemmas.List.{append-nil}
use Rattle.std.proofs.Math.Seq.{take-append-add}
use Rattle.std.proofs.lemmas.Bool.{eqb-true, cases_lt, le-leb}
use Rattle.std.proofs.lemmas.List.{take-append-drop, length-take}
use Rattle.std.proofs.lemmas.List.Elements.{All-append, All-cons, All-nil}
use Rattle.std.proofs.lemmas.List.Splits.{slice_split_none}
use Rattle.httparse.specs.Pieces.{is_newline}
use Rattle.lab_wire_heads.specs.declared.refusals.HeadRefusal.{HeadRefusal}
use Rattle.lab_wire_heads.specs.declared.refusals.HeadRefusal.TheVariants.{BadHead, HeadTooLong}
use Rattle.lab_wire_heads.specs.Heads.{head_limit, field_limit, without_front, front_length, head_text, is_line_feed, but_last, is_empty_line, head_lines, has_end, head_length, is_over_limits, Head, GoodHead, head_of_lines, head_of, keeps_host_rule, checked_head, head_end, good_head}
use Rattle.lab_wire_heads.proofs.LineLemmas.{ended_lines_at, full_line, empty_line}

-- two texts have the same head
pub record IsSameHead (a b : List ℕ) : Type 0 where
  pub ends : has_end a ≡ true
  pub lines : head_lines a ≡ head_lines b
  pub size : head_length a ≡ head_length b

-- a text whose head has ended: the bytes of the head, and the rest, in whose place anything may stand
pub record IsEnded (text : List ℕ) : Type 0 where
  pub front : List ℕ
  pub rest : List ℕ
  pub parts : text ≡ front ++ rest
  pub some : 0 < length front
  pub size : length front ≡ head_length text
  pub same : (post : List ℕ) → IsSameHead (front ++ post) text

abbrev NoFeed : List ℕ → Type 0
NoFeed line = All (λ b. is_line_feed b ≡ false) line

no_feed : (line : List ℕ) → NoFeed line → has_end line ≡ false
unfolding has_end
no_feed line none = ap (λ parts. list_any is_empty_line (but_last parts)) (slice_split_none is_line_feed line none)

-- after an empty line
at_empty : (line rest : List ℕ) → NoFeed line → is_empty_line line ≡ true → IsEnded (line ++ 10 ∷ rest)
at_empty line rest none is =
    let here = empty_line (line ++ 10 ∷ rest) line rest (ended_lines_at line rest none) is in
    record {
      front = line ++ 10 ∷ [];
      rest = rest;
      parts = sym (append_assoc line (10 ∷ []) rest);
      some = omega (arith, length-append line (10 ∷ []));
      size = length-append line (10 ∷ []) ∙ sym here.size;
      same = λ post.
          let there = empty_line (line ++ 10 ∷ post) line post (ended_lines_at line post none) is in
          subst (λ t. IsSameHead t (line ++ 10 ∷ rest)) (sym (append_assoc line (10 ∷ []) post)) (record {
            ends = there.ends;
            lines = there.lines ∙ sym here.lines;
            size = there.size ∙ sym here.size;
          });
    }

-- after a line of the head, by what follows it
at_full : (line rest : List ℕ) → NoFeed line → is_empty_line line ≡ false → IsEnded rest → IsEnded (line ++ 10 ∷ rest)
at_full line rest none is ended =
    let here = full_line (line ++ 10 ∷ rest) line rest (ended_lines_at line rest none) is in
    record {
      front = line ++ 10 ∷ ended.front;
      rest = ended.rest;
      parts = ap (λ t. line ++ 10 ∷ t) ended.parts ∙ sym (append_assoc line (10 ∷ ended.front) ended.rest);
      some = omega (arith, length-append line (10 ∷ ended.front));
      size = omega (arith, length-append line (10 ∷ ended.front), ended.size, here.size);
      same = λ post.
          let later = ended.same post in
          let there = full_line (line ++ 10 ∷ (ended.front ++ post)) line (ended.front ++ post) (ended_lines_at line (ended.front ++ post) none) is in
          subst (λ t. IsSameHead t (line ++ 10 ∷ rest)) (sym (append_assoc line (10 ∷ ended.front) post)) (record {
            ends = there.ends ∙ later.ends;
            lines = there.lines ∙ ap (λ ls. line ∷ ls) later.lines ∙ sym here.lines;
            size = there.size ∙ ap (λ n. length line + 1 + n) later.size ∙ sym here.size;
          });
    }

-- a text, of whose first line some bytes were read
ended_from : (line text : List ℕ) → NoFeed line → has_end (line ++ text) ≡ true → IsEnded (line ++ text)
ended_from line [] none ends = absurd (differ (sym (no_feed line none) ∙ sym (ap has_end (append-nil line)) ∙ ends))
  where
    differ : false ≡ true → ⊥
    differ e = cc
ended_from line (b ∷ text) none ends =
    by (is_line_feed b) refl (ended_from [] text (All-nil _)) (ended_from (line ++ b ∷ []) text)
  where
    by_line : (t : Bool) → is_empty_line line ≡ t → (has_end text ≡ true → IsEnded text)
        → has_end (line ++ 10 ∷ text) ≡ true → IsEnded (line ++ 10 ∷ text)
    by_line true is next found = at_empty line text none is
    by_line false is next found =
        let line_is = full_line (line ++ 10 ∷ text) line text (ended_lines_at line text none) is in
        at_full line text none is (next (sym line_is.ends ∙ found))

    by : (t : Bool) → is_line_feed b ≡ t → (has_end text ≡ true → IsEnded text)
        → (NoFeed (line ++ b ∷ []) → has_end ((line ++ b ∷ []) ++ text) ≡ true → IsEnded ((line ++ b ∷ []) ++ text))
        → IsEnded (line ++ b ∷ text)
    by true is next more =
        let feed : b ≡ 10 = eqb-true b 10 is in
        subst (λ c. IsEnded (line ++ c ∷ text)) (sym feed)
        (by_line (is_empty_line line) refl next (subst (λ c. has_end (line ++ c ∷ text) ≡ true) feed ends))
    by false is next more =
        let moved = append_assoc line (b ∷ []) text in
        subst IsEnded moved
        (more
        (All-append (λ c. is_line_feed c ≡ false) line (b ∷ []) none (All-cons (λ c. is_line_feed c ≡ false) b [] is (All-nil _)))
        (subst (λ t. has_end t ≡ true) (sym moved) ends))

pub ended_text : (text : List ℕ) → has_end text ≡ true → IsEnded text
ended_text text ends = ended_from [] text (All-nil _) ends

-- ---- what stands before a head

-- the bytes that are passed over before a head, behind which other bytes may stand
pub record IsBehind (bytes front rest : List ℕ) : Type 0 where
  pub skipped : List ℕ
  pub parts : bytes ≡ skipped ++ (front ++ rest)
  pub text : (post : List ℕ) → without_front (skipped ++ (front ++ post)) ≡ front ++ post
  pub count : (post : List ℕ) → front_length (skipped ++ (front ++ post)) ≡ length skipped

behind : (bytes front rest : List ℕ) → 0 < length front → without_front bytes ≡ front ++ rest → IsBehind bytes front rest
behind [] front rest some is =
    absurd (omega (arith, ap length is, length-append front rest))
behind (b ∷ bytes) front rest some is = by (is_newline b) refl (behind bytes front rest some)
  where
    later : is_newline b ≡ true → IsBehind bytes front rest → IsBehind (b ∷ bytes) front rest
    later new found = record {
      skipped = b ∷ found.skipped;
      parts = ap (λ t. b ∷ t) found.parts;
      text = λ post. ap (λ t. if t then without_front (found.skipped ++ (front ++ post)) else b ∷ (found.skipped ++ (front ++ post))) new ∙ found.text post;
      count = λ post. ap (λ t. if t then suc (front_length (found.skipped ++ (front ++ post))) else 0) new ∙ ap suc (found.count post);
    }

    here : (xs : List ℕ) → 0 < length xs → is_newline b ≡ false → b ∷ bytes ≡ xs ++ rest → IsBehind (b ∷ bytes) xs rest
    here [] none old same = absurd (omega arith)
    here (c ∷ cs) any old same =
        let first : b ≡ c = cc in
        let stays : is_newline c ≡ false = subst (λ x. is_newline x ≡ false) first old in
        record {
          skipped = [];
          parts = same;
          text = λ post. ap (λ t. if t then without_front (cs ++ post) else c ∷ (cs ++ post)) stays;
          count = λ post. ap (λ t. if t then suc (front_length (cs ++ post)) else 0) stays;
        }

    by : (t : Bool) → is_newline b ≡ t → (without_front bytes ≡ front ++ rest → IsBehind bytes front rest)
        → IsBehind (b ∷ bytes) front rest
    by true new next =
        later new (next (sym (ap (λ t. if t then without_front bytes else b ∷ bytes) new) ∙ is))
    by false old next =
        here front some old (sym (ap (λ t. if t then without_front bytes else b ∷ bytes) old) ∙ is)

-- ---- the head

-- the head that is read of bytes stands in the first of them, behind which other bytes may stand
pub record IsByFront (bytes : List ℕ) : Type 0 where
  pub whole : List ℕ
  pub rest : List ℕ
  pub parts : bytes ≡ whole ++ rest
  pub size : length whole ≡ head_end bytes
  pub ends : (post : List ℕ) → has_end (head_text (whole ++ post)) ≡ true
  pub place : (post : List ℕ) → head_end (whole ++ post) ≡ head_end bytes
  pub same : (post : List ℕ) → good_head (whole ++ post) ≡ good_head bytes

-- where the head has ended, it isn't over the limits by how many bytes came
over_by_lines : (came : ℕ) (text : List ℕ) → has_end text ≡ true
    → is_over_limits came text ≡ nat_lt (1 + field_limit) (length (head_lines text))
unfolding is_over_limits
over_by_lines came text ends =
    ap (λ b. (nat_le head_limit came && not b) || nat_lt (1 + field_limit) (length (head_lines text))) ends
    ∙ ap (λ b. b || nat_lt (1 + field_limit) (length (head_lines text))) (and_false (nat_le head_limit came))
  where
    and_false : (b : Bool) → (b && false) ≡ false
    and_false true = refl
    and_false false = refl

-- so two texts of one head are read alike
head_of_same : (a b : List ℕ) → IsSameHead a b → has_end b ≡ true → head_of a ≡ head_of b
unfolding head_of
head_of_same a b same ends =
    (λ i. if same.ends i then head_of_lines (map strip_carriage_return (same.lines i)) else None)
    ∙ sym (ap (λ t. if t then head_of_lines (map strip_carriage_return (head_lines b)) else None) ends)

abbrev answer_of : Bool → ℕ → Option Head → Result GoodHead HeadRefusal
answer_of over end head = if over then Err HeadTooLong else checked_head end head

good_by : (bytes text : List ℕ) → text ≡ head_text bytes → has_end text ≡ true
    → good_head bytes ≡ answer_of (nat_lt (1 + field_limit) (length (head_lines text)))
    (front_length (take head_limit bytes) + head_length text) (head_of text)
unfolding good_head
good_by bytes text is ends =
    (λ i. answer_of (is_over_limits (length bytes) (sym is i)) (front_length (take head_limit bytes) + head_length (sym is i)) (head_of (sym is i)))
    ∙ ap (λ b. answer_of b (front_length (take head_limit bytes) + head_length text) (head_of text)) (over_by_lines (length bytes) text ends)

-- the bytes up to the head's end, behind which other bytes stand
record IsCut (bytes whole post : List ℕ) : Type 0 where
  text : List ℕ
  text_is : text ≡ head_text (whole ++ post)
  count : front_length (take head_limit (whole ++ post)) ≡ front_length (take head_limit bytes)
  head : IsSameHead text (head_text bytes)

cut_at : (bytes : List ℕ) (ended : IsEnded (head_text bytes)) (back : IsBehind (take head_limit bytes) ended.front ended.rest)
    → front_length (take head_limit bytes) ≡ length back.skipped → length (back.skipped ++ ended.front) ≤ head_limit
    → (post : List ℕ) → IsCut bytes (back.skipped ++ ended.front) post
cut_at bytes ended back skipped fits post =
    let whole : List ℕ = back.skipped ++ ended.front in
    let left : List ℕ = take (head_limit - length whole) post in
    let reach : length whole + (head_limit - length whole) ≡ head_limit = omega (arith, fits) in
    let taken : take head_limit (whole ++ post) ≡ back.skipped ++ (ended.front ++ left) =
    ap (λ n. take n (whole ++ post)) (sym reach)
    ∙ take-append-add whole post (head_limit - length whole)
    ∙ append_assoc back.skipped ended.front left in
    record {
      text = ended.front ++ left;
      text_is = sym (ap without_front taken ∙ back.text left);
      count = ap front_length taken ∙ back.count left ∙ sym skipped;
      head = ended.same left;
    }

pub by_front : (bytes : List ℕ) → has_end (head_text bytes) ≡ true → IsByFront bytes
by_front bytes ends =
    let text : List ℕ = head_text bytes in
    let near : List ℕ = take head_limit bytes in
    let ended = ended_text text ends in
    let back = behind near ended.front ended.rest ended.some ended.parts in
    let whole : List ℕ = back.skipped ++ ended.front in
    let near_is : near ≡ whole ++ ended.rest = back.parts ∙ sym (append_assoc back.skipped ended.front ended.rest) in
    let skipped : front_length near ≡ length back.skipped = ap front_length back.parts ∙ back.count ended.rest in
    let size : length whole ≡ head_end bytes =
    length-append back.skipped ended.front ∙ (λ i. sym skipped i + ended.size i) in
    let fits : length whole ≤ head_limit =
    omega (arith, length-take head_limit bytes, ap length near_is, length-append whole ended.rest) in
    record {
      whole = whole;
      rest = ended.rest ++ drop head_limit bytes;
      parts =
          sym (take-append-drop head_limit bytes)
          ∙ ap (λ t. t ++ drop head_limit bytes) near_is
          ∙ append_assoc whole ended.rest (drop head_limit bytes);
      size = size;
      ends = λ post.
          let cut = cut_at bytes ended back skipped fits post in
          ap has_end (sym cut.text_is) ∙ cut.head.ends;
      place = λ post.
          let cut = cut_at bytes ended back skipped fits post in
          (λ i. cut.count i + head_length (sym cut.text_is i)) ∙ ap (λ n. front_length near + n) cut.head.size;
      same = λ post.
          let cut = cut_at bytes ended back skipped fits post in
          let head = cut.head in
          good_by (whole ++ post) cut.text cut.text_is head.ends
          ∙ (λ i. answer_of (nat_lt (1 + field_limit) (length (head.lines i))) (cut.count i + head.size i) (head_of_same cut.text text head ends i))
          ∙ sym (good_by bytes text refl ends);
    }

-- what is read of a head stands within the limit
near_limit : (count : ℕ) → nat_le head_limit (min head_limit count) ≡ nat_le head_limit count
near_limit count =
    ⊎_elim
    (λ (below : count < head_limit). let same : min head_limit count ≡ count = omega arith in ap (nat_le head_limit) same)
    (λ (reached : head_limit ≤ count).
    le-leb head_limit (min head_limit count) (omega arith) ∙ sym (le-leb head_limit count reached))
    (cases_lt count head_limit)

over_near : (bytes text : List ℕ)
    → is_over_limits (length (take head_limit bytes)) text ≡ is_over_limits (length bytes) text
unfolding is_over_limits
over_near bytes text =
    ap (λ b. (b && not (has_end text)) || nat_lt (1 + field_limit) (length (head_lines text)))
    (ap (nat_le head_limit) (length-take head_limit bytes) ∙ near_limit (length bytes))

near_twice : (bytes : List ℕ) → take head_limit (take head_limit bytes) ≡ take head_limit bytes
near_twice bytes = take_all head_limit (take head_limit bytes) (omega (arith, length-take head_limit bytes))

pub by_near : (bytes : List ℕ) → good_head (take head_limit bytes) ≡ good_head bytes
unfolding good_head
by_near bytes =
    (λ i. answer_of (is_over_limits (length (take head_limit bytes)) (without_front (near_twice bytes i)))
    (front_length (near_twice bytes i) + head_length (without_front (near_twice bytes i)))
    (head_of (without_front (near_twice bytes i))))
    ∙ ap (λ b. answer_of b (head_end bytes) (head_of (head_text bytes))) (over_near bytes (head_text bytes))

-- ---- a good head

ended_if : (t : Bool) (text : List ℕ) (end : ℕ) (head : Option Head) (good : GoodHead)
    → checked_head end (if t then head else None) ≡ Ok good → t ≡ true
ended_if true text end head good e = refl
ended_if false text end head good e = absurd (cc)

end_if : (end : ℕ) (head : Option Head) (good : GoodHead) → checked_head end head ≡ Ok good → good.end ≡ end
end_if end None good e = absurd (cc)
end_if end (Some head) good e = by (keeps_host_rule head) e
  where
    by : (t : Bool) → (if t then Ok (record { head = head; end = end }) else Err BadHead) ≡ Ok good → good.end ≡ end
    by true same = sym (ap end_of same)
      where
        end_of : Result GoodHead HeadRefusal → ℕ
        end_of (Ok found) = found.end
        end_of (Err refusal) = 0
    by false same = absurd (cc)

checked_if : (t : Bool) (found : Result GoodHead HeadRefusal) (good : GoodHead)
    → (if t then Err HeadTooLong else found) ≡ Ok good → found ≡ Ok good
checked_if true found good e = absurd (cc)
checked_if false found good e = e

-- what is found of a good head
pub record IsGood (bytes : List ℕ) (good : GoodHead) : Type 0 where
  pub ends : has_end (head_text bytes) ≡ true
  pub place : good.end ≡ head_end bytes

pub good_parts : (bytes : List ℕ) (good : GoodHead) → good_head bytes ≡ Ok good → IsGood bytes good
unfolding good_head head_of
good_parts bytes good is =
    let checked = checked_if (is_over_limits (length bytes) (head_text bytes)) _ good is in
    record {
      ends = ended_if (has_end (head_text bytes)) (head_text bytes) (head_end bytes) _ good checked;
      place = end_if (head_end bytes) _ good checked;
    }
