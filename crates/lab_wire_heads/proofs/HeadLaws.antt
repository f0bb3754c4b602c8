-- The reading of a head by lines and words finds a head exactly where the grammar of `httparse` has
-- one, and the same words and fields.
use Rattle.std.proofs.Common.{◌≡◌, ℕ, ◌+◌, ◌<◌, ◌≤◌, ◌⊎◌, Bool, true, false, cond, List, [], ◌∷◌, ◌++◌, length, drop, map, refl, sym, ap, ◌∙◌, arith, append_assoc, Some, None, inl, inr, suc, zero, length-append}
use Rattle.std.specs.Prelude.{◌||◌, ◌==◌, All, not, take_while, if◌then◌else◌}
use Rattle.std.specs.List.{list_any, list_all, slice_split, join_with_byte}
use Rattle.std.specs.Str.Lines.{strip_carriage_return}
use Rattle.std.proofs.lemmas.Bool.{and_from, and_parts, or_cases, cond-true, cond-false, lt-ltb, ltb-true, eqb-true, cases_Bool}
use Rattle.std.proofs.Math.Seq.{drop-append_seam}
use Rattle.std.proofs.lemmas.List.Elements.{All-append, All-cons, All-nil, All-head, All-tail}
use Rattle.std.proofs.lemmas.List.Splits.{slice_split_at, join_with_byte-slice_split}
use Rattle.std.proofs.lemmas.List.Sums.{list_all-from_AllPass, AllPass-from_list_all, take_while-cons}
use Rattle.std.proofs.lemmas.Slice.Eq.{bytes_eq-Decides}
use Rattle.std.proofs.lemmas.Str.{IsUtf8-from_is_utf8, is_utf8-from_IsUtf8}
use Rattle.httparse.specs.Grammar.{is_token_byte, is_token, is_uri_byte, is_value_byte, AllPass, LineEnd, crlf, lf, print_end, print_blank, print_version, Field, IsField, print_section, RequestHead, IsRequestHead, ReadsRequest, print_request, trim_ows}
use Rattle.httparse.specs.Pieces.{is_newline, Stops}
use Rattle.httparse.proofs.PieceLemmas.{space_ends_token, newline_not_stopped}
use Rattle.httparse.proofs.GrammarLemmas.{print_request-append}
use Rattle.lab_wire_heads.specs.Heads.{without_front, is_line_feed, but_last, is_empty_line, head_lines, has_end, words, is_target, is_version, is_field_line, field_of, head_length, Head, is_head, head_of_words, head_of_lines, head_of}
use Rattle.lab_wire_heads.specs.HeadGrammar.{field_shown, HasHead, IsReadAs, GrammarOfHeads}
use Rattle.lab_wire_heads.proofs.LineLemmas.{full_line}
use Rattle.lab_wire_heads.proofs.HeadLemmas.{IsPlain, plain_run, plain_token, return_of, end_split, ended_line, stripped, stripped_back, two_bytes, line_of, ended_line_of, plain_field, next_field, section_lines, avoids, name_of_line, value_of_line, end_length, is_token_from, token_from, is_field_line_of, field_from_line}

-- ---- what stands before a head

-- the text ends, or its first byte is neither CR nor LF
abbrev pub IsFront : List ℕ → Type 0
IsFront text = (text ≡ []) ⊎ Stops is_newline text

pub front_of : (bytes : List ℕ) → IsFront (without_front bytes)
front_of [] = inl refl
front_of (b ∷ bytes) = by (front_of bytes) (is_newline b) refl
  where
    by : IsFront (without_front bytes) → (t : Bool) → is_newline b ≡ t
        → IsFront (if t then without_front bytes else b ∷ bytes)
    by rest true is = rest
    by rest false is = inr is

no_end : (end : LineEnd) (more : List ℕ) → print_end end ++ more ≡ [] → ⊥
no_end crlf more e = cc
no_end lf more e = cc

no_blank : (text more : List ℕ) (blank : List LineEnd) → IsFront text → text ≡ print_blank blank ++ more
    → blank ≡ []
no_blank text more [] front e = refl
no_blank text more (end ∷ blank) front e =
    let begins : print_end end ++ (print_blank blank ++ more) ≡ text =
    sym (append_assoc (print_end end) (print_blank blank) more) ∙ sym e in
    elim front [
      | inl empty ↦ absurd (no_end end _ (begins ∙ empty))
      | inr stops ↦ absurd (newline_not_stopped end _ text begins stops)
    ]

-- ---- a head of the grammar is read

-- the request line of a head
abbrev pub request_line_of : RequestHead → List ℕ
request_line_of h = h.method ++ 32 ∷ (h.target ++ 32 ∷ print_version h.minor)

version_values : (minor : ℕ) → minor ≤ 1 → AllPass is_value_byte (print_version minor)
version_values zero le = AllPass-from_list_all is_value_byte (print_version 0) refl
version_values (suc zero) le = AllPass-from_list_all is_value_byte (print_version 1) refl
version_values (suc (suc n)) le = absurd (omega arith)

version_word : (minor : ℕ) → minor ≤ 1 → words (print_version minor) ≡ print_version minor ∷ []
version_word zero le = refl
version_word (suc zero) le = refl
version_word (suc (suc n)) le = absurd (omega arith)

version_is : (minor : ℕ) → minor ≤ 1 → is_version (print_version minor) ≡ true
version_is zero le = refl
version_is (suc zero) le = refl
version_is (suc (suc n)) le = absurd (omega arith)

plain_request : (h : RequestHead) → IsRequestHead h → IsPlain (request_line_of h)
plain_request h is =
    let P : ℕ → Type 0 = λ b. is_newline b ≡ false in
    let version : List ℕ = print_version h.minor in
    All-append P h.method (32 ∷ (h.target ++ 32 ∷ version)) (plain_token h.method is.method.1)
    (All-cons P 32 (h.target ++ 32 ∷ version) refl
    (All-append P h.target (32 ∷ version) (plain_run is_uri_byte refl refl h.target is.target.1)
    (All-cons P 32 version refl (plain_run is_value_byte refl refl version (version_values h.minor is.minor)))))

request_words : (h : RequestHead) → IsRequestHead h
    → words (request_line_of h) ≡ h.method ∷ h.target ∷ print_version h.minor ∷ []
request_words h is =
    slice_split_at (λ b. b == 32) h.method 32 (h.target ++ 32 ∷ print_version h.minor)
    (avoids is_token_byte 32 space_ends_token h.method is.method.1) refl
    ∙ ap (λ ws. h.method ∷ ws)
    (slice_split_at (λ b. b == 32) h.target 32 (print_version h.minor)
    (avoids is_uri_byte 32 refl h.target is.target.1) refl
    ∙ ap (λ ws. h.target ∷ ws) (version_word h.minor is.minor))

stripped_fields : (fields : List Field) → All IsField fields
    → map strip_carriage_return (map ended_line_of fields) ≡ map line_of fields
stripped_fields [] all = refl
stripped_fields (f ∷ fields) all =
    let one = stripped (line_of f) f.end (plain_field f (All-head IsField f fields all)) in
    let more = stripped_fields fields (All-tail IsField f fields all) in
    λ i. one i ∷ more i

field_lines_are : (fields : List Field) → All IsField fields → list_all is_field_line (map line_of fields) ≡ true
field_lines_are [] all = refl
field_lines_are (f ∷ fields) all =
    and_from _ _ (is_field_line_of f (All-head IsField f fields all))
    (field_lines_are fields (All-tail IsField f fields all))

fields_are : (fields : List Field) → All IsField fields
    → map field_of (map line_of fields) ≡ map field_shown fields
fields_are [] all = refl
fields_are (f ∷ fields) all =
    let is = All-head IsField f fields all in
    let name = name_of_line f is in
    let value = ap trim_ows (value_of_line f is) in
    let more = fields_are fields (All-tail IsField f fields all) in
    λ i. record { name = name i; value = value i } ∷ more i

is_head_of : (h : RequestHead) → IsRequestHead h
    → is_head h.method h.target (print_version h.minor) (map line_of h.fields) ≡ true
is_head_of h is =
    and_from _ _ (and_from _ _ (and_from _ _
    (is_token_from h.method is.method)
    (and_from _ _ (and_from _ _ (lt-ltb 0 (length h.target) is.target.0)
    (list_all-from_AllPass is_uri_byte h.target is.target.1))
    (is_utf8-from_IsUtf8 h.target is.target_text)))
    (version_is h.minor is.minor))
    (field_lines_are h.fields is.fields)

length-map : (fields : List Field) → length (map ended_line_of fields) ≡ length fields
length-map [] = refl
length-map (f ∷ fields) = omega (arith, length-map fields)

long_request : (h : RequestHead) → IsRequestHead h → 1 < length (request_line_of h ++ return_of h.line_end)
long_request h is =
    omega (
      arith,
      is.method.0,
      is.target.0,
      length-append (request_line_of h) (return_of h.line_end),
      length-append h.method (32 ∷ (h.target ++ 32 ∷ print_version h.minor)),
      length-append h.target (32 ∷ print_version h.minor),
    )

request_text : (text : List ℕ) (h : RequestHead) (rest : List ℕ) → IsFront text → ReadsRequest text h rest
    → text ≡ request_line_of h ++ (print_end h.line_end ++ (print_section h.fields h.last ++ rest))
request_text text h rest front x =
    let whole = x.1 ∙ print_request-append h rest in
    let none = no_blank text _ h.blank front whole in
    let after : List ℕ = print_end h.line_end ++ (print_section h.fields h.last ++ rest) in
    whole ∙ ap (λ blank. print_blank blank ++ (h.method ++ 32 ∷ (h.target ++ 32 ∷ (print_version h.minor ++ after)))) none
    ∙ regroup h.method h.target (print_version h.minor) after
  where
    regroup : (a b c r : List ℕ)
        → a ++ 32 ∷ (b ++ 32 ∷ (c ++ r)) ≡ (a ++ 32 ∷ (b ++ 32 ∷ c)) ++ r
    regroup a b c r = sym (append_assoc a (32 ∷ (b ++ 32 ∷ c)) r ∙ ap (λ t. a ++ 32 ∷ t) (append_assoc b (32 ∷ c) r))

-- how many bytes the head takes
pub record HasLength (text : List ℕ) (h : RequestHead) (rest : List ℕ) : Type 0 where
  pub read : IsReadAs text h rest
  pub size : head_length text ≡ length (print_request h)

pub reads_head : (text : List ℕ) (h : RequestHead) (rest : List ℕ) → IsFront text → ReadsRequest text h rest
    → HasLength text h rest
unfolding head_of
reads_head text h rest front x =
    let after : List ℕ = print_section h.fields h.last ++ rest in
    let line : List ℕ = request_line_of h in
    let shape = request_text text h rest front x in
    let section = section_lines h.fields h.last rest x.0.fields in
    let whole : List ℕ = line ++ (print_end h.line_end ++ after) in
    let first = full_line whole (line ++ return_of h.line_end) after
    (ended_line line h.line_end after (plain_request h x.0)) (two_bytes _ (long_request h x.0)) in
    let lines : head_lines text ≡ (line ++ return_of h.line_end) ∷ map ended_line_of h.fields =
    ap head_lines shape ∙ first.lines ∙ ap (λ ls. (line ++ return_of h.line_end) ∷ ls) section.lines in
    let ends : has_end text ≡ true = ap has_end shape ∙ first.ends ∙ section.ends in
    let plain : map strip_carriage_return (head_lines text) ≡ line ∷ map line_of h.fields =
    ap (map strip_carriage_return) lines
    ∙ (λ i. stripped line h.line_end (plain_request h x.0) i ∷ stripped_fields h.fields x.0.fields i) in
    let count : length ((line ++ return_of h.line_end) ∷ map ended_line_of h.fields) ≡ 1 + length h.fields =
    omega (arith, length-map h.fields) in
    let size : head_length text ≡ length (print_request h) =
    omega (
      arith,
      ap head_length shape,
      ap length shape,
      first.size,
      section.size,
      length-append line (print_end h.line_end ++ after),
      length-append line (return_of h.line_end),
      end_length h.line_end after,
      ap length x.1,
      length-append (print_request h) rest,
    ) in
    record {
      read = record {
        head =
            cond-true (has_end text) (head_of_lines (map strip_carriage_return (head_lines text))) None ends
            ∙ ap head_of_lines plain
            ∙ ap (λ ws. head_of_words ws (map line_of h.fields)) (request_words h x.0)
            ∙ cond-true (is_head h.method h.target (print_version h.minor) (map line_of h.fields)) _ None (is_head_of h x.0)
            ∙ ap (λ fs. Some (record { method = h.method; target = h.target; version = print_version h.minor; fields = fs }))
            (fields_are h.fields x.0.fields);
        lines = ap length lines ∙ count;
        rest =
            ap (λ n. drop n text) size ∙ ap (drop (length (print_request h))) x.1
            ∙ drop-append_seam (print_request h) rest;
      };
      size = size;
    }

-- ---- what is read is a head of the grammar

empty_end : (line : List ℕ) → is_empty_line line ≡ true → (end : LineEnd) × (line ≡ return_of end)
empty_end [] is = (lf, refl)
empty_end (b ∷ []) is = (crlf, ap (λ v. v ∷ []) (eqb-true b 13 is))
empty_end (b ∷ c ∷ line) is = absurd (cc)

-- the lines of the parts between line feeds, up to the first empty one
abbrev part_lines : List (List ℕ) → List (List ℕ)
part_lines parts = take_while (λ line. not (is_empty_line line)) (but_last parts)

abbrev part_end : List (List ℕ) → Bool
part_end parts = list_any is_empty_line (but_last parts)

more_parts : (line next : List ℕ) (parts : List (List ℕ)) → is_empty_line line ≡ false
    → (part_lines (line ∷ next ∷ parts) ≡ line ∷ part_lines (next ∷ parts))
    × (part_end (line ∷ next ∷ parts) ≡ part_end (next ∷ parts))
more_parts line next parts is = (
  take_while-cons (λ l. not (is_empty_line l)) line (but_last (next ∷ parts))
      ∙ ap (λ b. cond (not b) (line ∷ part_lines (next ∷ parts)) []) is,
  ap (λ b. b || part_end (next ∷ parts)) is,
)

no_parts : (line next : List ℕ) (parts : List (List ℕ)) → is_empty_line line ≡ true
    → part_lines (line ∷ next ∷ parts) ≡ []
no_parts line next parts is =
    take_while-cons (λ l. not (is_empty_line l)) line (but_last (next ∷ parts))
    ∙ ap (λ b. cond (not b) (line ∷ part_lines (next ∷ parts)) []) is

-- the field lines of parts, as the section that they print
record SectionOf (parts : List (List ℕ)) : Type 0 where
  pub fields : List Field
  pub last : LineEnd
  pub rest : List ℕ
  pub are : All IsField fields
  pub text : join_with_byte 10 parts ≡ print_section fields last ++ rest

section_ends : (line next : List ℕ) (parts : List (List ℕ)) → is_empty_line line ≡ true
    → SectionOf (line ∷ next ∷ parts)
section_ends line next parts is =
    let end = empty_end line is in
    let rest : List ℕ = join_with_byte 10 (next ∷ parts) in
    record {
      fields = [];
      last = end.0;
      rest = rest;
      are = All-nil IsField;
      text = ap (λ l. l ++ 10 ∷ rest) end.1 ∙ sym (end_split end.0 rest);
    }

section_goes_on : (line next : List ℕ) (parts : List (List ℕ))
    → is_field_line (strip_carriage_return line) ≡ true → SectionOf (next ∷ parts)
    → SectionOf (line ∷ next ∷ parts)
section_goes_on line next parts is more =
    let end = stripped_back line in
    let field = field_from_line (strip_carriage_return line) end.0 is in
    let f : Field = field.0 in
    let after : List ℕ = print_section more.fields more.last ++ more.rest in
    record {
      fields = f ∷ more.fields;
      last = more.last;
      rest = more.rest;
      are = All-cons IsField f more.fields field.1 more.are;
      text =
          ap (λ l. l ++ 10 ∷ join_with_byte 10 (next ∷ parts)) end.1
          ∙ ap (λ t. (strip_carriage_return line ++ return_of end.0) ++ 10 ∷ t) more.text
          ∙ append_assoc (strip_carriage_return line) (return_of end.0) (10 ∷ after)
          ∙ ap (λ t. strip_carriage_return line ++ t) (sym (end_split end.0 after))
          ∙ ap (λ l. l ++ (print_end end.0 ++ after)) (sym field.2)
          ∙ ap (λ e. line_of f ++ (print_end e ++ after)) (sym field.3)
          ∙ sym (next_field f more.fields more.last more.rest);
    }

section_from : (parts : List (List ℕ)) → part_end parts ≡ true
    → list_all is_field_line (map strip_carriage_return (part_lines parts)) ≡ true → SectionOf parts
section_from [] ends are = absurd (cc)
section_from (line ∷ []) ends are = absurd (cc)
section_from (line ∷ next ∷ parts) ends are = by (section_from (next ∷ parts)) (is_empty_line line) refl
  where
    by : (part_end (next ∷ parts) ≡ true
        → list_all is_field_line (map strip_carriage_return (part_lines (next ∷ parts))) ≡ true
        → SectionOf (next ∷ parts))
        → (t : Bool) → is_empty_line line ≡ t → SectionOf (line ∷ next ∷ parts)
    by rest true is = section_ends line next parts is
    by rest false is =
        let step = more_parts line next parts is in
        let both = and_parts _ _ (sym (ap (λ ls. list_all is_field_line (map strip_carriage_return ls)) step.0) ∙ are) in
        section_goes_on line next parts both.0 (rest (sym step.1 ∙ ends) both.1)

minor_from : (version : List ℕ) → is_version version ≡ true
    → (minor : ℕ) × (minor ≤ 1) × (version ≡ print_version minor)
minor_from version is =
    elim (or_cases _ _ is) [
      | inl zero_is ↦ (0, omega arith, (bytes_eq-Decides version (print_version 0)).0 zero_is)
      | inr one_is ↦ (1, omega arith, (bytes_eq-Decides version (print_version 1)).0 one_is)
    ]

-- the text between its request line and the rest, put together
head_from : (text : List ℕ) (method target version : List ℕ) (end : LineEnd) (parts : List (List ℕ))
    → is_token method ≡ true → is_target target ≡ true → is_version version ≡ true → SectionOf parts
    → text ≡ (method ++ 32 ∷ (target ++ 32 ∷ version)) ++ (print_end end ++ join_with_byte 10 parts)
    → HasHead text
head_from text method target version end parts method_is target_is version_is_one section e =
    let target_parts = and_parts _ _ target_is in
    let uri_parts = and_parts _ _ target_parts.0 in
    let minor = minor_from version version_is_one in
    let h : RequestHead = record {
      blank = [];
      method = method;
      target = target;
      minor = minor.0;
      line_end = end;
      fields = section.fields;
      last = section.last;
    } in
    let after : List ℕ = print_end end ++ (print_section section.fields section.last ++ section.rest) in (
      h,
      section.rest,
      (
        record {
          method = token_from method method_is;
          target = (ltb-true 0 (length target) uri_parts.0, AllPass-from_list_all is_uri_byte target uri_parts.1);
          target_text = IsUtf8-from_is_utf8 target target_parts.1;
          minor = minor.1;
          fields = section.are;
        },
        e ∙ ap (λ t. (method ++ 32 ∷ (target ++ 32 ∷ version)) ++ (print_end end ++ t)) section.text
            ∙ append_assoc method (32 ∷ (target ++ 32 ∷ version)) after
            ∙ ap (λ t. method ++ 32 ∷ t) (append_assoc target (32 ∷ version) after)
            ∙ ap (λ v. method ++ 32 ∷ (target ++ 32 ∷ (v ++ after))) minor.2
            ∙ sym (print_request-append h section.rest),
      ),
    )

-- three words and field lines that make a head
words_read : (ws : List (List ℕ)) (fields : List (List ℕ)) (k : Head) → head_of_words ws fields ≡ Some k
    → (method target version : List ℕ) × (ws ≡ method ∷ target ∷ version ∷ [])
    × (is_head method target version fields ≡ true)
words_read [] fields k e = absurd (cc)
words_read (a ∷ []) fields k e = absurd (cc)
words_read (a ∷ b ∷ []) fields k e = absurd (cc)
words_read (a ∷ b ∷ c ∷ []) fields k e = by (is_head a b c fields) refl e
  where
    by : (t : Bool) → is_head a b c fields ≡ t
        → (if t then Some (record { method = a; target = b; version = c; fields = map field_of fields }) else None) ≡ Some k
        → (method target version : List ℕ) × ((a ∷ b ∷ c ∷ []) ≡ method ∷ target ∷ version ∷ [])
        × (is_head method target version fields ≡ true)
    by true is e = (a, b, c, refl, is)
    by false is e = absurd (cc)
words_read (a ∷ b ∷ c ∷ d ∷ more) fields k e = absurd (cc)

request_from : (text line next : List ℕ) (parts : List (List ℕ)) (k : Head)
    → text ≡ join_with_byte 10 (line ∷ next ∷ parts) → part_end (next ∷ parts) ≡ true
    → head_of_words (words (strip_carriage_return line)) (map strip_carriage_return (part_lines (next ∷ parts))) ≡ Some k
    → HasHead text
request_from text line next parts k joined ends read =
    let stripped : List ℕ = strip_carriage_return line in
    let found = words_read (words stripped) _ k read in
    let method : List ℕ = found.0 in
    let target : List ℕ = found.1 in
    let version : List ℕ = found.2 in
    let tests = and_parts _ _ found.4 in
    let upper = and_parts _ _ tests.0 in
    let lower = and_parts _ _ upper.0 in
    let end = stripped_back line in
    let rest : List ℕ = join_with_byte 10 (next ∷ parts) in
    let line_is : stripped ≡ method ++ 32 ∷ (target ++ 32 ∷ version) =
    sym (join_with_byte-slice_split 32 stripped) ∙ ap (join_with_byte 32) found.3 in
    head_from text method target version end.0 (next ∷ parts) lower.0 lower.1 upper.1
    (section_from (next ∷ parts) ends tests.1)
    (joined
    ∙ ap (λ l. l ++ 10 ∷ rest) end.1
    ∙ append_assoc stripped (return_of end.0) (10 ∷ rest)
    ∙ ap (λ t. stripped ++ t) (sym (end_split end.0 rest))
    ∙ ap (λ l. l ++ (print_end end.0 ++ rest)) line_is)

parts_read : (text : List ℕ) (parts : List (List ℕ)) (k : Head) → text ≡ join_with_byte 10 parts
    → part_end parts ≡ true → head_of_lines (map strip_carriage_return (part_lines parts)) ≡ Some k
    → HasHead text
parts_read text [] k joined ends read = absurd (cc)
parts_read text (line ∷ []) k joined ends read = absurd (cc)
parts_read text (line ∷ next ∷ parts) k joined ends read = by (is_empty_line line) refl
  where
    by : (t : Bool) → is_empty_line line ≡ t → HasHead text
    by true is =
        let none : head_of_lines (map strip_carriage_return []) ≡ Some k =
        sym (ap (λ ls. head_of_lines (map strip_carriage_return ls)) (no_parts line next parts is)) ∙ read in
        absurd (cc)
    by false is =
        let step = more_parts line next parts is in
        request_from text line next parts k joined (sym step.1 ∙ ends)
        (sym (ap (λ ls. head_of_lines (map strip_carriage_return ls)) step.0) ∙ read)

pub finds_head : (text : List ℕ) (k : Head) → head_of text ≡ Some k → HasHead text
unfolding head_of head_lines has_end
finds_head text k read = by (cases_Bool (has_end text))
  where
    by : (has_end text ≡ true) ⊎ (has_end text ≡ false) → HasHead text
    by (inl ends) =
        let lines = sym (cond-true (has_end text) (head_of_lines (map strip_carriage_return (head_lines text))) None ends) ∙ read in
        parts_read text (slice_split is_line_feed text) k (sym (join_with_byte-slice_split 10 text)) ends lines
    by (inr none) =
        let nothing : None ≡ Some k =
        sym (cond-false (has_end text) (head_of_lines (map strip_carriage_return (head_lines text))) None none) ∙ read in
        absurd (cc)

pub grammar_law : GrammarOfHeads
grammar_law bytes = record {
  reads = λ h rest x. (reads_head (without_front bytes) h rest (front_of bytes) x).read;
  only = λ head read. finds_head (without_front bytes) head read;
}
