-- From what `httparse` answers to the reading of a head.
use Rattle.std.proofs.Common.{◌≡◌, ℕ, ◌+◌, ◌≤◌, Bool, true, false, cond, List, [], ◌∷◌, length, take, map, refl, sym, ap, ◌∙◌, subst, arith, Option, Some, None, Result, Ok, Err, suc, zero, min}
use Rattle.std.specs.Prelude.{◌||◌, ◌==◌, not, count_by, if◌then◌else◌}
use Rattle.std.proofs.lemmas.Bool.{cond-true, cond-false, ltb-false, or_parts}
use Rattle.std.proofs.lemmas.Grind.{common_steps}
use Rattle.std.proofs.lemmas.List.Sums.{sum_by-cons}
use Rattle.std.proofs.lemmas.Simd.{map-map}
use Rattle.httparse.specs.declared.spans.HeaderSpan.{HeaderSpan}
use Rattle.httparse.specs.Grammar.{Field, print_version, RequestHead, ReadsRequest}
use Rattle.httparse.specs.Spans.{span_bytes, header_bytes, name_and_value, AreFieldsAt}
use Rattle.lab_wire_heads.specs.declared.refusals.HeadRefusal.{HeadRefusal}
use Rattle.lab_wire_heads.specs.declared.refusals.HeadRefusal.TheVariants.{BadHead, HeadTooLong}
use Rattle.lab_wire_heads.specs.Heads as heads
use Rattle.lab_wire_heads.specs.Heads.{head_limit, head_text, head_lines, head_length, head_end, is_over_limits, is_host, is_version_1_1, field_at, host_count, Head, GoodHead, head_of, keeps_host_rule, checked_head, good_head}
use Rattle.lab_wire_heads.specs.HeadGrammar.{field_shown, head_shown}
use Rattle.lab_wire_heads.proofs.HeadLaws.{IsFront, front_of, reads_head, finds_head}

-- ---- the fields that the spans cover are those of the head

abbrev shown : List ℕ × List ℕ → heads.Field
shown pair = record { name = pair.0; value = pair.1 }

pub fields_of_spans : (buf : List ℕ) (spans : List HeaderSpan) (count : ℕ) (fields : List Field)
    → AreFieldsAt buf spans count fields
    → map (field_at buf) (take count spans) ≡ map field_shown fields
fields_of_spans buf spans count fields same =
    sym (map-map shown (header_bytes buf) (take count spans)) ∙ ap (map shown) same
    ∙ map-map shown name_and_value fields

-- and the hosts among them
count_in_map : {A B : Type 0} (f : A → B) (p : B → Bool) (xs : List A) → count_by p (map f xs) ≡ count_by (λ x. p (f x)) xs
count_in_map f p [] = refl
count_in_map f p (x ∷ xs) =
    sum_by-cons (λ y. cond (p y) 1 0) (f x) (map f xs)
    ∙ ap (λ n. cond (p (f x)) 1 0 + n) (count_in_map f p xs)
    ∙ sym (sum_by-cons (λ y. cond (p (f y)) 1 0) x xs)

pub hosts_of_fields : (buf : List ℕ) (spans : List HeaderSpan) (count : ℕ) (fields : List Field)
    → AreFieldsAt buf spans count fields
    → count_by (λ (span : HeaderSpan). is_host (span_bytes buf span.name)) (take count spans)
    ≡ host_count (map field_shown fields)
hosts_of_fields buf spans count fields same =
    sym (count_in_map (field_at buf) (λ (field : heads.Field). is_host field.name) (take count spans))
    ∙ ap host_count (fields_of_spans buf spans count fields same)

-- ---- the answers

-- what is read of bytes that are no longer than the limit, and of longer ones
pub take_within : (bytes : List ℕ) (limit : ℕ) → take (min (length bytes) limit) bytes ≡ take limit bytes
take_within bytes limit = grind (arith, common_steps)

-- the answer by how many bytes came, the text from the request line on, and where its head ends
abbrev pub answer_of : ℕ → List ℕ → ℕ → Result GoodHead HeadRefusal
answer_of came text end = if is_over_limits came text then Err HeadTooLong else checked_head end (head_of text)

pub from_text : (bytes text : List ℕ) {answer : Result GoodHead HeadRefusal} → text ≡ head_text bytes
    → answer_of (length bytes) text (head_end bytes) ≡ answer → good_head bytes ≡ answer
unfolding good_head
from_text bytes text same is = ap (λ t. answer_of (length bytes) t (head_end bytes)) (sym same) ∙ is

pub front_text : (bytes text : List ℕ) → text ≡ head_text bytes → IsFront text
front_text bytes text same = subst IsFront (sym same) (front_of (take head_limit bytes))

pub too_long : (came : ℕ) (text : List ℕ) (end : ℕ) → is_over_limits came text ≡ true
    → answer_of came text end ≡ Err HeadTooLong
too_long came text end over = cond-true (is_over_limits came text) (Err HeadTooLong) (checked_head end (head_of text)) over

within_limits : (came : ℕ) (text : List ℕ) (end : ℕ) → is_over_limits came text ≡ false
    → answer_of came text end ≡ checked_head end (head_of text)
within_limits came text end under =
    cond-false (is_over_limits came text) (Err HeadTooLong) (checked_head end (head_of text)) under

-- no head of at most 64 fields stands in front
abbrev pub HasNoHead : List ℕ → Type 0
HasNoHead text = (h : RequestHead) (rest : List ℕ) → ReadsRequest text h rest → ¬ (length h.fields ≤ 64)

no_head : (came : ℕ) (text : List ℕ) (end : ℕ) → IsFront text → is_over_limits came text ≡ false → HasNoHead text
    → (o : Option Head) → head_of text ≡ o → checked_head end o ≡ Err BadHead
unfolding is_over_limits
no_head came text end front under none None read = refl
no_head came text end front under none (Some head) read =
    let found = finds_head text head read in
    let shape = (reads_head text found.0 found.1 front found.2).read in
    let few = ltb-false 65 (length (head_lines text)) (or_parts _ _ under).1 in
    absurd (none found.0 found.1 found.2 (fits (length (head_lines text)) (length found.0.fields) shape.lines few))
  where
    fits : (lines fields : ℕ) → lines ≡ 1 + fields → lines ≤ 65 → fields ≤ 64
    fits lines fields same few = omega arith

pub bad_head : (came : ℕ) (text : List ℕ) (end : ℕ) → IsFront text → is_over_limits came text ≡ false → HasNoHead text
    → answer_of came text end ≡ Err BadHead
bad_head came text end front under none =
    within_limits came text end under ∙ no_head came text end front under none (head_of text) refl

version_one : (minor : ℕ) → minor ≤ 1 → is_version_1_1 (print_version minor) ≡ (minor == 1)
version_one zero le = refl
version_one (suc zero) le = refl
version_one (suc (suc n)) le = absurd (omega arith)

rule_is : (h : RequestHead) → h.minor ≤ 1
    → keeps_host_rule (head_shown h) ≡ (not (h.minor == 1) || (host_count (map field_shown h.fields) == 1))
unfolding keeps_host_rule
rule_is h le = ap (λ b. not b || (host_count (map field_shown h.fields) == 1)) (version_one h.minor le)

-- a head that was parsed, checked by what the code found of the rule
pub checked_answer : (came : ℕ) (text : List ℕ) (end : ℕ) (h : RequestHead) (rest : List ℕ) (version hosts : ℕ)
    (keeps answer : Bool)
    → IsFront text → is_over_limits came text ≡ false → ReadsRequest text h rest
    → version ≡ h.minor → hosts ≡ host_count (map field_shown h.fields) → keeps ≡ (not (version == 1) || (hosts == 1)) → keeps ≡ answer
    → answer_of came text end ≡ (if answer then Ok (record { head = head_shown h; end = end }) else Err BadHead)
checked_answer came text end h rest version hosts keeps answer front under reads version_is hosts_are keeps_is told =
    within_limits came text end under
    ∙ ap (checked_head end) (reads_head text h rest front reads).read.head
    ∙ ap (λ b. if b then Ok (record { head = head_shown h; end = end }) else Err BadHead)
    (rule_is h reads.0.minor
    ∙ (λ i. not (sym version_is i == 1) || (sym hosts_are i == 1))
    ∙ sym keeps_is ∙ told)
