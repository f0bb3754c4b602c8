-- What a place of a request is made of, where its segments are those of a place of the table.
use Rattle.std.proofs.Common.{◌≡◌, ℕ, ◌<◌, ◌^◌, List, [], ◌∷◌, ◌++◌, Bool, true, false, cond, None, refl, sym, ap, subst, ◌∙◌, arith, length, nat_lt, nat_le, ◌==◌, IsAscii, decimal}
use Rattle.std.specs.Prelude.{⊤, ◌&&◌, not, is_some, bytes_eq}
use Rattle.std.specs.List.{position_or_len, slice_split, onto_first}
use Rattle.std.specs.Char.{is_ascii_lowercase}
use Rattle.std.specs.Str.Parse.{digits_value}
use Rattle.std.proofs.lemmas.Bool.{false≢true}
use Rattle.std.proofs.lemmas.Bool.Decides.{nat_tests}
use Rattle.std.proofs.lemmas.Fmt.{decimal_nonempty, IsAscii-decimal}
use Rattle.std.proofs.lemmas.Grind.{common_steps}
use Rattle.std.proofs.lemmas.Slice.Eq.{bytes_eq-Decides}
use Rattle.matchit.specs.Seek.{has_slash}
use Rattle.lab_forms_texts.specs.Names.{is_key}
use Rattle.lab_forms_texts.specs.Ordinals.{ordinal_of}
use Rattle.lab_wire.specs.Numbers.{ordinal_in}
use Rattle.lab_wire.specs.Paths.{is_slash, place_in, segments}
use Rattle.lab_wire.specs.Routes.{admits, all_admitted, is_key_mark, is_number_mark}
use Rattle.lab_wire.proofs.NumberLemmas.{over_last}
use Rattle.lab_wire.proofs.TableLemmas.{true_first, true_last}
use Rattle.lab_wire.proofs.PathLemmas.{slash_follows, nothing_follows}

-- ---- the text of its segments

abbrev pub joined : List (List ℕ) → List ℕ
joined [] = []
joined (part ∷ parts) = 47 ∷ part ++ joined parts

abbrev pub AreClean : List (List ℕ) → Type 0
AreClean [] = ⊤
AreClean (part ∷ parts) = (has_slash part ≡ false) × AreClean parts

abbrev Cut : List ℕ → List (List ℕ) → Type 0
Cut text [] = ⊥
Cut text (part ∷ parts) = (part ++ joined parts ≡ text) × (has_slash part ≡ false) × AreClean parts

cut_more : (b : ℕ) (text : List ℕ) (parts : List (List ℕ)) (v : Bool) → (b == 47) ≡ v → Cut text parts
    → Cut (b ∷ text) (cond v ([] ∷ parts) (onto_first b parts))
cut_more b text [] v is cut = absurd cut
cut_more b text (part ∷ parts) true is cut =
    let same : 47 ≡ b = grind (arith, nat_tests) in
    (ap (λ l. 47 ∷ l) cut.0 ∙ ap (λ x. x ∷ text) same, refl, (cut.1, cut.2))
cut_more b text (part ∷ parts) false is cut = (ap (λ l. b ∷ l) cut.0, rw is cut.1, cut.2)

cut_of : (text : List ℕ) → Cut text (slice_split is_slash text)
cut_of [] = (refl, refl, tt)
cut_of (b ∷ text) = cut_more b text (slice_split is_slash text) (b == 47) refl (cut_of text)

-- a place is empty, or begins with a slash
abbrev pub Begins : List ℕ → Type 0
Begins [] = ⊤
Begins (b ∷ text) = b ≡ 47

abbrev pub Whole : List (List ℕ) → List ℕ → Type 0
Whole parts place = (joined parts ≡ place) × AreClean parts

by_cut : (text : List ℕ) (parts : List (List ℕ)) → Cut text parts → Whole parts (47 ∷ text)
by_cut text [] cut = absurd cut
by_cut text (part ∷ parts) cut = (ap (λ l. 47 ∷ l) cut.0, (cut.1, cut.2))

pub whole : (place : List ℕ) → Begins place → Whole (segments place) place
unfolding segments
whole [] begins = (refl, tt)
whole (b ∷ text) begins = subst (λ c. Whole (segments (c ∷ text)) (c ∷ text)) (sym begins) (by_cut text _ (cut_of text))

pub place_begins : (rest : List ℕ) → Begins (place_in rest)
place_begins rest = by (nat_lt (position_or_len is_slash rest) (length rest)) refl
  where
    by : (v : Bool) → nat_lt (position_or_len is_slash rest) (length rest) ≡ v → Begins (place_in rest)
    by true is = subst Begins (sym (slash_follows rest is)) refl
    by false is = subst Begins (sym (nothing_follows rest is)) tt

-- ---- where each segment of the table stands for itself

abbrev pub is_literal : List (List ℕ) → Bool
is_literal [] = true
is_literal (mark ∷ marks) = not (is_key_mark mark) && (not (is_number_mark mark) && is_literal marks)

pub literal_segments : (marks parts : List (List ℕ)) → is_literal marks ≡ true → all_admitted marks parts ≡ true → marks ≡ parts
unfolding admits
literal_segments [] [] literal is = refl
literal_segments [] (part ∷ parts) literal is = absurd (false≢true is)
literal_segments (mark ∷ marks) [] literal is = absurd (false≢true is)
literal_segments (mark ∷ marks) (part ∷ parts) literal is =
    by (is_key_mark mark) (is_number_mark mark) literal is (literal_segments marks parts)
  where
    by : (k n : Bool) → (not k && (not n && is_literal marks)) ≡ true
        → (cond k (is_key part) (cond n (is_some (ordinal_in part)) (bytes_eq mark part)) && all_admitted marks parts) ≡ true
        → (is_literal marks ≡ true → all_admitted marks parts ≡ true → marks ≡ parts) → mark ∷ marks ≡ part ∷ parts
    by true n literal is rest = absurd (false≢true literal)
    by false true literal is rest = absurd (false≢true literal)
    by false false literal is rest =
        let same : mark ≡ part = (bytes_eq-Decides mark part).0 (true_first (bytes_eq mark part) _ is) in
        let more : marks ≡ parts = rest literal (true_last (bytes_eq mark part) _ is) in
        ap (λ l. mark ∷ l) more ∙ ap (λ x. x ∷ parts) same

-- ---- the segments that a parameter takes

-- it is there, and begins with a byte
abbrev pub Low : List ℕ → Type 0
Low [] = ⊥
Low (b ∷ w) = b < 256

pub key_low : (key : List ℕ) → is_key key ≡ true → Low key
unfolding is_key
key_low [] is = absurd (false≢true is)
key_low (b ∷ w) is =
    let letter : is_ascii_lowercase b ≡ true =
    true_last (nat_le 1 (length (b ∷ w)) && nat_le (length (b ∷ w)) 24) (is_ascii_lowercase b) (true_first _ _ is) in
    grind (arith, common_steps)

ascii_low : (text : List ℕ) → 0 < length text → IsAscii text → Low text
ascii_low [] some ascii = absurd (omega arith)
ascii_low (b ∷ w) some ascii =
    let first : b < 128 = ascii 0 in
    omega arith

ordinal_small : (n : ℕ) → is_some (ordinal_of n) ≡ true → n < 2 ^ 64
ordinal_small n is = by (nat_lt 1000000000 n) refl
  where
    by : (v : Bool) → nat_lt 1000000000 n ≡ v → n < 2 ^ 64
    by true over =
        let none : ordinal_of n ≡ None = over_last n (grind (arith, common_steps)) in
        absurd (false≢true (ap is_some (sym none) ∙ is))
    by false within =
        let small : n < 1000000001 = grind (arith, common_steps) in
        omega arith

number_low : (digits : List ℕ) (v : Bool) → bytes_eq (decimal (digits_value 10 digits)) digits ≡ v
    → is_some (cond v (ordinal_of (digits_value 10 digits)) None) ≡ true → Low digits
number_low digits true spelled is =
    let n = digits_value 10 digits in
    let small = ordinal_small n is in
    let same : decimal n ≡ digits = (bytes_eq-Decides (decimal n) digits).0 spelled in
    subst Low same (ascii_low (decimal n) (decimal_nonempty n small) (IsAscii-decimal n small))
number_low digits false spelled is = absurd (false≢true is)

pub ordinal_low : (digits : List ℕ) → is_some (ordinal_in digits) ≡ true → Low digits
unfolding ordinal_in
ordinal_low digits is = number_low digits _ refl is
