-- Facts on the texts of events.
use Rattle.std.proofs.Common.{◌≡◌, ℕ, suc, ◌+◌, ◌-◌, List, [], ◌∷◌, length, take, drop, Option, Some, None, ◌==◌, refl, arith, nat_lt, Bool, true, false, cond, not, add-one, ap, ◌∙◌, sym, ◌&&◌, ◌<◌, nat_le, slice_index}
use Rattle.std.specs.Prelude.{option_map}
use Rattle.std.specs.List.{position, prefix_len}
use Rattle.std.proofs.lemmas.Grind.{common_steps}
use Rattle.std.proofs.lemmas.Bool.Decides.{nat_tests}
use Rattle.std.proofs.lemmas.Str.{IsUtf8-from_ascii}
use Rattle.std.proofs.lemmas.Str.Ascii.{IsAscii-nil, IsAscii-cons}
use Rattle.std.specs.Char.{is_ascii_lowercase}
use Rattle.std.specs.List.{list_all}
use Rattle.std.specs.Str.{IsAscii, IsUtf8}
use Rattle.lab_forms_texts.specs.Names.{is_code_byte, is_lab_code}
use Rattle.lab_program_replay.specs.Event.{cut_at, lab_code}

position_step : (b : Bool) (n l : ℕ) →
    cond (nat_lt (cond (not b) (1 + n) 0) (suc l)) (Some (cond (not b) (1 + n) 0)) None
    ≡ cond b (Some 0) (option_map (λ k. k + 1) (cond (nat_lt n l) (Some n) None))
position_step true n l = grind (arith, nat_tests)
position_step false n l = grind (arith, nat_tests)

-- the first place in a longer list
pub position-cons : (p : ℕ → Bool) (x : ℕ) (xs : List ℕ) →
    position p (x ∷ xs) ≡ cond (p x) (Some 0) (option_map (λ k. k + 1) (position p xs))
position-cons p x xs = position_step (p x) (prefix_len (λ y. not (p y)) xs) (length xs)

abbrev pub around : List ℕ → ℕ → List ℕ × List ℕ
around text at = (take at text, drop (at + 1) text)

abbrev behind : ℕ → List ℕ × List ℕ → List ℕ × List ℕ
behind b parts = (b ∷ parts.0, parts.1)

abbrev at_front : List ℕ → Option (List ℕ × List ℕ)
at_front bs = Some ([], bs)

cut_step : (v : Bool) (b : ℕ) (bs : List ℕ) (o : Option ℕ)
    → cond v (at_front bs) (option_map (behind b) (option_map (around bs) o))
    ≡ option_map (around (b ∷ bs)) (cond v (Some 0) (option_map (λ k. k + 1) o))
cut_step true b bs o = refl
cut_step false b bs None = refl
cut_step false b bs (Some k) = simp add-one

-- a cut is at the byte's first place
cut_at_position : (byte : ℕ) (text : List ℕ) →
    cut_at byte text ≡ option_map (around text) (position (λ b. b == byte) text)
unfolding cut_at
cut_at_position byte [] = refl
cut_at_position byte (b ∷ bs) =
    ap (λ o. cond (b == byte) (at_front bs) (option_map (behind b) o)) (cut_at_position byte bs)
    ∙ cut_step (b == byte) b bs (position (λ b. b == byte) bs)
    ∙ ap (option_map (around (b ∷ bs))) (sym (position-cons (λ b. b == byte) b bs))

pub cut_at_none : (byte : ℕ) (text : List ℕ) → position (λ b. b == byte) text ≡ None →
    cut_at byte text ≡ None
cut_at_none byte text h = cut_at_position byte text ∙ ap (option_map (around text)) h

pub cut_at_some : (byte : ℕ) (text : List ℕ) (at : ℕ) → position (λ b. b == byte) text ≡ Some at →
    cut_at byte text ≡ Some (around text at)
cut_at_some byte text at h = cut_at_position byte text ∙ ap (option_map (around text)) h

-- a slice to the end
pub take_rest : (n : ℕ) (text : List ℕ) → take (length text - n) (drop n text) ≡ drop n text
take_rest n text = grind (arith, common_steps)

-- A laboratory's code is text.

and_true : (a b : Bool) → (a && b) ≡ true → (a ≡ true) × (b ≡ true)
and_true true b h = (refl, h)
and_true false b h = absurd (cc)

-- a to z, 0 to 9, or the hyphen
abbrev is_lab_code_byte : ℕ → Bool
is_lab_code_byte b = is_code_byte 45 b

code_byte_ascii : (b : ℕ) → is_lab_code_byte b ≡ true → b < 128
code_byte_ascii b h = grind (arith, nat_tests)

code_bytes_ascii : (bs : List ℕ) → list_all is_lab_code_byte bs ≡ true → IsAscii bs
code_bytes_ascii [] h = IsAscii-nil
code_bytes_ascii (b ∷ bs) h =
    let parts = and_true (is_lab_code_byte b) (list_all is_lab_code_byte bs) h in
    IsAscii-cons b bs (code_byte_ascii b parts.0) (code_bytes_ascii bs parts.1)

is_lab_code-text : (text : List ℕ) → is_lab_code text ≡ true → IsUtf8 text
unfolding is_lab_code
is_lab_code-text text h =
    let length_and_first = nat_le 1 (length text) && nat_le (length text) 12 && is_ascii_lowercase
    (slice_index text 0) in
    IsUtf8-from_ascii text (code_bytes_ascii text
    (and_true length_and_first (list_all is_lab_code_byte text) h).1)

unless : (b : Bool) (text : List ℕ) → (b ≡ true → ⊥) → cond b (Some text) None ≡ None
unless true text h = absurd (h refl)
unless false text h = refl

-- what is no text is no code
pub lab_code-not_text : (text : List ℕ) → (IsUtf8 text → ⊥) → lab_code text ≡ None
lab_code-not_text text h = unless (is_lab_code text) text (λ e. h (is_lab_code-text text e))
