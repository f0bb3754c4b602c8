-- What a task is given: a text, a number and a moment, which are read from their digits.
use Rattle.std.proofs.Common.{◌≡◌, ◌∙◌, ◌^◌, ◌<◌, ℕ, ℤ, pos, List, Option, Some, None, Result, Ok, Bor, unwrap_or, option_map, w64, arith, ap, sym, subst, IsTrue, of_z, to_z}
use Rattle.std.proofs.lemmas.Int.{to_z-of_z}
use Rattle.std.proofs.lemmas.Result.{Ok-from_Ok_iff}
use Rattle.std.proofs.lemmas.Str.Parse.{numerals_by_value, parse_gives, parse_signed_digits, tells_digits}
use Rattle.std.specs.Prelude.{FitsSigned}
use Rattle.std.specs.Str.Parse.{ParsesSigned, ParsesUnsigned}
use Rattle.clap.specs.Words.{ReadsOne}
use Rattle.lab_forms_texts.specs.Moment.{is_moment}
use Rattle.lab_program_words.specs.Tasks.{IsDecimalOf}

pub text_read : (o : Option (Bor (List ℕ))) (r d : Bor (List ℕ)) (text : List ℕ) → r ≡ unwrap_or o d
    → option_map (λ (s : Bor (List ℕ)). s.now) o ≡ Some text → r.now ≡ text
text_read None r d text is found = absurd (cc)
text_read (Some s) r d text is found = ap (λ (t : Bor (List ℕ)). t.now) is ∙ (cc)

module _ {E : Type 0} (k : ℕ) (G : List ℕ → Result ℕ E → Type 0)
    (parses : (bs : List ℕ) (x : Result ℕ E) → G bs x → ParsesUnsigned k 10 bs x) where
  -- digits that write a number are read as it
  digits_read : (number : ℕ) (text : List ℕ) (x : Result ℕ E) → number < 2 ^ k → IsDecimalOf number text → G text x → x ≡ Ok number
  digits_read number text x small writes given =
      parse_gives (numerals_by_value _ tells_digits) k text x (parses text x given) writes.0.1 writes.0.0
      (subst (λ n. n < 2 ^ k) (sym writes.1) small) ∙ ap (λ (n : ℕ). Ok n) writes.1

  pub number_read : (number : ℕ) (text : List ℕ) (o : Option ℕ) (r d : ℕ) → number < 2 ^ k → IsDecimalOf number text
      → r ≡ unwrap_or o d → ReadsOne G text o → r ≡ number
  number_read number text None r d small writes is reads =
      absurd (let bad = digits_read number text _ small writes reads.1 in cc)
  number_read number text (Some n) r d small writes is reads =
      let read = digits_read number text _ small writes reads in is ∙ (cc)

-- a moment is a number of 64 bits
fits : (moment : ℕ) → IsTrue (is_moment moment) → FitsSigned w64 (pos moment)
fits moment within = search (arith)

-- so it is held as it is
pub held_so : (moment : ℕ) (z : ℤ) → IsTrue (is_moment moment) → z ≡ pos moment → to_z w64 (of_z w64 z) ≡ pos moment
held_so moment z within is = ap (λ n. to_z w64 (of_z w64 n)) is ∙ to_z-of_z w64 (pos moment) (fits moment within)

module _ {E : Type 0} (G : List ℕ → Result ℤ E → Type 0)
    (parses : (bs : List ℕ) (x : Result ℤ E) → G bs x → ParsesSigned w64 10 bs x) where
  -- the digits of a moment are read as it
  seconds_read : (moment : ℕ) (text : List ℕ) (x : Result ℤ E) → IsTrue (is_moment moment) → IsDecimalOf moment text → G text x
      → x ≡ Ok (pos moment)
  seconds_read moment text x within writes given =
      let read = parse_signed_digits (numerals_by_value _ tells_digits) w64 text x (parses text x given) writes.0.1 in
      Ok-from_Ok_iff x _ _ read (writes.0.0, omega (arith, writes.1, (fits moment within).sfits)) ∙ ap (λ (n : ℕ). Ok (pos n)) writes.1

  pub moment_read : (moment : ℕ) (text : List ℕ) (o : Option ℤ) (r d : ℤ) → IsTrue (is_moment moment) → IsDecimalOf moment text
      → r ≡ unwrap_or o d → ReadsOne G text o → to_z w64 (of_z w64 r) ≡ pos moment
  moment_read moment text None r d within writes is reads =
      absurd (let bad = seconds_read moment text _ within writes reads.1 in cc)
  moment_read moment text (Some z) r d within writes is reads =
      let read = seconds_read moment text _ within writes reads in
      held_so moment r within (is ∙ (cc))
