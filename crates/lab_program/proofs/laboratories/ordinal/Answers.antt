-- A number that is one of a record is its own ordinal.
use Rattle.std.proofs.Common.{◌≡◌, ◌∙◌, ℕ, Bool, true, false, Option, Some, None, IsTrue, if◌then◌else◌, unwrap_or, ap, refl}
use Rattle.lab_forms_texts.specs.Ordinals.{is_ordinal, ordinal_of}
use Rattle.lab_program.proofs.laboratories.ordinal.Goals as goal

taken : (number other : ℕ) (is_one : Bool) → IsTrue is_one → unwrap_or (if is_one then Some number else None) other ≡ number
taken number other true one = refl
taken number other false one = absurd (cc)

ordinal_read : (o : Option ℕ) (read other number : ℕ) → read ≡ unwrap_or o other → o ≡ ordinal_of number
    → IsTrue (is_ordinal number) → read ≡ number
ordinal_read o read other number is of one = is ∙ ap (λ (p : Option ℕ). unwrap_or p other) of ∙ taken number other (is_ordinal number) one

pub returns : goal.returns
returns c = λ one. ordinal_read _ _ _ c.args.number c.unwrap_or.ensures c.new.ensures one
