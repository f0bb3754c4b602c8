-- Ordinals by their digits, where the number that the digits write is known.
use Rattle.std.proofs.Common.{◌≡◌, ℕ, ◌<◌, ◌≤◌, ◌^◌, Bool, true, false, cond, List, Some, None, refl, ap, arith, nat_lt}
use Rattle.std.specs.Prelude.{◌&&◌}
use Rattle.std.specs.Str.Parse.{digits_value}
use Rattle.std.proofs.lemmas.Grind.{common_steps}
use Rattle.lab_forms_texts.specs.Ordinals.{ordinal_of}
use Rattle.lab_seal.specs.Reading.{number_written}
use Rattle.lab_wire.specs.Numbers.{ordinal_in}

some_spelled : (v n : ℕ) (b s : Bool) → cond (b && s) (Some v) None ≡ Some n → cond s (ordinal_of v) None ≡ ordinal_of n
some_spelled v n true true e = let same : v ≡ n = cc in ap ordinal_of same
some_spelled v n true false e = absurd (cc)
some_spelled v n false s e = absurd (cc)

-- a number past the last ordinal is none
pub over_last : (v : ℕ) → 1000000000 < v → ordinal_of v ≡ None
over_last v over = grind (arith, common_steps)

none_spelled : (v : ℕ) (b s : Bool) → nat_lt v (2 ^ 64) ≡ b → cond (b && s) (Some v) None ≡ None → cond s (ordinal_of v) None ≡ None
none_spelled v true true is e = absurd (cc)
none_spelled v true false is e = refl
none_spelled v false false is e = refl
none_spelled v false true is e =
    let large : 2 ^ 64 ≤ v = grind (arith, common_steps) in
    over_last v (omega arith)

pub ordinal_read : (digits : List ℕ) (n : ℕ) → number_written digits ≡ Some n → ordinal_in digits ≡ ordinal_of n
unfolding number_written ordinal_in
ordinal_read digits n is = some_spelled (digits_value 10 digits) n _ _ is

pub no_ordinal : (digits : List ℕ) → number_written digits ≡ None → ordinal_in digits ≡ None
unfolding number_written ordinal_in
no_ordinal digits is = none_spelled (digits_value 10 digits) _ _ refl is

ordinal_found : (v n : ℕ) (s o : Bool) → cond s (cond o (Some v) None) None ≡ Some n → n ≡ v
ordinal_found v n true true e = cc
ordinal_found v n true false e = absurd (cc)
ordinal_found v n false o e = absurd (cc)

-- an ordinal is the number that its digits write
pub ordinal_is : (digits : List ℕ) (n : ℕ) → ordinal_in digits ≡ Some n → n ≡ digits_value 10 digits
unfolding ordinal_in
ordinal_is digits n is = ordinal_found (digits_value 10 digits) n _ _ is
