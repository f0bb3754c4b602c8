use Rattle.std.proofs.Common.{◌<◌, arith}
use Rattle.lab_seal.proofs.ReadLemmas.{one_digit, two_digits}
use Rattle.lab_seal.proofs.fields.value_of.Goals as goal

pub returns-in-48-to-57 : goal.returns-in-48-to-57
returns-in-48-to-57 c =
    one_digit c.args.digits.now c.value_of_digit.result c.in-48-to-57.len_at_least c.in-48-to-57.len_below
    c.value_of_digit.ensures.value c.value_of_digit.ensures.small

pub returns-in-49-to-57 : goal.returns-in-49-to-57
returns-in-49-to-57 c =
    let some : 0 < c.value_of_digit-in-49-to-57.result = omega arith in
    two_digits c.args.digits.now c.value_of_digit-in-49-to-57.result c.value_of_digit-in-49-to-57-2.result
    c.in-49-to-57.len_at_least c.in-49-to-57.len_below c.value_of_digit-in-49-to-57.ensures.value
    c.value_of_digit-in-49-to-57-2.ensures.value some c.value_of_digit-in-49-to-57.ensures.small
    c.value_of_digit-in-49-to-57-2.ensures.small
