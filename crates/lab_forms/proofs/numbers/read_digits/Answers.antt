-- The number has room for one digit more.
use Rattle.std.proofs.Common.{arith}
use Rattle.lab_forms.proofs.NumberLemmas.{has_room, tens}
use Rattle.lab_forms.proofs.numbers.read_digits.Goals as goal

pub overflow_mul-number : goal.overflow_mul-number
overflow_mul-number c =
    let room = has_room c.loop-byte.number 0 c.loop-byte.byte-index c.loop-byte.invariant.1 (omega arith) (omega arith) in
    omega (arith, room.scaled)

pub overflow_add-number : goal.overflow_add-number
overflow_add-number c =
    let room = has_room c.loop-byte.number c.from.result c.loop-byte.byte-index c.loop-byte.invariant.1 (omega (arith, c.if-not-is_ascii_digit.ensures.cases)) (omega arith) in
    omega (arith, room.whole)

pub returns-clause-bound : goal.returns-clause-bound
returns-clause-bound c =
    let most = tens c.loop-byte.byte-index c.args.most (omega arith) in
    omega (arith, c.loop-byte.invariant.1, most)
