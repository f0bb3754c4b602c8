-- the bytes that are given are those up to the one with which the row is too long
use Rattle.std.proofs.Common.{sym, ◌∙◌, ◌≤◌, length, arith}
use Rattle.lab_copy.specs.Fronts.{so_far}
use Rattle.lab_copy.proofs.PassLemmas.{read_none, read_part}
use Rattle.lab_copy.proofs.asks.read_front.Goals as goal

pub returns-then-is_too_long-clause-bytes : goal.returns-then-is_too_long-clause-bytes
returns-then-is_too_long-clause-bytes g c =
    read_none (so_far c.args.row.now) (g.R.ByteSource.remaining c.args.source.now) c.args.buffer.now
    (sym c.is_too_long.ensures ∙ c.if-is_too_long.true)

pub returns-clause-bytes : goal.returns-clause-bytes
returns-clause-bytes g c =
    let fits : c.in_ok-count.count ≤ length c.read_some.new.buffer = omega (arith, c.in_ok-count.ensures.bound) in
    read_part (so_far c.args.row.now) (so_far c.pass.new.self) (g.R.ByteSource.remaining c.args.source.now)
    (g.R.ByteSource.remaining c.read_some.new.source) c.read_some.new.buffer c.in_ok-count.count c.pass.result fits
    c.pass.ensures.within c.pass.ensures.none c.pass.ensures.passed c.in_ok-count.ensures.bytes
