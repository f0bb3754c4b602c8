use Rattle.std.proofs.lemmas.Int.Digits.{digits_value_more}
use Rattle.lab_wire_heads.proofs.RequestLemmas.{capped_step}
use Rattle.lab_wire_heads.proofs.lengths.length_of.Goals as goal

pub loop-digit-preserved : goal.loop-digit-preserved
loop-digit-preserved c =
    rw (
      c.min-length.ensures,
      digits_value_more 10 c.args.digits.now c.loop-digit.digit-index c.loop-digit-test.true,
      c.loop-digit.invariant,
      c.digit_of.ensures,
    ) (capped_step _ _ 65537)
