-- A key that stands again behind this place stands twice, and else what is left decides.
use Rattle.std.proofs.Common.{◌∙◌, sym, arith}
use Rattle.lab_wire_bodies.specs.Records.{item_key}
use Rattle.lab_wire_bodies.proofs.KeyLemmas.{twice-drop}
use Rattle.lab_wire_bodies.proofs.records.has_key_twice.Goals as goal

pub returns-then-has_key : goal.returns-then-has_key
returns-then-has_key c =
    let step = twice-drop item_key c.args.items.now c.loop-place.place c.index-items-place.result c.as_str.result.now c.has_key.result (omega arith) c.index-items-place.is c.as_str.ensures.value c.has_key.ensures in
    sym (c.loop-place.invariant ∙ (rw c.if-has_key.true at step))

pub loop-place-preserved : goal.loop-place-preserved
loop-place-preserved c =
    let step = twice-drop item_key c.args.items.now c.loop-place.place c.index-items-place.result c.as_str.result.now c.has_key.result (omega arith) c.index-items-place.is c.as_str.ensures.value c.has_key.ensures in
    c.loop-place.invariant ∙ (rw c.if-has_key.false at step)
