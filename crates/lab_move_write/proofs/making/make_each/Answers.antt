use Rattle.std.proofs.Common.{◌<◌, length, arith}
use Rattle.lab_store_tables.specs.Schema.{desk, desk_text}
use Rattle.lab_move_write.proofs.MadeTables.{makes_on, makes_failed, text_at, place_within}
use Rattle.lab_move_write.proofs.making.make_each.Goals as goal

pub loop-text-preserved : goal.loop-text-preserved
loop-text-preserved g c same =
    let texts = c.args.texts.now in
    let i = c.loop-text.text-index in
    let within : i < length texts = omega (arith, c.loop-text-test.true) in
    makes_on (c.loop-text.invariant same)
    (c.in_ok-make_table.ensures i (desk, desk_text) (place_within texts (λ text. text.now) same i within) (text_at texts (λ text. text.now) same i _ (desk, desk_text) within))

pub returns-in_err-make_table : goal.returns-in_err-make_table
returns-in_err-make_table g c same =
    let texts = c.args.texts.now in
    let i = c.loop-text.text-index in
    let within : i < length texts = omega (arith, c.loop-text-test.true) in
    makes_failed c.from_residual.result c.from_residual.ensures.1 (c.loop-text.invariant same)
    (c.in_err-make_table.ensures i (desk, desk_text) (place_within texts (λ text. text.now) same i within) (text_at texts (λ text. text.now) same i _ (desk, desk_text) within))
