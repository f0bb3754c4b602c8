-- The key of one field more, where it is altered.
use Rattle.std.proofs.Common.{ℕ, Bool, List, arith}
use Rattle.std.proofs.lemmas.Grind.{common_steps}
use Rattle.lab_records_rules.specs.Latest.{noted}
use Rattle.lab_records_kept.specs.Values.{is_altered_by}
use Rattle.lab_records_rules.proofs.LastRows.{altered_more}
use Rattle.lab_records_rules.proofs.values.altered_by.Goals as goal

pub loop-field-preserved : goal.loop-field-preserved
loop-field-preserved c =
    let test : List ℕ → Bool = λ key. is_altered_by (noted c.args.before.now key) (noted c.args.after.now key) in
    let more = altered_more test c.args.fields.now c.loop-field.field-index c.field-item.result c.loop-field-test.true c.field-item.is in
    grind (arith, common_steps, more)
