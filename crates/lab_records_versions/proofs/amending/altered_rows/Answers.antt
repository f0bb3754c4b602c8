-- One item more is refused for nothing, or refuses them all.
use Rattle.std.proofs.Common.{map, Some, arith}
use Rattle.std.specs.Prelude.{is_none}
use Rattle.std.proofs.lemmas.Grind.{common_steps}
use Rattle.lab_records_versions.specs.Entering.{entered_row, item_refusal}
use Rattle.lab_records_versions.proofs.AlteringLemmas.{read_more, fault_at}
use Rattle.lab_records_versions.proofs.amending.altered_rows.Goals as goal

pub loop-item-preserved : goal.loop-item-preserved
loop-item-preserved c = record {
  nothing = read_more c.args.kept.now c.args.items.now c.loop-item.item-index c.item-item.result
      (is_none (item_refusal c.args.kept.now c.item-item.result)) c.in-Ok.value
      c.loop-item-test.true c.item-item.is c.loop-item.invariant.nothing c.in-Ok.ensures;
  rows = grind (arith, common_steps);
}

pub returns-in-Err : goal.returns-in-Err
returns-in-Err c =
    fault_at c.args.kept.now c.args.items.now c.loop-item.item-index c.item-item.result
    (is_none (item_refusal c.args.kept.now c.item-item.result))
    (map (λ item. entered_row item (Some c.args.reason.now) c.args.caller.now c.args.moment) c.args.items.now) c.in-Err.fault
    c.loop-item-test.true c.item-item.is c.loop-item.invariant.nothing c.in-Err.ensures
