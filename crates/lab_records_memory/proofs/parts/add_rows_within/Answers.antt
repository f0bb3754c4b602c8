-- Memory ran out at a row that lies in the range.
use Rattle.std.proofs.Common.{◌∙◌, sym}
use Rattle.lab_records_kept.specs.declared.trails.TrailRow.{TrailRow}
use Rattle.lab_records_kept.specs.Lookups.{is_within}
use Rattle.lab_records_memory.proofs.Memory.{on_any, some_pass}
use Rattle.lab_records_memory.proofs.parts.add_rows_within.Goals as goal

pub returns-in_err-add_row-clause-memory : goal.returns-in_err-add_row-clause-memory
returns-in_err-add_row-clause-memory c =
    on_any c.from_residual.result
    (some_pass (λ (row : TrailRow). is_within c.args.from c.args.to row.number) c.args.trail.now
    c.loop-row.row-index c.row-item.result c.loop-row-test.true c.row-item.is
    (sym c.is_within.ensures ∙ c.if-is_within.true))
