-- Memory ran out at a record that lies in the range.
use Rattle.std.proofs.Common.{◌∙◌, sym}
use Rattle.lab_records_kept.specs.declared.records.Record.{Record}
use Rattle.lab_records_kept.specs.Lookups.{is_within}
use Rattle.lab_records_memory.proofs.Memory.{on_any, some_pass}
use Rattle.lab_records_memory.proofs.parts.add_records_within.Goals as goal

pub returns-in_err-add_record-clause-memory : goal.returns-in_err-add_record-clause-memory
returns-in_err-add_record-clause-memory c =
    on_any c.from_residual.result
    (some_pass (λ (kept : Record). is_within c.args.from c.args.to kept.number) c.args.records.now
    c.loop-kept.kept-index c.kept-item.result c.loop-kept-test.true c.kept-item.is
    (sym c.is_within.ensures ∙ c.if-is_within.true))
