use Rattle.std.proofs.Common.{◌∙◌}
use Rattle.lab_program_replay.proofs.EventRunLemmas.{told}
use Rattle.lab_program_replay.proofs.event_runs.tell.Goals as goal

pub returns : goal.returns
returns g c =
    let line = c.as_bytes.ensures.value ∙ c.line.ensures in
    told c.args.fault _ _ c.write_whole.result (rw line at c.write_whole.ensures.whole)
    (rw line at c.write_whole.ensures.cut) (rw line at c.write_whole.ensures.short)
