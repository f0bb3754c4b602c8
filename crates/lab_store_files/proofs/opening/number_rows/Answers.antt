use Rattle.std.proofs.Common.{arith}
use Rattle.sqlite.specs.State.{HasCleanDisk}
use Rattle.sqlite.specs.Held.{state}
use Rattle.lab_store_files.proofs.Asking.{asked_same, asked_kept, kept_rows, kept_crash, kept_passes}
use Rattle.lab_store_files.proofs.opening.number_rows.Goals as goal

pub returns : goal.returns
returns g c =
    let old = state g.S.Store c.args.conn.now in
    let new = state g.S.Store c.query_all.new.self in
    let it = c.query_all.ensures in
    let before : HasCleanDisk new → HasCleanDisk old = λ clean. omega (arith, it.survives.clean) in
    let ended = asked_kept old new c.query_all.result it.ok it.err in
    record {
      shown = it.ok;
      same = λ clean. asked_same old new c.query_all.result (it.ok clean);
      rows = kept_rows old new before it.mode ended;
      crash = kept_crash old new before it.mode ended it.survives;
      passes = kept_passes old new before it.mode ended it.survives;
    }
