-- What was opened is what the files held, as the opening says.
use Rattle.std.proofs.Common.{ℕ, Bool, cond, List, ap₂, subst}
use Rattle.sqlite_disk.specs.Events.{Event, replay}
use Rattle.sqlite_wal.specs.Recovery.{Image}
use Rattle.sqlite.specs.Files.{file_state}
use Rattle.sqlite.specs.Start.{FindsIn}
use Rattle.lab_program_machine.proofs.held.connection_over.Goals as goal

abbrev image : List ℕ → List ℕ → Image
image log db = record { log = log; db = db }

abbrev seen : List ℕ → List ℕ → Bool → List Event → List ℕ
seen log db is_log history = (replay (cond is_log log db) history).seen

pub returns-in-Ok-open_files_with-clause-found : goal.returns-in-Ok-open_files_with-clause-found
returns-in-Ok-open_files_with-clause-found g c = rw c.set_clock.ensures λ clean.
    let log = c.args.held.log_is_fresh in
    let db = c.args.held.file_is_fresh in
    let opened = c.in-Ok-open_files_with.ensures.opened clean in
    let found = c.in-Ok-open_files_with.ensures.found clean in
    let same = ap₂ image (ap₂ (seen g.S.Start.log g.S.Start.db) log.0 log.1) (ap₂ (seen g.S.Start.log g.S.Start.db) db.0 db.1) in
    let held = subst (λ i. FindsIn i (file_state c.in-Ok-open_files_with.conn)) same (record { holds = found.holds; reads = found.reads }) in
    record {
      held = record { holds = held.holds; reads = held.reads };
      opens = opened.0;
      live = opened.1;
    }

pub returns-in-Ok-open_files_with-clause-at_rest : goal.returns-in-Ok-open_files_with-clause-at_rest
returns-in-Ok-open_files_with-clause-at_rest g c = rw c.set_clock.ensures (record {
  alone = c.in-Ok-open_files_with.ensures.fresh.autocommit;
  settled = λ clean is_open. (c.in-Ok-open_files_with.ensures.opened clean).0.clean;
})
