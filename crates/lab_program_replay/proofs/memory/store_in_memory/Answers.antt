-- The tables are made in an empty store, whose disk is always clean.
use Rattle.sqlite.proofs.Callers.{memory_is_clean}
use Rattle.lab_program_replay.proofs.MemoryLemmas.{blank_when_empty, rests_when_empty}
use Rattle.lab_program_replay.proofs.memory.store_in_memory.Goals as goal

pub create-requires : goal.create-requires
create-requires c = record {
  at_rest = rests_when_empty _ (rw c.in-Ok.is at c.open_in_memory.ensures.empty);
}

pub returns-in-Ok-create : goal.returns-in-Ok-create
returns-in-Ok-create c =
    let blank = blank_when_empty _ (rw c.in-Ok.is at c.open_in_memory.ensures.empty) in
    let clean = memory_is_clean c.in-Ok-create.store in
    record {
      nobody = c.in-Ok-create.ensures.nobody clean blank;
      honest = clean;
      reached = c.in-Ok-create.ensures.ready clean blank;
    }
