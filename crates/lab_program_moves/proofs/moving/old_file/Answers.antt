-- It was found, and asked, and is one of an older schema, or owes the refusal; or it wasn't found.
use Rattle.std.proofs.Common.{inr}
use Rattle.lab_program_moves.proofs.moving.old_file.Goals as goal

pub returns-in-Err-clause-refused : goal.returns-in-Err-clause-refused
returns-in-Err-clause-refused g c = inr (record {
  found = c.in_ok-conn.conn;
  conn = c.in-Err.unopened.conn;
  finds = c.in_ok-conn.ensures.found;
  passes = c.in-Err.ensures.reads.passes;
  owed = λ clean. c.in-Err.ensures.owed clean;
})

pub returns-in-Ok-clause-asked : goal.returns-in-Ok-clause-asked
returns-in-Ok-clause-asked g c = (
  c.in_ok-conn.conn,
  c.in_ok-conn.ensures.found,
  c.in-Ok.ensures.reads.passes,
  c.in-Ok.file.older,
  λ clean. (c.in-Ok.ensures.reads.shows clean, c.in-Ok.ensures.owed clean),
)
