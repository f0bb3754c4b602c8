-- What is handed out was asked for its schema, and unchanged by that.
use Rattle.lab_program_opening.proofs.FileLemmas.{leaves_shown}
use Rattle.lab_program_files.proofs.files.opened_store.Goals as goal

pub returns-in-Ok-clause-ours : goal.returns-in-Ok-clause-ours
returns-in-Ok-clause-ours g c = (
  leaves_shown g.H.Disk.Store g.met.H.Disk.Store.settled c.in-Ok.store
      (c.in-Ok.ensures.passes.at_rest c.requires),
  λ clean. (
    c.in-Ok.ensures.passes.clean clean,
    c.in-Ok.ensures.same clean,
    c.in-Ok.ensures.answer clean,
    c.in-Ok.ensures.owed clean,
  ),
)

pub returns-in-Err-clause-refused : goal.returns-in-Err-clause-refused
returns-in-Err-clause-refused g c = record {
  conn = c.in-Err.unopened.conn;
  owed = λ clean. (c.in-Err.ensures.passes.clean clean, c.in-Err.ensures.owed clean);
  closed_so = (c.close_whole.result, c.close_whole.ensures);
}
