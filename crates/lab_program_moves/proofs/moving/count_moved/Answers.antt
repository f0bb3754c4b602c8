-- What `migrate` says of both connections is what is said, and the new one is left to be closed.
use Rattle.std.proofs.Common.{Some, ap}
use Rattle.lab_program_opening.proofs.FileLemmas.{leaves_shown}
use Rattle.lab_program_moves.proofs.MoveLemmas.{shown_where}
use Rattle.lab_program_moves.proofs.moving.count_moved.Goals as goal

pub returns : goal.returns
returns g c = (
  record {
    left = c.migrate-ending.result.left;
    made = c.migrate-ending.new.new;
    moved = c.migrate-ending.ensures.moved c.requires.blank;
    ready = c.migrate-ending.ensures.ready c.requires.blank;
    shown = λ clean. shown_where c.migrate-ending.result.ending _
        (leaves_shown g.H.Disk.Store g.met.H.Disk.Store.settled c.migrate-ending.new.new)
        (c.migrate-ending.ensures.ready c.requires.blank clean);
    refused = c.migrate-ending.ensures.refused;
    old_same = c.migrate-ending.ensures.old_same;
    unfinished = c.migrate-ending.ensures.unfinished c.requires.blank;
  },
  record {
    owed = c.migrate-ending.ensures.owed;
    durable = c.migrate-ending.ensures.durable c.requires.blank;
    cause = c.migrate-ending.ensures.cause;
  },
  ap Some c.new.ensures,
)
