-- It wasn't connected to; or it was found, and something is in it.
use Rattle.lab_program_opening.proofs.FileLemmas.{is_filled}
use Rattle.lab_program_opening.proofs.files.open_new.Goals as goal

pub returns-clause-filled : goal.returns-clause-filled
returns-clause-filled g c =
    is_filled g.H.Disk.Store (g.H.Volume.file c.args.volume.now c.args.path.now) c.in_ok-conn.conn
    c.in_ok-conn.ensures.found c.blank.result c.blank.ensures.filled
