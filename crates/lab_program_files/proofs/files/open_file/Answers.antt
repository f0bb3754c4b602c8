-- What was found is what was opened; and a file that wasn't opened was refused, or owes the refusal.
use Rattle.lab_program_opening.proofs.FileLemmas.{is_ours, is_unopened}
use Rattle.lab_program_files.proofs.files.open_file.Goals as goal

pub returns-clause-ours : goal.returns-clause-ours
returns-clause-ours g c =
    is_ours g.H.Disk.Store (g.H.Volume.file c.args.volume.now c.args.path.now).holds c.in_ok-conn.conn
    c.in_ok-conn.ensures.found c.opened_store.result c.opened_store.ensures.ours

pub returns-clause-unopened : goal.returns-clause-unopened
returns-clause-unopened g c =
    is_unopened g.H.Disk.Store _ (g.H.Volume.file c.args.volume.now c.args.path.now) c.in_ok-conn.conn
    c.in_ok-conn.ensures.found c.opened_store.result c.opened_store.ensures.refused
