-- It was opened, or made; and where it was neither, it was refused, or found.
use Rattle.lab_program_opening.proofs.FileLemmas.{is_unmade, is_unopened_made, new_is_opened, ours_is_opened}
use Rattle.lab_program_files.proofs.files.make_file.Goals as goal

pub returns-else-is_empty-clause-opened : goal.returns-else-is_empty-clause-opened
returns-else-is_empty-clause-opened g c =
    ours_is_opened g.H.Disk.Store (g.H.Volume.file c.args.volume.now c.args.path.now).holds
    c.in_ok-conn.conn c.in_ok-conn.ensures.found c.opened_store.result c.opened_store.ensures.ours

pub returns-then-is_empty-clause-opened : goal.returns-then-is_empty-clause-opened
returns-then-is_empty-clause-opened g c =
    new_is_opened g.H.Disk.Store (g.H.Volume.file c.args.volume.now c.args.path.now).holds
    c.in_ok-conn.conn c.in_ok-conn.ensures.found c.made_store.result c.made_store.ensures.made

pub returns-else-is_empty-clause-unmade : goal.returns-else-is_empty-clause-unmade
returns-else-is_empty-clause-unmade g c =
    is_unopened_made g.H.Disk.Store _ (g.H.Volume.file c.args.volume.now c.args.path.now)
    c.in_ok-conn.conn c.in_ok-conn.ensures.found c.opened_store.result
    c.opened_store.ensures.refused

pub returns-then-is_empty-clause-unmade : goal.returns-then-is_empty-clause-unmade
returns-then-is_empty-clause-unmade g c =
    is_unmade g.H.Disk.Store _ (g.H.Volume.file c.args.volume.now c.args.path.now)
    c.in_ok-conn.conn c.in_ok-conn.ensures.found c.made_store.result
    c.made_store.ensures.unmade
