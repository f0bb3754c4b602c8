-- What is asked for is the task that is done.
use Rattle.lab_program.proofs.DoneLemmas.{done_as}
use Rattle.lab_program_words.proofs.GivenLemmas.{held_so}
use Rattle.lab_program.proofs.command_line.do_task.Goals as goal

pub returns-in-Found : goal.returns-in-Found
returns-in-Found g c = λ asked is.
    done_as g.M.Volume.Disk.Store g.M.Volume.Volume.file _ c.args.host.now.volume _ _ _ _ _ _ asked _ _ (rw c.in-Found.is at is) c.found_for.ensures

pub returns-in-Serve : goal.returns-in-Serve
returns-in-Serve g c = λ asked is.
    done_as g.M.Volume.Disk.Store g.M.Volume.Volume.file _ c.args.host.now.volume _ _ _ _ _ _ asked _ _ (rw c.in-Serve.is at is) c.serve.ensures

pub returns-in-Copy : goal.returns-in-Copy
returns-in-Copy g c = λ asked is.
    let known = rw c.in-Copy.is at is in
    done_as g.M.Volume.Disk.Store g.M.Volume.Volume.file _ c.args.host.now.volume _ _ _ _ _ _ asked _ _ known.0 (c.copy_for.ensures known.1 known.2)

pub returns-in-Migrate : goal.returns-in-Migrate
returns-in-Migrate g c = λ asked is.
    done_as g.M.Volume.Disk.Store g.M.Volume.Volume.file _ c.args.host.now.volume _ _ _ _ _ _ asked _ _ (rw c.in-Migrate.is at is) c.migrate.ensures

pub returns-in-Check : goal.returns-in-Check
returns-in-Check g c = λ asked is.
    done_as g.M.Volume.Disk.Store g.M.Volume.Volume.file _ c.args.host.now.volume _ _ _ _ _ _ asked _ _ (rw c.in-Check.is at is) c.check_for.ensures

pub returns-in-Replay : goal.returns-in-Replay
returns-in-Replay g c = λ asked is.
    done_as g.M.Volume.Disk.Store g.M.Volume.Volume.file _ c.args.host.now.volume _ _ _ _ _ _ asked _ _ (rw c.in-Replay.is at is) c.replay.ensures

pub returns-in-Rehearse : goal.returns-in-Rehearse
returns-in-Rehearse g c = λ asked is.
    let known = rw c.in-Rehearse.is at is in
    done_as g.M.Volume.Disk.Store g.M.Volume.Volume.file _ c.args.host.now.volume _ _ _ _ _ _ asked _ _ known.3 (c.rehearse_for.ensures known.0 known.2 (held_so known.0 _ known.2 known.1))
