-- The desk's keeper is the file's, and so is the one that is left to be closed.
use Rattle.std.proofs.Common.{◌∙◌, subst, sym}
use Rattle.lab_program_opening.specs.Files.{IsOurs}
use Rattle.lab_program_files.proofs.ServingLemmas.{found_over}
use Rattle.lab_program_files.proofs.serving.live_desk_opened.Goals as goal

pub returns-in-Ok-live_desk_over-clause-ours : goal.returns-in-Ok-live_desk_over-clause-ours
returns-in-Ok-live_desk_over-clause-ours g c =
    found_over (IsOurs g.H.Disk.Store (g.H.Volume.file c.args.volume.now c.args.path.now).holds) _
    c.in-Ok.store c.in-Ok-live_desk_over.ensures.live c.in-Ok.ensures.ours

pub returns-in-Err-live_desk_over-clause-left : goal.returns-in-Err-live_desk_over-clause-left
returns-in-Err-live_desk_over-clause-left g c =
    subst (IsOurs g.H.Disk.Store (g.H.Volume.file c.args.volume.now c.args.path.now).holds)
    (sym (c.new.ensures ∙ c.into_connection.ensures.same ∙ c.in-Err-live_desk_over.ensures.unmade))
    c.in-Ok.ensures.ours
