-- Where there is no desk nothing is asked of a keeper; then a founding over it tells. What it left is
-- closed.
use Rattle.std.proofs.Common.{◌∙◌, Some, ap, subst, sym}
use Rattle.lab_program_host.specs.declared.faults.ServerFault.TheVariants.{Memory}
use Rattle.lab_program_files.specs.FileWorlds.{file_keeper}
use Rattle.lab_program_opening.specs.Files.{IsOpened}
use Rattle.lab_program_files.proofs.FoundingLemmas.{ends_idle, undrawn}
use Rattle.lab_program_files.proofs.founding.found_in_file.Goals as goal

pub returns-in-Err-new-clause-ends : goal.returns-in-Err-new-clause-ends
returns-in-Err-new-clause-ends g c = (
  (
    c.in-Ok.store,
    c.in-Ok.store,
    c.in-Ok.ensures.opened,
    ends_idle (file_keeper g.M.Volume.Disk.Store) undrawn c.args.lab.now
        (g.B.Read.remaining c.args.body.now) c.in-Ok.store Memory tt,
    record { honest = λ h. h; live = λ h l. l; refusing = λ m. m },
  ),
  ap Some (c.new-in-Err-new.ensures ∙ c.into_connection.ensures.same ∙ c.in-Err-new.ensures.unmade),
)

pub returns-clause-ends : goal.returns-clause-ends
returns-clause-ends g c =
    let opened = subst
    (IsOpened g.M.Volume.Disk.Store (g.M.Volume.Volume.file c.args.host.now.volume c.args.path.now).holds)
    (sym c.in-Ok-new.ensures.keeper) c.in-Ok.ensures.opened in (
      (
        c.in-Ok-new.desk.keeper,
        c.found_over-ending.new.desk.keeper,
        opened,
        c.found_over-ending.ensures.ends,
        c.found_over-ending.ensures.passes,
      ),
      ap Some (c.new-2.ensures ∙ c.into_connection-left.ensures.same ∙ c.into_keeper.ensures),
    )
