-- Where the file or the clock fails nothing goes out; then the walk tells. What it left is closed.
use Rattle.std.proofs.Common.{◌∙◌, Some, ap, subst, sym}
use Rattle.lab_program_opening.specs.Files.{IsOurs}
use Rattle.lab_program_files.proofs.copying.copy_file.Goals as goal

pub returns-in_default-clause-untouched : goal.returns-in_default-clause-untouched
returns-in_default-clause-untouched g c =
    subst (IsOurs g.M.Volume.Disk.Store (g.M.Volume.Volume.file c.args.host.now.volume c.args.path.now).holds)
    (sym (c.new.ensures ∙ c.into_connection.ensures.same)) c.in-Ok.ensures.ours

pub returns-clause-copies : goal.returns-clause-copies
returns-clause-copies g c = (
  record {
    old = c.in-Ok.store;
    new = c.copy_out-ending.new.keeper;
    begins = c.in-Ok.ensures.ours;
    moment = c.in-Ok-moment.moment;
    given = c.in-Ok-moment.ensures.given;
    text = c.copy_out-ending.ensures.text;
    fault = c.copy_out-ending.ensures.fault;
    cause = c.copy_out-ending.ensures.cause;
    read = c.copy_out-ending.ensures.read;
    shuts = c.copy_out-ending.ensures.shuts;
  },
  ap Some (c.new-2.ensures ∙ c.into_connection-left.ensures.same),
)
