-- The command has the argument behind its own.
use Rattle.lab_program_app.proofs.AppLemmas.{argued}
use Rattle.lab_program_app.proofs.commands.with.Goals as goal

pub returns : goal.returns
returns c = argued _ _ c.arg.result c.requires c.arg.ensures
