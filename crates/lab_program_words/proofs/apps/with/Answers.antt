-- The command has the subcommand behind its own.
use Rattle.lab_program_words.proofs.AppLemmas.{commanded}
use Rattle.lab_program_words.proofs.apps.with.Goals as goal

pub returns : goal.returns
returns c = commanded _ _ c.subcommand.result c.requires c.subcommand.ensures
