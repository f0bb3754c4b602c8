-- A command with one more argument.
use Rattle.std.proofs.Common.{◌≡◌, false, Result, Ok, Err}
use Rattle.std.specs.Prelude.{IfOk}
use Rattle.clap.specs.Words.{AddsArg, app_of, rule_of, with_rule}
use Rattle.clap.specs.declared.builder.arg.Arg.{Arg}
use Rattle.clap.specs.declared.builder.command.Command.{Command}

-- the command that was answered has the argument, where it is its own
pub argued : {F : Type 0} (old : Command) (arg : Arg) (result : Result Command F) → arg.global ≡ false
    → IfOk result (λ new. AddsArg old arg new) → IfOk result (λ new. app_of new ≡ with_rule (app_of old) (rule_of arg))
argued old arg (Ok new) local adds = adds.shape local
argued old arg (Err fault) local adds = tt
