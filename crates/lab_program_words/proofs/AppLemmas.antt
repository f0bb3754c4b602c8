-- A command with one more subcommand, where it came and as it was answered.
use Rattle.std.proofs.Common.{◌≡◌, ◌&&◌, Bool, true, false, not, refl, Result, Ok, Err}
use Rattle.std.specs.Prelude.{IfOk}
use Rattle.clap.specs.Words.{AddsSubcommand, app_of, with_subcommand}
use Rattle.clap.specs.declared.builder.command.Command.{Command}

-- a plain command has no argument that its subcommands share
not_third : (first second third others : Bool) → (first && (second && (not third && others))) ≡ true → third ≡ false
not_third true true true others all = absurd (cc)
not_third true true false others all = refl
not_third true false third others all = absurd (cc)
not_third false second third others all = absurd (cc)

-- the command that was answered has the subcommand, where it is a plain one
pub commanded : {F : Type 0} (old task : Command) (result : Result Command F) → (app_of task).top.is_plain ≡ true
    → IfOk result (λ new. AddsSubcommand old task new)
    → IfOk result (λ new. app_of new ≡ with_subcommand (app_of old) (app_of task).top)
commanded old task (Ok new) plain adds = adds.shape (not_third _ _ _ _ plain)
commanded old task (Err fault) plain adds = tt
