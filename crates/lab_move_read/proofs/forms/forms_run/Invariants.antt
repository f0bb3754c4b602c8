use Rattle.std.proofs.Common.{◌≡◌, None, drop}
use Rattle.std.specs.Option.{option_copied}
use Rattle.lab_move_read.specs.Private.Forms.{forms_run}
use Rattle.lab_move_read.proofs.forms.forms_run.Given as goal

-- what is left decides
abbrev pub invariant-loop-head : goal.invariant-loop-head
invariant-loop-head l = forms_run None l.heads ≡ forms_run (option_copied l.before) (drop l.head-index l.heads)
