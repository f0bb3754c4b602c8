use Rattle.std.proofs.Common.{sym, ◌∙◌}
use Rattle.lab_move_tables.proofs.WithinDecided.{within_decided}
use Rattle.lab_move_tables.proofs.limits.is_within.Goals as goal

pub returns : goal.returns
returns c =
    let decides = within_decided c.args.lab.now in
    (λ h. decides.0 (sym c.is_kept_within.ensures ∙ h), λ h. c.is_kept_within.ensures ∙ decides.1 h)
