use Rattle.lab_store_read_trail.proofs.ActionWords.{no_action}
use Rattle.lab_store_read_trail.proofs.actions.action_by.Goals as goal

pub returns-in_default-clause-none : goal.returns-in_default-clause-none
returns-in_default-clause-none c =
    let n = c.in_default in
    no_action c.args.word.now n.not-found n.not-open n.not-close n.not-refuse n.not-lock n.not-password n.not-enrol n.not-issue n.not-confirm n.not-roles
    n.not-retire n.not-unlock n.not-form n.not-record n.not-entry n.not-amend n.not-sign
