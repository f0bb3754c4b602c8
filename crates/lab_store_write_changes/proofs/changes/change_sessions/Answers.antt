use Rattle.lab_store_write.proofs.Writers.{answers_as}
use Rattle.lab_store_write_changes.proofs.Steps.{closed_where_kept}
use Rattle.lab_store_write_changes.proofs.changes.change_sessions.Goals as goal

pub returns : goal.returns
returns g c = answers_as c.close_sessions.ensures (λ _. closed_where_kept c.args.lab.id _ c.args.person.now c.args.closing _ _)
