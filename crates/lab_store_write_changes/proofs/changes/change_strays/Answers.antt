use Rattle.lab_records_kept.specs.declared.changes.Change.TheVariants.{Strays}
use Rattle.lab_store_write.proofs.Writers.{fails_so_by}
use Rattle.lab_store_write_changes.specs.Tried.{TriesIn}
use Rattle.lab_store_write_changes.proofs.changes.change_strays.Goals as goal

pub returns-in_err-set_strays : goal.returns-in_err-set_strays
returns-in_err-set_strays g c =
    fails_so_by c.in_err-set_strays.ensures {more = TriesIn c.args.lab.id (Strays c.args.count)} (λ before tried at it. it) c.from_residual.result c.from_residual.ensures.1
