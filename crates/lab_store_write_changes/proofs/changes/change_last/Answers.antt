use Rattle.lab_records_kept.specs.declared.changes.Change.TheVariants.{Last}
use Rattle.lab_store_write.proofs.Writers.{fails_so_by}
use Rattle.lab_store_write_changes.specs.Tried.{TriesIn}
use Rattle.lab_store_write_changes.proofs.changes.change_last.Goals as goal

pub returns-in_err-set_last : goal.returns-in_err-set_last
returns-in_err-set_last g c =
    fails_so_by c.in_err-set_last.ensures {more = TriesIn c.args.lab.id (Last c.args.moment)} (λ before tried at it. it) c.from_residual.result c.from_residual.ensures.1
