use Rattle.lab_store_write.specs.Tried.{TriesIfAny}
use Rattle.lab_store_write.proofs.Writers.{fails_so_by}
use Rattle.lab_store_write.proofs.named.giver_if_any.Goals as goal

pub returns-in_err-id-in-Some : goal.returns-in_err-id-in-Some
returns-in_err-id-in-Some g c =
    fails_so_by c.in_err-id-in-Some.ensures {more = TriesIfAny c.args.lab.id c.args.code.now} (λ before tried at it. (c.in-Some.code, c.in-Some.is, it))
    c.from_residual.result c.from_residual.ensures.1
