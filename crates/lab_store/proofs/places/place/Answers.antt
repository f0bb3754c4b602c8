use Rattle.std.proofs.Common.{sym, ◌∙◌}
use Rattle.lab_store_write.proofs.Transactions.{isnt_memory}
use Rattle.lab_store.proofs.Causes.{told_as}
use Rattle.lab_store.proofs.places.place.Goals as goal

pub returns-in-Err-clause-cause : goal.returns-in-Err-clause-cause
returns-in-Err-clause-cause g c =
    told_as g.S.Store c.in-Err.error c.placing_fault.result (λ told. isnt_memory c.in-Err.error (sym c.read_fault.ensures ∙ c.placing_fault.ensures.told told)) c.in-Err.ensures.cause
