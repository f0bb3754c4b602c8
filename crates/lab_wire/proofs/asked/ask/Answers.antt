use Rattle.lab_wire.proofs.AskLemmas.{fault_of_head}
use Rattle.lab_wire.proofs.asked.ask.Goals as goal

pub returns-in-Err-clause-fault : goal.returns-in-Err-clause-fault
returns-in-Err-clause-fault c = fault_of_head _ _ c.in-Err.ensures.refused
