use Rattle.lab_wire_heads.specs.Requests.{parts_shown}
use Rattle.lab_forms_texts.specs.declared.refusals.Fault.TheVariants.{Refused, Memory}
use Rattle.lab_wire.proofs.AskLemmas.{asks_of_request, fault_of_route}
use Rattle.lab_wire.proofs.asked.ask_of.Goals as goal

pub returns-in-Ok-clause-asks : goal.returns-in-Ok-clause-asks
returns-in-Ok-clause-asks c = λ bytes is.
    asks_of_request bytes (parts_shown c.args.parts.now) _ is c.in-Ok.ensures.asks

pub returns-in-Err-Refused-clause-fault : goal.returns-in-Err-Refused-clause-fault
returns-in-Err-Refused-clause-fault c = λ bytes is.
    fault_of_route bytes (parts_shown c.args.parts.now) (Refused c.in-Err-Refused.refusal) is
    (rw c.in-Err-Refused.field-0-is at c.in-Err-Refused.ensures.fault)

pub returns-in-Err-Memory-clause-fault : goal.returns-in-Err-Memory-clause-fault
returns-in-Err-Memory-clause-fault c = λ bytes is.
    fault_of_route bytes (parts_shown c.args.parts.now) Memory is
    (rw c.in-Err-Memory.field-0-is at c.in-Err-Memory.ensures.fault)
