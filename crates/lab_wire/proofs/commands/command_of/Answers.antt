use Rattle.lab_wire_heads.specs.Requests.{parts_shown}
use Rattle.lab_wire.specs.Routes.{destination_shown}
use Rattle.lab_wire.specs.Commands.{destination_in}
use Rattle.lab_wire.proofs.CommandLemmas.{asks_there, fault_there, goes_nowhere}
use Rattle.lab_wire.proofs.commands.command_of.Goals as goal

pub returns-in-Ok-clause-asks : goal.returns-in-Ok-clause-asks
unfolding destination_in
returns-in-Ok-clause-asks c =
    asks_there (parts_shown c.args.parts.now) (destination_shown c.in-Ok.to) c.asked_at.result c.in-Ok.ensures.found c.asked_at.ensures.asks

pub returns-in-Ok-clause-fault : goal.returns-in-Ok-clause-fault
unfolding destination_in
returns-in-Ok-clause-fault c =
    fault_there (parts_shown c.args.parts.now) (destination_shown c.in-Ok.to) c.asked_at.result c.in-Ok.ensures.found c.asked_at.ensures.fault

pub returns-in-Err-clause-fault : goal.returns-in-Err-clause-fault
unfolding destination_in
returns-in-Err-clause-fault c = goes_nowhere (parts_shown c.args.parts.now) c.in-Err.refusal c.in-Err.ensures.refused
