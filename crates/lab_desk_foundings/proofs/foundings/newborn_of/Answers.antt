-- A fault is that of the reading; and a body that reads has some byte.
use Rattle.lab_desk_foundings.proofs.Bodies.{byte_read, found_fits}
use Rattle.lab_desk_foundings.proofs.foundings.newborn_of.Goals as goal

pub returns-in_err-copy-in-Ok-clause-memory : goal.returns-in_err-copy-in-Ok-clause-memory
returns-in_err-copy-in-Ok-clause-memory c = byte_read c.args.body.now c.in-Ok.founding c.from_residual.result c.in-Ok.ensures.read.read

pub returns-in-Err-clause-fault : goal.returns-in-Err-clause-fault
returns-in-Err-clause-fault c = found_fits c.args.lab.now c.args.tick.now _ c.in-Err.fault c.in-Err.ensures.fault
