-- The status is the task's, or that of a fault that couldn't be printed.
use Rattle.std.proofs.Common.{refl}
use Rattle.lab_program.proofs.command_line.status_of.Goals as goal

pub returns-in-Ok-clause-done : goal.returns-in-Ok-clause-done
returns-in-Ok-clause-done g c = λ asked asks.
    (c.labdesk.result, rw c.in-Ok.is refl, c.labdesk.ensures.done asked asks)

pub returns-in-Ok-clause-explained : goal.returns-in-Ok-clause-explained
returns-in-Ok-clause-explained g c =
    (c.labdesk.result, rw c.in-Ok.is refl, c.labdesk.ensures.explained)

pub returns-in-Err-clause-done : goal.returns-in-Err-clause-done
returns-in-Err-clause-done g c = λ asked asks.
    (c.labdesk.result, rw c.in-Err.is refl, c.labdesk.ensures.done asked asks)

pub returns-in-Err-clause-explained : goal.returns-in-Err-clause-explained
returns-in-Err-clause-explained g c =
    (c.labdesk.result, rw c.in-Err.is refl, c.labdesk.ensures.explained)
