-- What was opened is a store over the file; else why none was.
use Rattle.lab_program_files.proofs.opening.FileOpenerOpenerStoreDisk.open.Goals as goal

pub returns-in-Ok-clause-opened : goal.returns-in-Ok-clause-opened
returns-in-Ok-clause-opened g c = (_, (_, c.in-Ok.ensures.ours))

pub returns-in-Err-clause-unopened : goal.returns-in-Err-clause-unopened
returns-in-Err-clause-unopened g c =
    (_, c.in-Err.fault, (_, c.in-Err.ensures.unopened), c.opening_fault.ensures)
