-- It was given up at the path.
use Rattle.lab_program_files.proofs.opening.FileOpenerOpenerStoreDisk.close.Goals as goal

pub returns : goal.returns
returns g c = (_, c.close_uncut.ensures)
