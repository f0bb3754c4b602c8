-- What was left to be closed was closed.
use Rattle.lab_program_files.proofs.ServingLemmas.{shut_none, shut_some}
use Rattle.lab_program_files.proofs.serving.serve.Goals as goal

pub returns-in-Some : goal.returns-in-Some
returns-in-Some g c = (
  c.serve_file-ending.result.finished,
  c.serve_file-ending.ensures,
  shut_some _ c.serve_file-ending.result.finished
      c.in-Some.finished c.in-Some.is (_, c.close_uncut.ensures),
)

pub returns-in_default : goal.returns-in_default
returns-in_default g c = (
  c.serve_file-ending.result.finished,
  c.serve_file-ending.ensures,
  shut_none _ c.serve_file-ending.result.finished
      c.in_default.is,
)
