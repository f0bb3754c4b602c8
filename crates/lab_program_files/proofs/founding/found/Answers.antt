-- Nothing is told where all was done, and else the fault; what was left to be closed was closed.
use Rattle.std.proofs.Common.{refl, sym}
use Rattle.std.proofs.KnownBytes.{Keeps-refl}
use Rattle.std.proofs.lemmas.Result.{IfOk-weaker}
use Rattle.lab_program_opening.proofs.FileLemmas.{closed_kept}
use Rattle.lab_program_files.proofs.founding.found.Goals as goal

pub returns-in-Ok-Ok : goal.returns-in-Ok-Ok
returns-in-Ok-Ok g c = record {
  ending = c.found_in_file.result.ending;
  ends = IfOk-weaker c.found_in_file.result.ending _ _
      (λ ending it. (it.0, closed_kept _ _ _ it.1 c.close.ensures.closed))
      c.found_in_file.ensures.ends;
  prints = c.found_in_file.ensures.prints;
  unbegun = c.found_in_file.ensures.unbegun;
  cause = c.found_in_file.ensures.cause;
  told = rw (sym c.close.ensures.ending, c.in-Ok-Ok.is, c.in-Ok-Ok.field-0-is)
      (refl, Keeps-refl _);
}

pub returns-in-Ok-Err : goal.returns-in-Ok-Err
returns-in-Ok-Err g c = record {
  ending = c.found_in_file.result.ending;
  ends = IfOk-weaker c.found_in_file.result.ending _ _
      (λ ending it. (it.0, closed_kept _ _ _ it.1 c.close.ensures.closed))
      c.found_in_file.ensures.ends;
  prints = c.found_in_file.ensures.prints;
  unbegun = c.found_in_file.ensures.unbegun;
  cause = c.found_in_file.ensures.cause;
  told = rw (sym c.close.ensures.ending, c.in-Ok-Err.is, c.in-Ok-Err.field-0-is)
      (rw c.word.ensures at c.decline.ensures);
}

pub returns-in-Err : goal.returns-in-Err
returns-in-Err g c = record {
  ending = c.found_in_file.result.ending;
  ends = IfOk-weaker c.found_in_file.result.ending _ _
      (λ ending it. (it.0, closed_kept _ _ _ it.1 c.close.ensures.closed))
      c.found_in_file.ensures.ends;
  prints = c.found_in_file.ensures.prints;
  unbegun = c.found_in_file.ensures.unbegun;
  cause = c.found_in_file.ensures.cause;
  told = rw (sym c.close.ensures.ending, c.in-Err.is) c.decline_to_open.ensures;
}
