-- Nothing is told where the copy is whole, and else the fault; what was left to be closed was closed.
use Rattle.std.proofs.Common.{refl, sym}
use Rattle.std.proofs.KnownBytes.{Keeps-refl}
use Rattle.std.proofs.lemmas.Result.{IfOk-weaker}
use Rattle.lab_program_opening.proofs.FileLemmas.{closed_kept}
use Rattle.lab_program_files.proofs.CopyLemmas.{cause_of}
use Rattle.lab_program_files.proofs.copying.copy.Goals as goal

pub returns-in-Ok-Ok : goal.returns-in-Ok-Ok
returns-in-Ok-Ok g c = record {
  ending = c.copy_file.result.ending;
  copies = IfOk-weaker c.copy_file.result.ending _ _
      (λ ending it. (it.0, closed_kept _ _ _ it.1 c.close.ensures.closed)) c.copy_file.ensures.copies;
  unbegun = c.copy_file.ensures.unbegun;
  cause = cause_of _ _ _ c.copy_file.result.ending c.copy_file.result.finished
      c.copy_file.ensures.untouched c.copy_file.ensures.cause c.close.ensures.closed;
  told = rw (sym c.close.ensures.ending, c.in-Ok-Ok.is, c.in-Ok-Ok.field-0-is) (refl, Keeps-refl _);
}

pub returns-in-Ok-Err : goal.returns-in-Ok-Err
returns-in-Ok-Err g c = record {
  ending = c.copy_file.result.ending;
  copies = IfOk-weaker c.copy_file.result.ending _ _
      (λ ending it. (it.0, closed_kept _ _ _ it.1 c.close.ensures.closed)) c.copy_file.ensures.copies;
  unbegun = c.copy_file.ensures.unbegun;
  cause = cause_of _ _ _ c.copy_file.result.ending c.copy_file.result.finished
      c.copy_file.ensures.untouched c.copy_file.ensures.cause c.close.ensures.closed;
  told = rw (sym c.close.ensures.ending, c.in-Ok-Err.is, c.in-Ok-Err.field-0-is) (rw c.word.ensures at c.decline.ensures);
}

pub returns-in-Err : goal.returns-in-Err
returns-in-Err g c = record {
  ending = c.copy_file.result.ending;
  copies = IfOk-weaker c.copy_file.result.ending _ _
      (λ ending it. (it.0, closed_kept _ _ _ it.1 c.close.ensures.closed)) c.copy_file.ensures.copies;
  unbegun = c.copy_file.ensures.unbegun;
  cause = cause_of _ _ _ c.copy_file.result.ending c.copy_file.result.finished
      c.copy_file.ensures.untouched c.copy_file.ensures.cause c.close.ensures.closed;
  told = rw (sym c.close.ensures.ending, c.in-Err.is) c.decline_to_open.ensures;
}
