-- The server tells what was served; where no file was opened or no port listened at, that is told.
use Rattle.std.proofs.Common.{inl, inr}
use Rattle.std.proofs.KnownBytes.{Keeps-refl}
use Rattle.lab_program_files.proofs.ServingLemmas.{found_left, serves_to}
use Rattle.lab_program_files.proofs.serving.serve_file.Goals as goal

pub returns-in-Err : goal.returns-in-Err
returns-in-Err g c = inr (
  inl (Keeps-refl _, (c.in-Err.unopened.ending, c.in-Err.ensures.unopened, c.decline_to_serve.ensures)),
  c.in-Err.ensures.left,
)

pub returns-in_default : goal.returns-in_default
returns-in_default g c = inr (
  inr (Keeps-refl _, rw c.word-word.ensures at c.decline.ensures),
  found_left _ _ _ c.left_of.ensures c.in-Ok.ensures.ours,
)

pub returns : goal.returns
returns g c = inl (serves_to _ _ _ _ _ (λ fault. ⊥) _ _ _ _ _ _ c.in-Ok.ensures.ours c.serve-ending.ensures
    c.left_of-2.ensures)
