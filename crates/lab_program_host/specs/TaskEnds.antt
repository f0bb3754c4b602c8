-- What is seen of a task once it has ended.
use Rattle.std.specs.Prelude.{ℕ, List, Option, Result}
use Rattle.lab_forms_streams.specs.declared.sending.WriteFault.{WriteFault as Untold}

pub record TaskEnd : Type 0 where
  -- what the output had before the task, and has after it, where that is known
  pub before : Option (List ℕ)
  pub after : Option (List ℕ)
  -- what standard error had before it, and has after it
  pub told_before : Option (List ℕ)
  pub told_after : Option (List ℕ)
  -- the status; or that standard error failed before the whole fault was told
  pub status : Result ℕ Untold
