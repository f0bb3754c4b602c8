-- The first bytes of what is read are those of the input.
use Rattle.std.proofs.Common.{◌∙◌}
use Rattle.lab_program_replay.specs.declared.limited.LimitedReader.{LimitedReader}
use Rattle.lab_program.proofs.WholeLemmas.{front_taken}
use Rattle.lab_program.proofs.laboratories.front_of.Goals as goal

pub returns : goal.returns
returns g c =
    front_taken (λ (limited : LimitedReader g.row.R.Denot). g.R.Read.remaining limited.reader) _ _ _ _
    c.take.ensures.limit (c.take.ensures.inner ∙ c.new.ensures)
