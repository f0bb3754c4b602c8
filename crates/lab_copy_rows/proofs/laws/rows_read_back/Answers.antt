use Rattle.lab_copy_rows.proofs.ReadLemmas.{read_back}
use Rattle.lab_copy_rows.proofs.laws.rows_read_back.Goals as goal

pub returns : goal.returns
returns c = read_back
