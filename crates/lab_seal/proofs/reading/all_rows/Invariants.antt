use Rattle.std.proofs.Common.{◌-◌}
use Rattle.lab_seal.proofs.RowLemmas.{IsRowsSoFar}
use Rattle.lab_seal.proofs.reading.all_rows.Given as goal

abbrev pub invariant-loop-at : goal.invariant-loop-at
invariant-loop-at l = IsRowsSoFar l.count l.text (l.count - l.at) l.rows.items l.rest
