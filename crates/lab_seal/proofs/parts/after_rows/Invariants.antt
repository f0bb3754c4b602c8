use Rattle.std.proofs.Common.{◌-◌}
use Rattle.lab_seal.proofs.RowLemmas.{IsRestOf}
use Rattle.lab_seal.proofs.parts.after_rows.Given as goal

abbrev pub invariant-loop : goal.invariant-loop
invariant-loop l = IsRestOf l.count l.text (l.count - l.counter) l.rest
