use Rattle.lab_records_laws.proofs.births.a_laboratory_is_born_once.Goals as goal
use Rattle.lab_records_laws.proofs.BirthLemmas.{not_again}
use Rattle.std.proofs.Common.{refl}

pub returns-clause-step : goal.returns-clause-step
returns-clause-step c = λ tick instruction. refl

pub returns-clause-birth : goal.returns-clause-birth
returns-clause-birth c = not_again
