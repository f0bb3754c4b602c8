use Rattle.lab_records_laws.proofs.births.a_birth_is_right.Goals as goal
use Rattle.lab_records_laws.proofs.BirthLemmas.{born_right, born_founded, born_taken}

pub returns-clause-taken : goal.returns-clause-taken
returns-clause-taken c = born_taken

pub returns-clause-founded : goal.returns-clause-founded
returns-clause-founded c = born_founded

pub returns-clause-right : goal.returns-clause-right
returns-clause-right c = born_right
