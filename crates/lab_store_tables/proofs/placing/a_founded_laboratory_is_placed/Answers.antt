use Rattle.lab_store_tables.proofs.placing.a_founded_laboratory_is_placed.Goals as goal
use Rattle.lab_store_tables.proofs.Founded.{founded_is_placed}

pub returns-clause-placed : goal.returns-clause-placed
returns-clause-placed c = λ old new newborn rising well it. (founded_is_placed old new newborn rising well it).0

pub returns-clause-kept : goal.returns-clause-kept
returns-clause-kept c = λ old new newborn rising well it. (founded_is_placed old new newborn rising well it).1
