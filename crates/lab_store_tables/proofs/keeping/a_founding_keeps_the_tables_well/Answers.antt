use Rattle.lab_store_tables.proofs.keeping.a_founding_keeps_the_tables_well.Goals as goal
use Rattle.lab_store_tables.proofs.DeskStays.{desk_stays_at_placing}
use Rattle.lab_store_tables.proofs.FoundingKept.{founding_keeps}

pub returns-clause-kept : goal.returns-clause-kept
returns-clause-kept c = founding_keeps

pub returns-clause-desk : goal.returns-clause-desk
returns-clause-desk c = desk_stays_at_placing
