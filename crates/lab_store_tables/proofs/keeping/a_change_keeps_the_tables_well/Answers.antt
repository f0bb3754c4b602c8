use Rattle.lab_store_tables.proofs.keeping.a_change_keeps_the_tables_well.Goals as goal
use Rattle.lab_store_tables.proofs.Rules.{rules_hold}
use Rattle.lab_store_tables.proofs.DeskStays.{desk_stays}
use Rattle.lab_store_tables.proofs.EachChangeKeeps.{change_keeps}

pub returns-clause-rules : goal.returns-clause-rules
returns-clause-rules c = rules_hold

pub returns-clause-kept : goal.returns-clause-kept
returns-clause-kept c = change_keeps

pub returns-clause-desk : goal.returns-clause-desk
returns-clause-desk c = desk_stays
