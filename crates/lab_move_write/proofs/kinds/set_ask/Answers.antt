use Rattle.std.proofs.Common.{sym}
use Rattle.lab_records_kept.specs.declared.changes.Change.TheVariants.{PersonSet}
use Rattle.lab_store_write.proofs.Givers.{by_nobody}
use Rattle.lab_move_write.proofs.Turns.{nothing_made, one_made, changes_as, asked_one, asked_none}
use Rattle.lab_move_write.proofs.kinds.set_ask.Goals as goal

pub returns-in-Some : goal.returns-in-Some
returns-in-Some g c =
    changes_as (sym (asked_one c.args.person.now _ c.in-Some.is)) (one_made c.args.lab.id (PersonSet c.args.person.now) (by_nobody c.args.lab.id c.set_person.ensures))

pub returns-in-None : goal.returns-in-None
returns-in-None g c = changes_as (sym (asked_none c.args.person.now c.in-None.is)) (nothing_made c.args.lab.id c.args.tx.now tt)
