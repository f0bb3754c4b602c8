use Rattle.std.proofs.Common.{inl, inr, Err, refl, subst}
use Rattle.sqlite.specs.declared.error.Error.TheVariants.{SqliteFailure}
use Rattle.sqlite.specs.declared.error.ErrorCode.TheVariants.{OutOfMemory}
use Rattle.lab_people_access.specs.declared.persons.Person.{Person}
use Rattle.lab_store_tables.specs.Changes.{AddsPerson}
use Rattle.lab_store_write.specs.Private.Calls.{Writes}
use Rattle.lab_store_write.proofs.Writers.{not_asked}
use Rattle.lab_store_write.proofs.Givers.{by_nobody}
use Rattle.lab_move_write.proofs.kinds.add_bare.Goals as goal

pub returns-in-Ok : goal.returns-in-Ok
returns-in-Ok g c =
    subst (λ (one : Person). Writes g.W.Writable.lender g.W.Writable.state (AddsPerson c.args.lab.id one) c.args.tx.now c.add_person.new.tx c.add_person.result)
    c.in-Ok.ensures (by_nobody c.args.lab.id c.add_person.ensures)

pub returns-in-Err : goal.returns-in-Err
returns-in-Err g c = not_asked c.args.tx.now {e = SqliteFailure OutOfMemory} (inr (inl refl)) (Err (SqliteFailure OutOfMemory)) refl
