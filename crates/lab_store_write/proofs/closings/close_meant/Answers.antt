use Rattle.std.proofs.Common.{sym, subst}
use Rattle.lab_people_access.specs.declared.sessions.Closing.{Closing}
use Rattle.lab_store_write.specs.Calls.{Steps, WritesTrying}
use Rattle.lab_store_write.specs.Private.Calls.{Becomes}
use Rattle.lab_store_write.specs.Tried.{TriesToClose}
use Rattle.lab_store_write.proofs.Writers.{nothing_asked}
use Rattle.lab_store_write.specs.Closings.{close_of}
use Rattle.lab_store_write.proofs.ClosingLemmas.{nothing_closed}
use Rattle.lab_store_write.proofs.closings.close_meant.Goals as goal

pub returns-in-Nothing : goal.returns-in-Nothing
returns-in-Nothing g c =
    let person = c.args.person.id in
    let one = g.W.Writable.state c.args.tx.now in
    nothing_asked c.args.tx.now (λ inside. subst (λ (k : Closing). Steps (Becomes (close_of person k)) one one) (sym c.in-Nothing.is) (nothing_closed person one inside))

pub returns-in-All : goal.returns-in-All
returns-in-All g c =
    let person = c.args.person.id in
    subst (λ (k : Closing). WritesTrying (TriesToClose person k) g.W.Writable.lender g.W.Writable.state (Becomes (close_of person k)) c.args.tx.now c.close_all.new.tx c.close_all.result)
    (sym c.in-All.is) c.close_all.ensures

pub returns-in-Others : goal.returns-in-Others
returns-in-Others g c =
    let person = c.args.person.id in
    subst (λ (k : Closing). WritesTrying (TriesToClose person k) g.W.Writable.lender g.W.Writable.state (Becomes (close_of person k)) c.args.tx.now c.close_others.new.tx c.close_others.result)
    (sym c.in-Others.is) c.close_others.ensures
