use Rattle.lab_store_write.specs.Givers.{Knows}
use Rattle.lab_store_write.specs.Tried.{TriesIfAny}
use Rattle.lab_store_write.proofs.Writers.{and_so, nothing_asked, fails_so_by}
use Rattle.lab_store_write.proofs.KeyLemmas.{named_some, named_none}
use Rattle.lab_store_write.proofs.named.person_if_any.Goals as goal

pub returns-in_err-person-in-Some : goal.returns-in_err-person-in-Some
returns-in_err-person-in-Some g c =
    fails_so_by c.in_err-person-in-Some.ensures {more = TriesIfAny c.args.lab.id c.args.code.now} (λ before tried at it. (c.in-Some.code, c.in-Some.is, it))
    c.from_residual.result c.from_residual.ensures.1

pub returns-in_ok-person-in-Some : goal.returns-in_ok-person-in-Some
returns-in_ok-person-in-Some g c =
    and_so c.in_ok-person-in-Some.ensures
    (named_some c.args.lab.id (Knows c.args.lab.id c.args.giver) c.in-Some.code c.args.code.now c.in_ok-person-in-Some.person.id _ _ c.in-Some.is)

pub returns-in-None : goal.returns-in-None
returns-in-None g c =
    nothing_asked c.args.tx.now
    (named_none c.args.lab.id (Knows c.args.lab.id c.args.giver) c.args.code.now (g.W.Writable.state c.args.tx.now) c.in-None.is)
