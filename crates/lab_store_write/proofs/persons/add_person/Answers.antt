use Rattle.std.proofs.Common.{inl, inr, option_map}
use Rattle.lab_store_write.specs.Givers.{Knows}
use Rattle.lab_store_write.specs.Ids.{row_id}
use Rattle.lab_store_write.specs.Statements.{adding_person}
use Rattle.lab_store_write.specs.Tried.{Only, TriedFrom, TriesToAddPerson}
use Rattle.lab_store_write.proofs.Trying.{found_first}
use Rattle.lab_store_write.proofs.Writers.{and_then, fails_so_by, then_fails_by}
use Rattle.lab_store_write.proofs.PersonLemmas.{person_added}
use Rattle.lab_store_write.proofs.persons.add_person.Goals as goal

pub returns-in_err-asker : goal.returns-in_err-asker
returns-in_err-asker g c =
    fails_so_by c.in_err-asker.ensures {more = TriedFrom (Knows c.args.lab.id c.args.giver) (TriesToAddPerson c.args.lab.id c.args.person.now)} (λ before tried at it known. inl it)
    c.from_residual.result c.from_residual.ensures.1

pub returns-in_err-insert_person : goal.returns-in_err-insert_person
returns-in_err-insert_person g c =
    let asker = option_map row_id c.in_ok-asker.asker in
    let own = Only (adding_person c.args.lab.id asker c.args.person.now) in
    then_fails_by c.in_ok-asker.ensures {tries = own} {more = TriedFrom (Knows c.args.lab.id c.args.giver) (TriesToAddPerson c.args.lab.id c.args.person.now)} c.in_err-insert_person.ensures
    (λ before mid tried at found it known. inr (asker, found.0 known, found_first own found.1 it))
    c.from_residual-in_err-insert_person.result c.from_residual-in_err-insert_person.ensures.1

pub returns : goal.returns
returns g c =
    and_then c.in_ok-asker.ensures c.in_ok-insert_person.ensures (person_added c.args.lab.id (Knows c.args.lab.id c.args.giver) c.args.person.now (option_map row_id c.in_ok-asker.asker) _ _ _)
