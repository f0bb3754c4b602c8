use Rattle.std.proofs.Common.{inl, inr, option_map, subst, ◌∙◌}
use Rattle.lab_store_write.specs.Givers.{Knows}
use Rattle.lab_store_write.specs.Ids.{row_id}
use Rattle.lab_store_tables.specs.Rows.{Tables}
use Rattle.lab_store_tables.specs.Changes.{asker_of, IsNamedIfAny}
use Rattle.lab_store_write.specs.Statements.{setting_person}
use Rattle.lab_store_write.specs.Tried.{Only, TriedFrom, TriesIfAny, TriesToSetPerson}
use Rattle.lab_store_write.proofs.Trying.{found_first}
use Rattle.lab_store_write.proofs.Writers.{and_two, fails_so_by, then_fails_by, then_third_fails_by}
use Rattle.lab_store_write.proofs.PersonLemmas.{person_set}
use Rattle.lab_store_write.proofs.persons.set_person.Goals as goal

pub returns-in_err-id : goal.returns-in_err-id
returns-in_err-id g c =
    fails_so_by c.in_err-id.ensures {more = TriedFrom (Knows c.args.lab.id c.args.giver) (TriesToSetPerson c.args.lab.id c.args.person.now)} (λ before tried at it known. inl it)
    c.from_residual.result c.from_residual.ensures.1

pub returns-in_err-asker : goal.returns-in_err-asker
returns-in_err-asker g c =
    let own = TriesIfAny c.args.lab.id (asker_of c.args.person.now) in
    then_fails_by c.in_ok-id.ensures {tries = own} {more = TriedFrom (Knows c.args.lab.id c.args.giver) (TriesToSetPerson c.args.lab.id c.args.person.now)} c.in_err-asker.ensures
    (λ before mid tried at found it known. inr (inl (found_first own found.1 it)))
    c.from_residual-in_err-asker.result c.from_residual-in_err-asker.ensures.1

pub returns-in_err-update_person : goal.returns-in_err-update_person
returns-in_err-update_person g c =
    let lab = c.args.lab.id in
    let asker = option_map row_id c.in_ok-asker.asker in
    let own = Only (setting_person lab c.in_ok-id.id.id asker c.args.person.now) in
    then_third_fails_by c.in_ok-id.ensures c.in_ok-asker.ensures {third = own} {more = TriedFrom (Knows c.args.lab.id c.args.giver) (TriesToSetPerson lab c.args.person.now)} c.in_err-update_person.ensures
    (λ before mid late tried at one two it known. inr (inr (
      c.in_ok-id.id.id,
      one.0 known,
      asker,
      subst (λ (t : Tables). Knows lab c.args.giver t → IsNamedIfAny t lab (asker_of c.args.person.now) asker) one.1 two.0 known,
      found_first own (two.1 ∙ one.1) it,
    )))
    c.from_residual-in_err-update_person.result c.from_residual-in_err-update_person.ensures.1

pub returns : goal.returns
returns g c =
    and_two c.in_ok-id.ensures c.in_ok-asker.ensures c.in_ok-update_person.ensures
    (person_set c.args.lab.id (Knows c.args.lab.id c.args.giver) c.args.person.now c.in_ok-id.id.id (option_map row_id c.in_ok-asker.asker) _ _ _ _)
