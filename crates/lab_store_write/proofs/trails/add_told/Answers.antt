use Rattle.std.proofs.Common.{inl, inr, option_map, ap, subst, ◌∙◌}
use Rattle.lab_store_write.specs.Givers.{Knows}
use Rattle.lab_store_write.specs.Ids.{row_id}
use Rattle.lab_store_tables.specs.Rows.{Tables}
use Rattle.lab_store_write.specs.TrailAdded.{with_told}
use Rattle.lab_store_write.specs.Statements.{adding_told, counting_trail}
use Rattle.lab_store_write.specs.Tried.{Over, Only, TriedFrom, TriesToAddTold}
use Rattle.lab_store_write.proofs.Trying.{found_first}
use Rattle.lab_store_write.proofs.Writers.{and_two, fails_so_by, then_fails_by, then_third_fails_by}
use Rattle.lab_store_write.proofs.TrailAddedLemmas.{told_added}
use Rattle.lab_store_write.proofs.trails.add_told.Goals as goal

pub returns-in_err-person : goal.returns-in_err-person
returns-in_err-person g c =
    fails_so_by c.in_err-person.ensures {more = TriedFrom (Knows c.args.lab.id c.args.giver) (TriesToAddTold c.args.lab.id c.args.last c.args.told.now)} (λ before tried at it known. inl it)
    c.from_residual.result c.from_residual.ensures.1

pub returns-in_err-insert_told : goal.returns-in_err-insert_told
returns-in_err-insert_told g c =
    let person = option_map row_id c.in_ok-person.person in
    let own = Only (adding_told c.args.lab.id person c.args.told.now) in
    then_fails_by c.in_ok-person.ensures {tries = own} {more = TriedFrom (Knows c.args.lab.id c.args.giver) (TriesToAddTold c.args.lab.id c.args.last c.args.told.now)} c.in_err-insert_told.ensures
    (λ before mid tried at found it known. inr (person, found.0 known, inl (found_first own found.1 it)))
    c.from_residual-in_err-insert_told.result c.from_residual-in_err-insert_told.ensures.1

pub returns-in_err-set_trail : goal.returns-in_err-set_trail
returns-in_err-set_trail g c =
    let person = option_map row_id c.in_ok-person.person in
    let told = c.args.told.now in
    let sent = counting_trail c.args.lab.id c.args.last told.number in
    then_third_fails_by c.in_ok-person.ensures c.in_ok-insert_told.ensures {third = Only sent} {more = TriedFrom (Knows c.args.lab.id c.args.giver) (TriesToAddTold c.args.lab.id c.args.last c.args.told.now)} c.in_err-set_trail.ensures
    (λ before mid late tried at found made it known. inr (
      person,
      found.0 known,
      inr (subst (λ (t : Tables). Over sent t tried at) (made ∙ ap (with_told c.args.lab.id person told) found.1) it),
    ))
    c.from_residual-in_err-set_trail.result c.from_residual-in_err-set_trail.ensures.1

pub returns : goal.returns
returns g c =
    and_two c.in_ok-person.ensures c.in_ok-insert_told.ensures c.in_ok-set_trail.ensures
    (told_added c.args.lab.id (Knows c.args.lab.id c.args.giver) c.args.told.now (option_map row_id c.in_ok-person.person) c.args.last _ _ _ _)
