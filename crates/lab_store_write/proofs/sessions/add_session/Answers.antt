use Rattle.lab_store_write.specs.Givers.{Knows}
use Rattle.std.proofs.Common.{inl, inr, ap, subst, ◌∙◌}
use Rattle.lab_store_tables.specs.Rows.{Tables}
use Rattle.lab_store_write.specs.Added.{with_session}
use Rattle.lab_store_write.specs.Statements.{adding_session, counting_sessions}
use Rattle.lab_store_write.specs.Tried.{Over, Only, TriedFrom, TriesToAddSession}
use Rattle.lab_store_write.proofs.Trying.{found_first}
use Rattle.lab_store_write.proofs.Writers.{and_two, fails_so_by, then_fails_by, then_third_fails_by}
use Rattle.lab_store_write.proofs.Added.{session_added}
use Rattle.lab_store_write.proofs.sessions.add_session.Goals as goal

pub returns-in_err-person : goal.returns-in_err-person
returns-in_err-person g c =
    fails_so_by c.in_err-person.ensures {more = TriedFrom (Knows c.args.lab.id c.args.giver) (TriesToAddSession c.args.lab.id c.args.session.now)} (λ before tried at it known. inl it)
    c.from_residual.result c.from_residual.ensures.1

pub returns-in_err-insert_session : goal.returns-in_err-insert_session
returns-in_err-insert_session g c =
    let person = c.in_ok-person.person.id in
    let own = Only (adding_session c.args.lab.id person c.args.session.now) in
    then_fails_by c.in_ok-person.ensures {tries = own} {more = TriedFrom (Knows c.args.lab.id c.args.giver) (TriesToAddSession c.args.lab.id c.args.session.now)} c.in_err-insert_session.ensures
    (λ before mid tried at found it known. inr (person, found.0 known, inl (found_first own found.1 it)))
    c.from_residual-in_err-insert_session.result c.from_residual-in_err-insert_session.ensures.1

pub returns-in_err-set_sessions : goal.returns-in_err-set_sessions
returns-in_err-set_sessions g c =
    let person = c.in_ok-person.person.id in
    let session = c.args.session.now in
    let own = Only (counting_sessions c.args.lab.id session.number) in
    then_third_fails_by c.in_ok-person.ensures c.in_ok-insert_session.ensures {third = own} {more = TriedFrom (Knows c.args.lab.id c.args.giver) (TriesToAddSession c.args.lab.id c.args.session.now)} c.in_err-set_sessions.ensures
    (λ before mid late tried at found made it known. inr (
      person,
      found.0 known,
      inr (subst (λ (t : Tables). Over (counting_sessions c.args.lab.id session.number) t tried at) (made ∙ ap (with_session c.args.lab.id person session) found.1) it),
    ))
    c.from_residual-in_err-set_sessions.result c.from_residual-in_err-set_sessions.ensures.1

pub returns : goal.returns
returns g c =
    and_two c.in_ok-person.ensures c.in_ok-insert_session.ensures c.in_ok-set_sessions.ensures
    (session_added c.args.lab.id (Knows c.args.lab.id c.args.giver) c.args.session.now c.in_ok-person.person.id _ _ _ _)
