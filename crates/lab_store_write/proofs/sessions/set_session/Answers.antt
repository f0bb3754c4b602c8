use Rattle.std.proofs.Common.{inl, inr, Err, refl, subst, arith}
use Rattle.sqlite.specs.State.{HasCleanDisk}
use Rattle.sqlite.specs.declared.error.Error.TheVariants.{QueryReturnedNoRows}
use Rattle.lab_store_write.specs.Causes.{IsRun}
use Rattle.lab_store_write.specs.Givers.{Knows}
use Rattle.lab_store_write.specs.Statements.{setting_session}
use Rattle.lab_store_write.specs.Tried.{Only, TriedFrom, TriesToSetSession}
use Rattle.lab_store_write.proofs.Failing.{fails_here, fails_behind_by, still_on}
use Rattle.lab_store_write.proofs.Trying.{found_first}
use Rattle.lab_store_write.proofs.Writers.{and_then, both, fails_so_by, then_fails_by, fails_after}
use Rattle.lab_store_write.proofs.Added.{session_set}
use Rattle.lab_store_write.proofs.sessions.set_session.Goals as goal

pub returns-in_err-person : goal.returns-in_err-person
returns-in_err-person g c =
    fails_so_by c.in_err-person.ensures {more = TriedFrom (Knows c.args.lab.id c.args.giver) (TriesToSetSession c.args.lab.id c.args.session.now)} (λ before tried at it known. inl it)
    c.from_residual.result c.from_residual.ensures.1

pub returns-in_err-count : goal.returns-in_err-count
returns-in_err-count g c =
    let person = c.in_ok-person.person.id in
    let own = Only (setting_session c.args.lab.id person c.args.session.now) in
    then_fails_by c.in_ok-person.ensures {tries = own} {more = TriedFrom (Knows c.args.lab.id c.args.giver) (TriesToSetSession c.args.lab.id c.args.session.now)} c.in_err-count.ensures.writes
    (λ before mid tried at found it known. inr (person, found.0 known, found_first own found.1 it))
    c.from_residual-in_err-count.result c.from_residual-in_err-count.ensures.1

-- no row was set
pub returns-then-count-eq0 : goal.returns-then-count-eq0
returns-then-count-eq0 g c =
    let state = g.W.Writable.state in
    let mid = state c.person_id_by.new.tx in
    let new = state c.update_session.new.tx in
    let found = c.in_ok-person.ensures in
    let did = c.in_ok-count.ensures in
    let early : HasCleanDisk new → HasCleanDisk mid = λ clean. omega (arith, did.writes.stays.survives.clean) in
    let person = c.in_ok-person.person.id in
    let sent = setting_session c.args.lab.id person c.args.session.now in
    let more = TriedFrom (Knows c.args.lab.id c.args.giver) (TriesToSetSession c.args.lab.id c.args.session.now) in
    fails_after (both found did.writes) {tries = more}
    (λ inside clean typed.
    let one = found.made inside (early clean) in
    let there = one.made typed in
    inr (fails_behind_by state {tries = Only sent} more c.args.tx.now c.person_id_by.new.tx c.update_session.new.tx QueryReturnedNoRows
    (λ tried at it known. inr (person, there.1.0 known, found_first (Only sent) there.1.1 it)) found.stays.survives
    (fails_here state (Only sent) sent c.person_id_by.new.tx c.update_session.new.tx QueryReturnedNoRows (refl, refl) (still_on mid new did.writes.stays.survives one.inside clean there.0)
    (inr (record { told = refl; vain = inl (subst (IsRun sent mid new) c.if-count-eq0.true (did.ran one.inside clean)) })))))
    (Err QueryReturnedNoRows) refl

pub returns : goal.returns
returns g c =
    and_then c.in_ok-person.ensures c.in_ok-count.ensures.writes
    (session_set c.args.lab.id (Knows c.args.lab.id c.args.giver) c.args.session.now c.in_ok-person.person.id c.in_ok-count.count _ _ _
    (omega (arith, c.if-count-eq0.false)))
