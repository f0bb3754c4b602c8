use Rattle.std.proofs.Common.{arith, subst}
use Rattle.lab_store_write.specs.Calls.{Steps}
use Rattle.lab_store_write.specs.Private.Calls.{Becomes}
use Rattle.lab_store_write.specs.Tried.{Only, TriesToCloseRow, TriesToCloseRows}
use Rattle.lab_store_write.specs.Statements.{closing_session}
use Rattle.lab_store_write.proofs.Trying.{in_turn}
use Rattle.lab_store_write.proofs.Writers.{as_step, turns_begun, turns_on, turns_ended, fails_after, then_fails_by, beside_none}
use Rattle.lab_store_write.specs.Closings.{close_one, ClosesRow}
use Rattle.lab_store_write.proofs.Unread.{row_unread}
use Rattle.lab_store_write.proofs.closings.close_rows.Goals as goal

pub loop-row-init : goal.loop-row-init
loop-row-init g c = turns_begun ClosesRow c.args.tx.now tt

pub loop-row-preserved : goal.loop-row-preserved
loop-row-preserved g c =
    let mid = g.W.Writable.state c.loop-row.tx in
    let new = g.W.Writable.state c.close_session.new.tx in
    turns_on ClosesRow c.args.rows.now c.loop-row.row-index c.loop-row.invariant c.row-item.result c.row-item.is (omega (arith, c.loop-row-test.true))
    (as_step c.in_ok-close_session.ensures (λ closed. subst (λ id. Steps (Becomes (close_one id)) mid new) c.in_ok-session.ensures.value closed))

pub returns-in_err-session : goal.returns-in_err-session
returns-in_err-session g c =
    fails_after c.loop-row.invariant (λ inside clean typed. row_unread c.args.rows.now c.loop-row.row-index c.row-item.result c.row-item.is (omega (arith, c.loop-row-test.true)) _ c.in_err-session.ensures.fault)
    c.from_residual.result c.from_residual.ensures.1

pub returns-in_err-close_session : goal.returns-in_err-close_session
returns-in_err-close_session g c =
    then_fails_by c.loop-row.invariant {tries = Only (closing_session c.in_ok-session.session.id)} {more = TriesToCloseRows c.args.rows.now} (beside_none c.in_err-close_session.ensures)
    (λ before mid tried at made it. in_turn ClosesRow TriesToCloseRow c.args.rows.now c.loop-row.row-index c.row-item.result c.row-item.is (omega (arith, c.loop-row-test.true)) before mid tried at made
    (subst (λ id. Only (closing_session id) mid tried at) c.in_ok-session.ensures.value it))
    c.from_residual-in_err-close_session.result c.from_residual-in_err-close_session.ensures.1

pub returns : goal.returns
returns g c = turns_ended ClosesRow c.args.rows.now c.loop-row.row-index c.loop-row.invariant (omega (arith, c.loop-row-test.false))
