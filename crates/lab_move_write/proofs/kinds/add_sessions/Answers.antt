use Rattle.std.proofs.Common.{map, arith}
use Rattle.lab_records_kept.specs.declared.changes.Change.TheVariants.{SessionAdded}
use Rattle.lab_store_write.proofs.Givers.{by_nobody}
use Rattle.lab_move_write.proofs.Turns.{nothing_made, item_more, item_fails, items_made, one_made, by_one}
use Rattle.lab_move_write.proofs.kinds.add_sessions.Goals as goal

pub loop-session-init : goal.loop-session-init
loop-session-init g c = nothing_made c.args.lab.id c.args.tx.now tt

pub loop-session-preserved : goal.loop-session-preserved
loop-session-preserved g c =
    item_more c.args.lab.id (map SessionAdded) (by_one SessionAdded) c.args.sessions.now c.loop-session.session-index c.loop-session.invariant c.session-item.result c.session-item.is
    (omega (arith, c.loop-session-test.true)) (one_made c.args.lab.id (SessionAdded c.session-item.result) (by_nobody c.args.lab.id c.in_ok-add_session.ensures))

pub returns-in_err-add_session : goal.returns-in_err-add_session
returns-in_err-add_session g c =
    item_fails c.args.lab.id (map SessionAdded) (by_one SessionAdded) c.args.sessions.now c.loop-session.session-index c.loop-session.invariant (one_made c.args.lab.id (SessionAdded c.session-item.result) (by_nobody c.args.lab.id c.in_err-add_session.ensures))
    c.from_residual.result c.from_residual.ensures.1

pub returns : goal.returns
returns g c =
    items_made c.args.lab.id (map SessionAdded) (by_one SessionAdded) c.args.sessions.now c.loop-session.session-index c.loop-session.invariant (omega (arith, c.loop-session-test.false))
