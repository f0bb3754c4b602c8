use Rattle.serde_json.specs.View.{view, members_view}
use Rattle.lab_wire_replies.proofs.MemberLemmas.{one_more}
use Rattle.lab_wire_replies.proofs.members.put_all.Goals as goal

pub loop-one-preserved : goal.loop-one-preserved
loop-one-preserved c =
    one_more c.args.more.now c.loop-one.one-index c.one-item.result (view c.in_ok-told_value.field-0)
    (members_view c.args.members.now.entries) (members_view c.loop-one.members.entries)
    (members_view c.put.new.members.entries) c.loop-one-test.true c.one-item.is c.loop-one.invariant
    c.in_ok-told_value.ensures c.in_ok-put.ensures
