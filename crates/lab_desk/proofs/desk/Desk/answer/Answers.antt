-- The answer that was written is the witness; one event is a run by the lemmas of `Running`.
use Rattle.lab_desk_events.proofs.Leaving.{call_leaves, found_leaves, request_lives}
use Rattle.lab_desk_events.proofs.Running.{one_founding, one_call, sent_as}
use Rattle.lab_desk.proofs.desk.Desk.answer.Goals as goal

pub returns-in-Found-clause-answered : goal.returns-in-Found-clause-answered
returns-in-Found-clause-answered g c = λ within honest reached. (
  c.bytes.result.now,
  one_founding _ _ c.args.event.now c.in-Found.lab c.in-Found.tick c.in-Found.body
      c.as_slice.result.now c.answer_founding-line.result.taken c.bytes.result.now _
      c.in-Found.is c.as_slice.ensures c.bytes.ensures
      (c.answer_founding-line.ensures.passes.live honest)
      (c.answer_founding-line.ensures.taken honest reached)
      (c.answer_founding-line.ensures.refused honest reached),
  sent_as _ _ _ _ c.write_whole.ensures.whole c.write_whole.ensures.cut c.write_whole.ensures.short,
)

pub returns-in-Call-clause-answered : goal.returns-in-Call-clause-answered
returns-in-Call-clause-answered g c = λ within honest reached. (
  c.reply.result.now,
  one_call _ _ c.args.event.now c.in-Call.tick c.in-Call.bytes c.as_slice-in-Call.result.now
      c.handle.result c.reply.result.now _
      c.in-Call.is c.as_slice-in-Call.ensures c.reply.ensures (c.handle.ensures.passes.live honest)
      within
      (c.handle.ensures.taken within honest reached) (c.handle.ensures.refused honest reached),
  sent_as _ _ _ _ c.write_whole-in-Call.ensures.whole c.write_whole-in-Call.ensures.cut
      c.write_whole-in-Call.ensures.short,
)

pub returns-in-Found-clause-leaves : goal.returns-in-Found-clause-leaves
returns-in-Found-clause-leaves g c = λ within honest reached.
    found_leaves (g.S.Keeper.world c.args.self.now.keeper)
    (g.S.Keeper.world c.answer_founding-line.new.self.keeper) c.args.event.now c.in-Found.lab c.in-Found.tick c.in-Found.body
    c.as_slice.result.now c.answer_founding-line.result.taken c.in-Found.is c.as_slice.ensures
    (c.answer_founding-line.ensures.crash honest reached)
    (λ taken. (c.answer_founding-line.ensures.taken honest reached taken).after)
    (c.answer_founding-line.ensures.settles honest reached)

pub returns-in-Call-clause-leaves : goal.returns-in-Call-clause-leaves
returns-in-Call-clause-leaves g c = λ within honest reached.
    call_leaves (g.S.Keeper.world c.args.self.now.keeper)
    (g.S.Keeper.world c.handle.new.self.keeper) c.args.event.now c.in-Call.tick c.in-Call.bytes c.as_slice-in-Call.result.now
    c.handle.result c.in-Call.is c.as_slice-in-Call.ensures (record {
      after = λ taken. (c.handle.ensures.taken within honest reached taken).after;
      crash = c.handle.ensures.crash within honest reached;
      quiet = λ idle. c.handle.ensures.quiet idle honest reached;
      durable = c.handle.ensures.durable within honest reached;
    })

pub returns-in-Found-clause-lives : goal.returns-in-Found-clause-lives
returns-in-Found-clause-lives g c = λ within honest reached.
    c.answer_founding-line.ensures.lives honest reached

pub returns-in-Call-clause-lives : goal.returns-in-Call-clause-lives
returns-in-Call-clause-lives g c = λ within honest reached taken.
    request_lives g.S.Keeper.world c.args.self.now.keeper c.handle.new.self.keeper _
    (c.handle.ensures.taken within honest reached taken).lives
    c.handle.ensures.untouched

pub returns-in-Call-clause-stays : goal.returns-in-Call-clause-stays
returns-in-Call-clause-stays g c = c.handle.ensures.stays

pub returns-in-Call-clause-passes : goal.returns-in-Call-clause-passes
returns-in-Call-clause-passes g c = c.handle.ensures.passes
