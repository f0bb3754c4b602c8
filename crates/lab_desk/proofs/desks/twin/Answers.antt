-- Each call's own clauses, put together by the lemmas of `Agreeing`.
use Rattle.std.proofs.Common.{sym, ◌∙◌}
use Rattle.lab_wire.specs.declared.replies.Answer.TheVariants.{Refused}
use Rattle.lab_wire.specs.Replies.{reply_text}
use Rattle.lab_wire.specs.Asked.{asked}
use Rattle.lab_desk.proofs.Agreeing.{same_but_for_memory, same_reply, still_agree, stays_elsewhere}
use Rattle.lab_desk.proofs.desks.twin.Goals as goal

pub returns-clause-replies : goal.returns-clause-replies
returns-clause-replies g c = λ within other_within honest reached other_honest other_reached taken agree.
    let one = c.handle in
    let two = c.handle-2 in
    same_reply (g.S.Keeper.world c.args.desk.now.keeper) (g.S.Keeper.world one.new.self.keeper)
    (g.T.Keeper.world c.args.other.now.keeper) (g.T.Keeper.world two.new.self.keeper)
    c.args.tick.now (asked c.args.bytes.now) one.new.self.reply two.new.self.reply
    (one.ensures.taken within honest reached taken.0)
    (two.ensures.taken other_within other_honest other_reached taken.1) agree

pub returns-clause-agree : goal.returns-clause-agree
returns-clause-agree g c = λ within other_within honest reached other_honest other_reached alike code agree live other_live.
    let one = c.handle in
    let two = c.handle-2 in
    still_agree (g.S.Keeper.world c.args.desk.now.keeper) (g.S.Keeper.world one.new.self.keeper)
    (g.T.Keeper.world c.args.other.now.keeper) (g.T.Keeper.world two.new.self.keeper)
    c.args.tick.now (asked c.args.bytes.now) one.result one.new.self.reply two.new.self.reply code
    (one.ensures.taken within honest reached) (one.ensures.refused honest reached)
    (λ taken. two.ensures.taken other_within other_honest other_reached (sym alike ∙ taken))
    (λ refused. two.ensures.refused other_honest other_reached (sym alike ∙ refused))
    live other_live
    (agree (one.ensures.passes.live honest live)
    (two.ensures.passes.live other_honest other_live))

pub returns-clause-elsewhere : goal.returns-clause-elsewhere
returns-clause-elsewhere g c = λ within other_within honest reached other_honest other_reached code elsewhere agree live other_live.
    let one = c.handle in
    let two = c.handle-2 in
    stays_elsewhere (g.S.Keeper.world c.args.desk.now.keeper)
    (g.S.Keeper.world one.new.self.keeper) c.args.tick.now (asked c.args.bytes.now) one.result
    one.new.self.reply code (one.ensures.taken within honest reached)
    (one.ensures.refused honest reached) elsewhere live
    ∙ agree (one.ensures.passes.live honest live)
    (two.ensures.passes.live other_honest other_live)
    ∙ sym (stays_elsewhere (g.T.Keeper.world c.args.other.now.keeper)
    (g.T.Keeper.world two.new.self.keeper) c.args.tick.now (asked c.args.bytes.now) two.result
    two.new.self.reply code (two.ensures.taken other_within other_honest other_reached)
    (two.ensures.refused other_honest other_reached) elsewhere other_live)

pub returns-clause-nobodys : goal.returns-clause-nobodys
returns-clause-nobodys g c = λ refusal is.
    same_but_for_memory c.handle.new.self.reply c.handle-2.new.self.reply
    (reply_text c.args.tick.now (Refused refusal)) (c.handle.ensures.nobodys refusal is)
    (c.handle-2.ensures.nobodys refusal is)
