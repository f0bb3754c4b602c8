-- What was asked of a laboratory was handled, by its lemma.
use Rattle.lab_desk_events.proofs.Staying.{asked_within}
use Rattle.lab_desk.proofs.HandlingLemmas.{asked_so}
use Rattle.lab_desk.proofs.desk.Desk.handle_asked.Goals as goal

pub returns : goal.returns
returns g c = λ bytes asks.
    let answered = c.answer_asked-answered in
    rw (c.keep.ensures.keeper, ← c.self.view_is, asks)
    (asked_so g.S.Keeper c.self.inside.keeper answered.new.keeper c.args.tick.now c.args.question
    answered.result (λ reply. reply.items) c.keep.result c.keep.new.self.reply (record {
      formed = answered.ensures.formed;
      within = λ within honest reached. asked_within (g.S.Keeper.world c.self.inside.keeper)
          (g.S.Keeper.world answered.new.keeper) c.args.tick.now c.args.question answered.result
          answered.ensures.formed (answered.ensures.ends.passes.live honest)
          (answered.ensures.does within honest reached).after
          (answered.ensures.ends.err honest reached) within;
      told = answered.ensures.reply;
      ends = answered.ensures.ends;
      cause = answered.ensures.cause;
      quiet = answered.ensures.quiet;
      does = answered.ensures.does;
      replied = c.keep.ensures.replied;
      failed = c.keep.ensures.fault;
      named = answered.ensures.asked;
      brings = answered.ensures.legible;
    }))
