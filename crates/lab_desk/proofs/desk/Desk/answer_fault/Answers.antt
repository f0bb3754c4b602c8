-- What was refused and what there was no memory for, each by its lemma.
use Rattle.std.proofs.Common.{◌≡◌, Err}
use Rattle.lab_wire.specs.Asked.{asked}
use Rattle.lab_desk.proofs.HandlingLemmas.{exhausted_so, refused_so}
use Rattle.lab_desk.proofs.desk.Desk.answer_fault.Goals as goal

pub returns-in-Refused : goal.returns-in-Refused
returns-in-Refused g c = λ bytes fits.
    let none : asked bytes ≡ Err c.in-Refused.refusal = rw c.in-Refused.is at fits in
    rw (c.refuse.ensures.keeper, none)
    (refused_so g.S.Keeper c.args.self.now.keeper c.args.tick.now c.refuse.result
    c.refuse.new.self.reply (g.met.S.Keeper.still c.args.self.now.keeper)
    c.in-Refused.refusal c.refuse.ensures.replied c.refuse.ensures.memory)

pub returns-in-Memory : goal.returns-in-Memory
returns-in-Memory g c = λ bytes fits.
    rw c.exhaust.ensures.keeper
    (exhausted_so g.S.Keeper c.args.self.now.keeper c.args.tick.now c.exhaust.result
    c.exhaust.new.self.reply (g.met.S.Keeper.still c.args.self.now.keeper)
    (asked bytes) c.exhaust.ensures.refused c.exhaust.ensures.reply)
