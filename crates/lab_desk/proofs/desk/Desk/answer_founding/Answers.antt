-- A founding was taken where a laboratory was founded, and where its refusal is told.
use Rattle.lab_desk_foundings.specs.Foundings.{founding_in}
use Rattle.lab_desk_foundings.proofs.Bearing.{takes_founded, takes_refused}
use Rattle.std.proofs.Common.{inl}
use Rattle.lab_desk_events.proofs.Lasting.{still_stays}
use Rattle.lab_desk_events.proofs.Leaving.{lives_refused, settles_refused}
use Rattle.lab_desk.proofs.desk.Desk.answer_founding.Goals as goal
use Rattle.lab_desk.proofs.desk.Desk.answer_founding.Goals.{in-Ok-found, in-Err}

pub returns-clause-taken : goal.returns-clause-taken
returns-clause-taken g c = λ honest reached taken. elim c.match-found.branch [
  | in-Ok-found w ↦ rw w.result-is (takes_founded (g.S.Keeper.world c.args.self.now.keeper)
      (g.S.Keeper.world c.found.new.self.keeper)
      (g.S.Keeper.places c.args.self.now.keeper c.found.new.self.keeper)
      c.args.lab.now c.args.tick.now (founding_in c.args.body.now) _ c.found.result _
      w.in-Ok-found.is (c.found.ensures.founds.founded honest reached)
      (c.found.ensures.founds.lives honest reached) c.in-Ok.ensures)
  | in-Err w ↦ rw w.result-is (takes_refused g.S.Keeper.world c.args.self.now.keeper
      c.found.new.self.keeper
      c.args.lab.now c.args.tick.now (founding_in c.args.body.now) _ c.found.result _
      honest reached w.in-Err.is (w.line_of_fault.ensures.taken (rw w.result-is at taken))
      c.found.ensures.founds.fault c.found.ensures.founds.untouched (c.found.ensures.founds.lives honest reached)
      (c.found.ensures.founds.err honest reached))
]

pub returns-clause-settles : goal.returns-clause-settles
returns-clause-settles g c = λ honest reached taken. elim c.match-found.branch [
  | in-Ok-found w ↦ inl (rw w.in-Ok-found.is at c.found.ensures.founds.durable honest reached)
  | in-Err w ↦ settles_refused g.S.Keeper.world c.args.self.now.keeper c.found.new.self.keeper
      c.found.result _ w.in-Err.is (w.line_of_fault.ensures.taken (rw w.result-is at taken)).0
      (c.found.ensures.founds.quiet honest reached) (c.found.ensures.founds.err honest reached)
      c.found.ensures.founds.untouched (c.found.ensures.founds.lives honest reached)
]

pub returns-clause-lives : goal.returns-clause-lives
returns-clause-lives g c = λ honest reached taken live. elim c.match-found.branch [
  | in-Ok-found w ↦ (rw w.in-Ok-found.is at c.found.ensures.founds.lives honest reached).1
  | in-Err w ↦ lives_refused g.S.Keeper.world c.args.self.now.keeper c.found.new.self.keeper
      c.found.result _ w.in-Err.is (w.line_of_fault.ensures.taken (rw w.result-is at taken)).0
      c.found.ensures.founds.untouched (c.found.ensures.founds.lives honest reached) live
]

pub returns-in_default-clause-crash : goal.returns-in_default-clause-crash
returns-in_default-clause-crash g c = λ honest reached live held left. inl left

pub returns-in_default-clause-stays : goal.returns-in_default-clause-stays
returns-in_default-clause-stays g c = λ honest reached.
    still_stays (g.S.Keeper.world c.args.self.now.keeper) reached
