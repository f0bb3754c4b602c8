-- Another was opened, or none could be; and the one that was there was given up.
use Rattle.std.proofs.Common.{◌≡◌, None, Some, rules, subst, sym}
use Rattle.lab_program_serve.specs.Times.{IsMended}
use Rattle.lab_program_serve.proofs.TimeLemmas.{mended_anew, mended_none}
use Rattle.lab_program_serve.proofs.live_desks.LiveDesk.mend.Goals as goal
use Rattle.lab_program_serve.proofs.live_desks.LiveDesk.mend.Goals.{in-Some-1, in-None-1}

pub returns-in-Ok : goal.returns-in-Ok
returns-in-Ok g c =
    let there : c.match-self.self ≡ Some c.in-Ok.desk = elim c.match-self.branch [
      | in-Some-1 w ↦ w.self-is
      | in-None-1 w ↦ w.self-is
    ] in
    subst (IsMended g.S.Keeper g.O.Opener.opened g.O.Opener.closed g.O.Opener.unopened c.args.self.now) (sym there)
    (mended_anew g.S.Keeper g.O.Opener.opened g.O.Opener.closed g.O.Opener.unopened c.args.self.now _ c.in-Ok.desk
    c.is_open.ensures.asked c.give_up.ensures.closed c.in-Ok.ensures.opened.0
    c.in-Ok.ensures.opened.1)

pub returns-in-Err : goal.returns-in-Err
returns-in-Err g c =
    let none : c.self.inside.desk ≡ None = search rules in
    subst (IsMended g.S.Keeper g.O.Opener.opened g.O.Opener.closed g.O.Opener.unopened c.args.self.now) (sym none)
    (mended_none g.S.Keeper g.O.Opener.opened g.O.Opener.closed g.O.Opener.unopened c.args.self.now _
    c.is_open.ensures.asked c.give_up.ensures.closed c.in-Err.ensures.unopened)
