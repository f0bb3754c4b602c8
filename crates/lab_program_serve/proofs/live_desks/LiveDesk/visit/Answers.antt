-- The desk that is there serves, or the one for requests that are refused.
use Rattle.std.proofs.Common.{◌≡◌, Some, None, ap, refl, rules, subst, sym}
use Rattle.lab_program_serve.specs.Times.{IsMended, IsNext}
use Rattle.lab_program_serve.proofs.VisitLemmas.{unserved}
use Rattle.lab_program_serve.proofs.live_desks.LiveDesk.visit.Goals as goal

pub returns-in-Some : goal.returns-in-Some
returns-in-Some g c =
    let there : c.mend.new.self ≡ Some c.in-Some.desk = search rules in
    let served = c.serve_connection-ending.ensures in (
      c.serve_connection-ending.new.desk.reply,
      record {
        start = Some c.in-Some.desk;
        mended = subst (IsMended g.S.Keeper g.O.Opener.opened g.O.Opener.closed g.O.Opener.unopened c.args.self.now)
            there c.mend.ensures;
        met = (
          record {
            handled = served.handled;
            untouched = unserved c.serve_connection-ending.result (ap (λ desk. desk.keeper))
                served.untouched;
            sent = served.written;
            stays = served.stays;
            passes = served.passes;
          },
          refl,
        );
      },
    )

pub returns-in-None : goal.returns-in-None
returns-in-None g c =
    let none : c.take.new.self ≡ None = search rules in
    let before : c.mend.new.self ≡ None = search rules in
    let served = c.serve_connection.ensures in (
      c.serve_connection.new.desk.reply,
      subst (IsNext g.S.Keeper g.O.Opener.opened g.O.Opener.closed g.O.Opener.unopened c.args.self.now _) (sym none)
          (record {
            start = None;
            mended = subst (IsMended g.S.Keeper g.O.Opener.opened g.O.Opener.closed g.O.Opener.unopened c.args.self.now)
                before c.mend.ensures;
            met = record {
              old = c.self.inside.shut.keeper;
              new = c.serve_connection.new.desk.keeper;
              handled = served.handled;
              sent = served.written;
            };
          }),
    )
