-- Each connection is one visit more; a fault of the server ends the visits so far.
use Rattle.std.proofs.Common.{arith, subst}
use Rattle.std.specs.Io.KnownBytes.{Appends}
use Rattle.std.proofs.lemmas.Result.{err_from_is_err_and}
use Rattle.lab_program_serve.specs.Texts.{listening_line}
use Rattle.lab_program_serve.proofs.TextLemmas.{printed_all}
use Rattle.lab_program_serve.proofs.TimeLemmas.{counts_first, counts_more, serves_cut, serves_done}
use Rattle.lab_program_serve.proofs.serving.serve_over.Goals as goal

pub returns-in_err-announce-clause-served : goal.returns-in_err-announce-clause-served
returns-in_err-announce-clause-served g c =
    let fault = err_from_is_err_and c.from_residual.result c.from_residual.ensures.1 in
    rw fault.1 (serves_cut g.S.Keeper g.O.Opener.opened g.O.Opener.closed g.O.Opener.unopened fault.0 c.args.live_desk.now
    c.args.live_desk.now 0 c.args.count _ _ _ _ _ _ _ _ _ (omega arith)
    (counts_first g.S.Keeper g.O.Opener.opened g.O.Opener.closed g.O.Opener.unopened c.args.live_desk.now _ _ _))

pub loop-init : goal.loop-init
loop-init g c = record {
  bound = omega arith;
  so_far = counts_first g.S.Keeper g.O.Opener.opened g.O.Opener.closed g.O.Opener.unopened c.args.live_desk.now _ _ _;
}

pub returns-in_err-connection-clause-printed : goal.returns-in_err-connection-clause-printed
returns-in_err-connection-clause-printed g c =
    let fault = err_from_is_err_and c.from_residual-in_err-connection.result
    c.from_residual-in_err-connection.ensures.1 in
    rw fault.1 (printed_all
    (listening_line (g.L.Connections.listens_at c.args.connections.now)) _ _
    (subst (λ port. Appends (g.W.Write.contents c.args.output.now)
    (g.W.Write.contents c.announce.new.output) (listening_line port)) c.port.ensures
    c.in_ok-announce.ensures))

pub returns-in_err-connection-clause-served : goal.returns-in_err-connection-clause-served
returns-in_err-connection-clause-served g c =
    let fault = err_from_is_err_and c.from_residual-in_err-connection.result
    c.from_residual-in_err-connection.ensures.1 in
    rw fault.1 (serves_cut g.S.Keeper g.O.Opener.opened g.O.Opener.closed g.O.Opener.unopened fault.0 c.args.live_desk.now c.loop.live_desk
    c.loop.counter c.args.count _ _ _ _ _ _ _ _ _ c.loop.invariant.bound
    c.loop.invariant.so_far)

pub returns-in_err-tick-clause-printed : goal.returns-in_err-tick-clause-printed
returns-in_err-tick-clause-printed g c =
    let fault = err_from_is_err_and c.from_residual-in_err-tick.result
    c.from_residual-in_err-tick.ensures.1 in
    rw fault.1 (printed_all
    (listening_line (g.L.Connections.listens_at c.args.connections.now)) _ _
    (subst (λ port. Appends (g.W.Write.contents c.args.output.now)
    (g.W.Write.contents c.announce.new.output) (listening_line port)) c.port.ensures
    c.in_ok-announce.ensures))

pub returns-in_err-tick-clause-served : goal.returns-in_err-tick-clause-served
returns-in_err-tick-clause-served g c =
    let fault = err_from_is_err_and c.from_residual-in_err-tick.result
    c.from_residual-in_err-tick.ensures.1 in
    rw fault.1 (serves_cut g.S.Keeper g.O.Opener.opened g.O.Opener.closed g.O.Opener.unopened fault.0 c.args.live_desk.now c.loop.live_desk
    c.loop.counter c.args.count _ _ _ _ _ _ _ _ _ c.loop.invariant.bound
    c.loop.invariant.so_far)

pub loop-preserved : goal.loop-preserved
loop-preserved g c = record {
  bound = omega (arith, c.loop-test.true);
  so_far = counts_more g.S.Keeper g.O.Opener.opened g.O.Opener.closed g.O.Opener.unopened c.args.live_desk.now c.loop.live_desk
      c.visit.new.self c.loop.counter _ _ _ _ _ _ _ _ _ _ c.visit.ensures.1
      c.in_ok-connection.ensures.given c.in_ok-tick.ensures.moment c.in_ok-tick.ensures.words
      c.loop.invariant.so_far;
}

pub returns-clause-printed : goal.returns-clause-printed
returns-clause-printed g c =
    subst (λ port. Appends (g.W.Write.contents c.args.output.now)
    (g.W.Write.contents c.announce.new.output) (listening_line port)) c.port.ensures
    c.in_ok-announce.ensures

pub returns-clause-served : goal.returns-clause-served
returns-clause-served g c =
    serves_done g.S.Keeper g.O.Opener.opened g.O.Opener.closed g.O.Opener.unopened _ c.args.live_desk.now c.loop.live_desk c.loop.counter
    c.args.count _ (omega (arith, c.loop-test.false, c.loop.invariant.bound))
    c.loop.invariant.so_far
