-- Where the port isn't known, nothing was served.
use Rattle.std.proofs.Common.{arith}
use Rattle.std.proofs.KnownBytes.{Appends-nil}
use Rattle.std.proofs.lemmas.Result.{err_from_is_err_and}
use Rattle.lab_program_serve.proofs.TimeLemmas.{counts_first, serves_cut}
use Rattle.lab_program_serve.proofs.loopback.serve_listener.Goals as goal

pub returns-in_err-listening-clause-served : goal.returns-in_err-listening-clause-served
returns-in_err-listening-clause-served g c =
    let fault = err_from_is_err_and c.from_residual.result c.from_residual.ensures.1 in
    rw fault.1 (serves_cut g.S.Keeper g.O.Opener.opened g.O.Opener.closed g.O.Opener.unopened fault.0 c.args.live_desk.now
    c.args.live_desk.now 0 c.args.count _ _ _ _ _ _ _ _ _ (omega arith)
    (counts_first g.S.Keeper g.O.Opener.opened g.O.Opener.closed g.O.Opener.unopened c.args.live_desk.now _ _ _))

pub returns-in_err-listening-clause-printed : goal.returns-in_err-listening-clause-printed
returns-in_err-listening-clause-printed g c =
    let fault = err_from_is_err_and c.from_residual.result c.from_residual.ensures.1 in
    rw fault.1 (0, (0, Appends-nil _))
