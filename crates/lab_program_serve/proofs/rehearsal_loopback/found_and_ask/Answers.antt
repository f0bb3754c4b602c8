-- A founding that is refused prints nothing; after it all is printed that the client got.
use Rattle.std.proofs.Common.{[]}
use Rattle.std.proofs.KnownBytes.{Appends-nil}
use Rattle.std.proofs.lemmas.Result.{err_from_is_err_and}
use Rattle.lab_program_serve.proofs.RehearsalLemmas.{prints_any, prints_none, unfounded_server}
use Rattle.lab_program_serve.proofs.rehearsal_loopback.found_and_ask.Goals as goal

pub returns-in_err-desk-clause-founded : goal.returns-in_err-desk-clause-founded
returns-in_err-desk-clause-founded g c =
    let fault = err_from_is_err_and c.from_residual.result c.from_residual.ensures.1 in
    let founded = c.in_err-desk.ensures in
    (founded.0, founded.1, rw (fault.1, fault.2) founded.2.1)

pub returns-in_err-desk-clause-printed : goal.returns-in_err-desk-clause-printed
returns-in_err-desk-clause-printed g c =
    let fault = err_from_is_err_and c.from_residual.result c.from_residual.ensures.1 in
    ([], rw fault.1 (prints_none fault.0), Appends-nil _)

pub returns-in_err-rehearse_on-clause-founded : goal.returns-in_err-rehearse_on-clause-founded
returns-in_err-rehearse_on-clause-founded g c =
    let fault = err_from_is_err_and c.from_residual-in_err-rehearse_on.result
    c.from_residual-in_err-rehearse_on.ensures.1 in
    rw fault.1 (unfounded_server (g.B.Read.remaining c.args.body.now) c.args.lab.now _ fault.0
    fault.2)

pub returns-in_err-rehearse_on-clause-printed : goal.returns-in_err-rehearse_on-clause-printed
returns-in_err-rehearse_on-clause-printed g c =
    let fault = err_from_is_err_and c.from_residual-in_err-rehearse_on.result
    c.from_residual-in_err-rehearse_on.ensures.1 in
    let written = c.rehearse_on.ensures in
    (written.0, rw fault.1 (prints_any _ fault.0 written.0 fault.2), written.1)

pub returns-clause-founded : goal.returns-clause-founded
returns-clause-founded g c =
    let founded = c.in_ok-desk.ensures in
    (founded.0, founded.1, (founded.2.0.0, founded.2.0.1))

pub returns-clause-printed : goal.returns-clause-printed
returns-clause-printed g c = (c.rehearse_on.ensures.0, tt, c.rehearse_on.ensures.1)
