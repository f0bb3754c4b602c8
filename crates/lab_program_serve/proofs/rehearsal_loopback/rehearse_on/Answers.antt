-- Before the request nothing is printed; then what the client got.
use Rattle.std.proofs.Common.{[]}
use Rattle.std.proofs.KnownBytes.{Appends-nil}
use Rattle.lab_program_serve.proofs.RehearsalLemmas.{forwarded}
use Rattle.lab_program_serve.proofs.rehearsal_loopback.rehearse_on.Goals as goal

pub returns-in_err-listener : goal.returns-in_err-listener
returns-in_err-listener g c = ([], Appends-nil _)

pub returns-in_err-listening : goal.returns-in_err-listening
returns-in_err-listening g c = ([], Appends-nil _)

pub returns-in_err-client : goal.returns-in_err-client
returns-in_err-client g c = ([], Appends-nil _)

pub returns : goal.returns
returns g c = forwarded _ c.rehearse_over.result _ _ c.rehearse_over.ensures.printed
