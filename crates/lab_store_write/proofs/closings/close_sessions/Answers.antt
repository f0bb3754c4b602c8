use Rattle.lab_store_write.specs.Givers.{Knows}
use Rattle.std.proofs.Common.{inl, inr}
use Rattle.lab_store_write.specs.Tried.{TriedFrom, TriesToClose, TriesToCloseOf}
use Rattle.lab_store_write.proofs.Trying.{found_first}
use Rattle.lab_store_write.proofs.Writers.{and_then, fails_so_by, then_fails_by}
use Rattle.lab_store_write.proofs.ClosingLemmas.{closes_of}
use Rattle.lab_store_write.proofs.closings.close_sessions.Goals as goal

pub returns-in_err-person : goal.returns-in_err-person
returns-in_err-person g c =
    fails_so_by c.in_err-person.ensures {more = TriedFrom (Knows c.args.lab.id c.args.giver) (TriesToCloseOf c.args.lab.id c.args.code.now c.args.closing)} (λ before tried at it known. inl it)
    c.from_residual.result c.from_residual.ensures.1

pub returns-in_err-close_meant : goal.returns-in_err-close_meant
returns-in_err-close_meant g c =
    then_fails_by c.in_ok-person.ensures {tries = TriesToClose c.in_ok-person.person.id c.args.closing} {more = TriedFrom (Knows c.args.lab.id c.args.giver) (TriesToCloseOf c.args.lab.id c.args.code.now c.args.closing)}
    c.in_err-close_meant.ensures
    (λ before mid tried at found it known. inr (c.in_ok-person.person.id, found.0 known, found_first (TriesToClose c.in_ok-person.person.id c.args.closing) found.1 it))
    c.from_residual-in_err-close_meant.result c.from_residual-in_err-close_meant.ensures.1

pub returns : goal.returns
returns g c =
    and_then c.in_ok-person.ensures c.in_ok-close_meant.ensures (closes_of c.args.lab.id (Knows c.args.lab.id c.args.giver) c.args.code.now c.args.closing c.in_ok-person.person.id _ _ _)
