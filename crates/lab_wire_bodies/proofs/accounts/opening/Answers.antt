use Rattle.std.proofs.Common.{rules}
use Rattle.lab_wire_bodies.specs.Accounts.{opening_named}
use Rattle.lab_wire_members.proofs.ReadingLemmas.{exit_fault, fault_in_shape, fault_in_turn, first_fault}
use Rattle.lab_wire_bodies.proofs.accounts.opening.Goals as goal

pub returns-in_err-code-clause-fault : goal.returns-in_err-code-clause-fault
unfolding opening_named
returns-in_err-code-clause-fault c =
    exit_fault _ _ _ c.from_residual.ensures.1
    (fault_in_shape _ _ _ (search rules) (first_fault _ _ _ (fault_in_turn _ _ c.in_err-code.ensures.fault)))
