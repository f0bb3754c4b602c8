-- What went out is of the record with the id.
use Rattle.std.proofs.Common.{Some, w64}
use Rattle.std.proofs.lemmas.Int.{to_z-of_z}
use Rattle.lab_store_read_copies.proofs.GivesLemmas.{err_given, ok_given}
use Rattle.lab_store_read_copies.proofs.records.give_filed.Goals as goal

pub returns-in-Ok-clause-gives : goal.returns-in-Ok-clause-gives
returns-in-Ok-clause-gives g c =
    ok_given (Some c.args.cover)
    (rw (to_z-of_z w64 c.args.id c.ranges.id) at c.in-Ok.ensures)

pub returns-in-Err-clause-gives : goal.returns-in-Err-clause-gives
returns-in-Err-clause-gives g c =
    err_given (rw (to_z-of_z w64 c.args.id c.ranges.id) at c.in-Err.ensures)
