use Rattle.std.proofs.Common.{w64}
use Rattle.std.proofs.lemmas.Int.{to_z-of_z}
use Rattle.lab_store_read.proofs.Readers.{rows_read}
use Rattle.lab_store_read.proofs.Texts.{code_means}
use Rattle.lab_store_read.proofs.Exact.{codes_read}
use Rattle.lab_store_read.proofs.Causes.{asks_so}
use Rattle.lab_store_read.proofs.CodeCauses.{code_fits}
use Rattle.lab_store_read.proofs.codes.code_rows.Goals as goal

pub returns-clause-reads : goal.returns-clause-reads
returns-clause-reads g c =
    rows_read code_means.read (rw (to_z-of_z w64 c.args.id c.ranges.id) at c.rows_by_one.ensures) (λ rows. codes_read _ _ c.args.id rows.items)

pub returns-clause-cause : goal.returns-clause-cause
returns-clause-cause g c = asks_so code_means (code_fits c.args.id) _ _ (rw (to_z-of_z w64 c.args.id c.ranges.id) at c.rows_by_one.ensures)
