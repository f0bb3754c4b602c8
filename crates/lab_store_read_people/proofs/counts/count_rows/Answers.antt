use Rattle.std.proofs.Common.{w64}
use Rattle.std.proofs.lemmas.Int.{to_z-of_z}
use Rattle.lab_store_read.proofs.Readers.{rows_read}
use Rattle.lab_store_read.proofs.Causes.{asks_so}
use Rattle.lab_store_read_people.proofs.PersonTexts.{count_means}
use Rattle.lab_store_read_people.proofs.PersonsExact.{counts_read}
use Rattle.lab_store_read_people.proofs.CountCauses.{count_fits}
use Rattle.lab_store_read_people.proofs.counts.count_rows.Goals as goal

pub returns-clause-reads : goal.returns-clause-reads
returns-clause-reads g c =
    rows_read count_means.read (rw (to_z-of_z w64 c.args.lab c.ranges.lab) at c.rows_by_one.ensures)
    (λ rows. counts_read _ _ c.args.lab rows.items)

pub returns-clause-cause : goal.returns-clause-cause
returns-clause-cause g c = asks_so count_means (count_fits c.args.lab) _ _ (rw (to_z-of_z w64 c.args.lab c.ranges.lab) at c.rows_by_one.ensures)
