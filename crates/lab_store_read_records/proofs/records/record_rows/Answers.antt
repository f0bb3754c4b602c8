use Rattle.std.proofs.Common.{w64}
use Rattle.std.proofs.lemmas.Int.{to_z-of_z}
use Rattle.lab_store_read_records.proofs.Texts.{record_means}
use Rattle.lab_store_read_records.proofs.Exact.{records_read}
use Rattle.lab_store_read.proofs.Readers.{rows_read}
use Rattle.lab_store_read.proofs.Causes.{asks_so}
use Rattle.lab_store_read_records.proofs.Causes.{record_fits}
use Rattle.lab_store_read_records.proofs.records.record_rows.Goals as goal

pub returns-clause-reads : goal.returns-clause-reads
returns-clause-reads g c =
    rows_read record_means.read (rw (to_z-of_z w64 c.args.lab c.ranges.lab) at c.rows_by_two.ensures)
    (λ rows. records_read _ _ c.args.lab c.args.number rows.items)

pub returns-clause-cause : goal.returns-clause-cause
returns-clause-cause g c =
    asks_so record_means (record_fits c.args.lab c.args.number) _ _ (rw (to_z-of_z w64 c.args.lab c.ranges.lab) at c.rows_by_two.ensures)
