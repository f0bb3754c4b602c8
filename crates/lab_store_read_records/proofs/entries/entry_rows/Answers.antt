use Rattle.std.proofs.Common.{w64}
use Rattle.std.proofs.lemmas.Int.{to_z-of_z}
use Rattle.lab_store_read_records.proofs.Texts.{entry_means}
use Rattle.lab_store_read_records.proofs.Exact.{entries_read}
use Rattle.lab_store_read.proofs.Readers.{rows_read}
use Rattle.lab_store_read.proofs.Causes.{asks_so}
use Rattle.lab_store_read_records.proofs.Causes.{entry_fits}
use Rattle.lab_store_read_records.proofs.entries.entry_rows.Goals as goal

pub returns-clause-reads : goal.returns-clause-reads
returns-clause-reads g c =
    rows_read entry_means.read (rw (to_z-of_z w64 c.args.version c.ranges.version) at c.rows_by_one.ensures)
    (λ rows. entries_read _ _ c.args.version rows.items)

pub returns-clause-cause : goal.returns-clause-cause
returns-clause-cause g c =
    asks_so entry_means (entry_fits c.args.version) _ _ (rw (to_z-of_z w64 c.args.version c.ranges.version) at c.rows_by_one.ensures)
