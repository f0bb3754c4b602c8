use Rattle.std.proofs.Common.{w64}
use Rattle.std.proofs.lemmas.Int.{to_z-of_z}
use Rattle.lab_store_read_records.proofs.Texts.{version_means}
use Rattle.lab_store_read_records.proofs.Exact.{versions_read}
use Rattle.lab_store_read.proofs.Readers.{rows_read}
use Rattle.lab_store_read.proofs.Causes.{asks_so}
use Rattle.lab_store_read_records.proofs.Causes.{version_fits}
use Rattle.lab_store_read_records.proofs.versions.version_rows.Goals as goal

pub returns-clause-reads : goal.returns-clause-reads
returns-clause-reads g c =
    rows_read version_means.read (rw (to_z-of_z w64 c.args.kept c.ranges.kept) at c.rows_by_one.ensures)
    (λ rows. versions_read _ _ c.args.kept rows.items)

pub returns-clause-cause : goal.returns-clause-cause
returns-clause-cause g c =
    asks_so version_means (version_fits c.args.kept) _ _ (rw (to_z-of_z w64 c.args.kept c.ranges.kept) at c.rows_by_one.ensures)
