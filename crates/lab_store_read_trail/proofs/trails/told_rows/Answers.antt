use Rattle.std.proofs.Common.{w64}
use Rattle.std.proofs.lemmas.Int.{to_z-of_z}
use Rattle.lab_store_read.proofs.Causes.{asks_so}
use Rattle.lab_store_read.proofs.Readers.{rows_read}
use Rattle.lab_store_read_trail.proofs.Texts.{told_means}
use Rattle.lab_store_read_trail.proofs.Exact.{told_rows_read}
use Rattle.lab_store_read_trail.proofs.TrailCauses.{told_fits}
use Rattle.lab_store_read_trail.proofs.trails.told_rows.Goals as goal

pub returns-clause-reads : goal.returns-clause-reads
returns-clause-reads g c =
    rows_read told_means.read (rw (to_z-of_z w64 c.args.lab c.ranges.lab) at c.rows_by_range.ensures)
    (λ rows. told_rows_read _ _ c.args.lab c.args.from c.args.to rows.items)

pub returns-clause-cause : goal.returns-clause-cause
returns-clause-cause g c =
    asks_so told_means (told_fits c.args.lab c.args.from c.args.to) _ _ (rw (to_z-of_z w64 c.args.lab c.ranges.lab) at c.rows_by_range.ensures)
