use Rattle.std.proofs.Common.{w64}
use Rattle.std.proofs.lemmas.Int.{to_z-of_z}
use Rattle.lab_store_read.proofs.Readers.{rows_read}
use Rattle.lab_store_read_records.proofs.RetrievalTexts.{about_means}
use Rattle.lab_store_read_records.proofs.RetrievalExact.{abouts_read}
use Rattle.lab_store_read.proofs.Causes.{asks_so}
use Rattle.lab_store_read_records.proofs.Causes.{about_fits}
use Rattle.lab_store_read_records.proofs.retrieved_records.about_rows.Goals as goal

pub returns-clause-reads : goal.returns-clause-reads
returns-clause-reads g c =
    rows_read about_means.read (rw (to_z-of_z w64 c.args.lab c.ranges.lab) at c.rows_by_key.ensures)
    (λ rows. abouts_read _ _ c.args.lab c.args.form.now c.args.sample.now rows.items)

pub returns-clause-cause : goal.returns-clause-cause
returns-clause-cause g c =
    asks_so about_means (about_fits c.args.lab c.args.form.now c.args.sample.now) _ _ (rw (to_z-of_z w64 c.args.lab c.ranges.lab) at c.rows_by_key.ensures)
