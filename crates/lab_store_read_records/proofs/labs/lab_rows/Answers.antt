use Rattle.lab_store_read.proofs.Readers.{rows_read, rows_kept}
use Rattle.lab_store_read.proofs.Causes.{asks_so}
use Rattle.lab_store_read_records.proofs.Causes.{lab_fits}
use Rattle.lab_store_read_records.proofs.Texts.{lab_means}
use Rattle.lab_store_read_records.proofs.Exact.{labs_read}
use Rattle.lab_store_read_records.proofs.labs.lab_rows.Goals as goal

pub returns : goal.returns
returns g c = record {
  kept = rows_kept lab_means.read c.rows_by_text.ensures;
  reads = rows_read lab_means.read c.rows_by_text.ensures (λ rows. labs_read _ _ c.args.code.now rows.items);
  cause = asks_so lab_means (lab_fits c.args.code.now) _ _ c.rows_by_text.ensures;
}
