use Rattle.std.proofs.Common.{w64}
use Rattle.std.proofs.lemmas.Int.{to_z-of_z}
use Rattle.lab_store_read.proofs.Readers.{rows_read}
use Rattle.lab_store_read_forms.proofs.KindTexts.{name_means}
use Rattle.lab_store_read_forms.proofs.KindsExact.{names_read}
use Rattle.lab_store_read.proofs.Causes.{asks_so}
use Rattle.lab_store_read_forms.proofs.Causes.{name_fits}
use Rattle.lab_store_read_forms.proofs.choices.name_rows.Goals as goal

pub returns-clause-reads : goal.returns-clause-reads
returns-clause-reads g c =
    rows_read name_means.read (rw (to_z-of_z w64 c.args.field c.ranges.field) at c.rows_by_one.ensures)
    (λ rows. names_read _ _ c.args.field rows.items)

pub returns-clause-cause : goal.returns-clause-cause
returns-clause-cause g c =
    asks_so name_means (name_fits c.args.field) _ _ (rw (to_z-of_z w64 c.args.field c.ranges.field) at c.rows_by_one.ensures)
