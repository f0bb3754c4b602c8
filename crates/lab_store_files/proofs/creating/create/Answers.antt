use Rattle.std.proofs.Common.{ap}
use Rattle.lab_store_tables.specs.Rows.{Tables}
use Rattle.lab_store_tables.specs.Meaning.{meaning}
use Rattle.lab_store_files.proofs.Making.{file_is_kept}
use Rattle.lab_store_files.proofs.creating.create.Goals as goal

pub returns-clause-ready : goal.returns-clause-ready
returns-clause-ready g c clean blank =
    let it = c.in_ok-make_file.ensures in
    record { at_rest = it.ends.at_rest; kept = λ _ _. file_is_kept _ (it.made clean blank).1 }

pub returns-clause-nobody : goal.returns-clause-nobody
returns-clause-nobody g c clean blank code = ap (λ (t : Tables). meaning t code) (c.in_ok-make_file.ensures.made clean blank).1.tables
