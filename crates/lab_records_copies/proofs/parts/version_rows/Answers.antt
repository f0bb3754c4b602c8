use Rattle.lab_records_copies.proofs.RowLemmas.{version_put}
use Rattle.lab_records_copies.proofs.parts.version_rows.Goals as goal

pub returns : goal.returns
returns c =
    version_put c.args.lab.now c.args.kept.now c.args.version.now _ _ _ _ _ c.new-rows.ensures.items
    c.in_ok-version_row.ensures c.in_ok-push.ensures.items c.in_ok-push_entries.ensures c.in_ok-push_signatures.ensures
