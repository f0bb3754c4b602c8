-- The rows of one version more stand in the table.
use Rattle.std.proofs.Common.{◌∙◌, sym, ap, List, Option, take}
use Rattle.std.specs.Option.{option_or}
use Rattle.lab_seal_versions.specs.declared.rows.EntryRow.{EntryRow}
use Rattle.lab_records_rules.specs.Latest.{noted}
use Rattle.lab_records_kept.specs.Values.{all_rows, value_of}
use Rattle.lab_records_rules.proofs.LastRows.{value_of_both, all_rows_more}
use Rattle.lab_records_rules.proofs.values.latest.Goals as goal

pub loop-version-preserved : goal.loop-version-preserved
loop-version-preserved c = λ key.
    let version = c.version-item.result in
    let before = all_rows (take c.loop-version.version-index c.args.versions.now) in
    c.in_ok-note_each.ensures key
    ∙ ap (λ (rows : List EntryRow). option_or (value_of rows key) (noted c.loop-version.table key)) c.rows.ensures
    ∙ ap (λ (old : Option EntryRow). option_or (value_of version.rows key) old) (c.loop-version.invariant key)
    ∙ sym (value_of_both before version.rows key)
    ∙ ap (λ (rows : List EntryRow). value_of rows key)
    (sym (all_rows_more c.args.versions.now c.loop-version.version-index version c.loop-version-test.true c.version-item.is))
