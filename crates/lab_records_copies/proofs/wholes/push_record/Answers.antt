use Rattle.std.proofs.Common.{◌∙◌, ap, ◌++◌, ◌∷◌, []}
use Rattle.lab_copy_rows.specs.declared.lines.Line.TheVariants as line
use Rattle.lab_records_copies.specs.CopyLines.{record_line, version_lines}
use Rattle.lab_records_copies.proofs.RowLemmas.{rows_more}
use Rattle.lab_records_copies.proofs.wholes.push_record.Goals as goal

pub loop-version-preserved : goal.loop-version-preserved
loop-version-preserved c =
    let lab = c.args.lab.now in
    let kept = c.args.kept.now in
    c.in_ok-append.ensures.items
    ∙ ap (λ more. c.loop-version.rows.items ++ more) c.in_ok-more.ensures
    ∙ rows_more (version_lines lab kept) (line.Record (record_line lab kept) ∷ []) _ _ kept.versions _
    c.loop-version.version-index _ c.as_slice-version-items.ensures c.loop-version-test.true c.version-item.is
    c.loop-version.invariant
