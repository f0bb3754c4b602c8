-- what is read of the copy has the verdict of the whole
use Rattle.std.proofs.Common.{ap, ◌∙◌}
use Rattle.std.specs.Prelude.{option_map}
use Rattle.csv.specs.Reading.{strip_bom}
use Rattle.lab_copy.specs.Fronts.{front}
use Rattle.lab_copy.proofs.FrontWords.{front_of}
use Rattle.lab_copy.proofs.FrontLemmas.{answers_whole, rows_whole}
use Rattle.lab_copy.proofs.SomeLemmas.{of_verdict}
use Rattle.lab_copy.proofs.checks.check_asking.Goals as goal

pub returns-clause-verdict : goal.returns-clause-verdict
returns-clause-verdict g c =
    let known = g.R.ByteSource.remaining c.args.source.now in
    let source = c.copy_reader-rows.ensures.source
    ∙ ap (λ row. option_map strip_bom (option_map (front row) known)) c.of_text-row.ensures in
    of_verdict known c.check_all-answer.result
    (answers_whole known c.check_all-answer.result (c.check_all-answer.ensures.verdict (option_map front_of known) source))
    c.check_all-answer.ensures.some

pub returns-clause-rows : goal.returns-clause-rows
returns-clause-rows g c =
    let known = g.R.ByteSource.remaining c.args.source.now in
    let source = c.copy_reader-rows.ensures.source
    ∙ ap (λ row. option_map strip_bom (option_map (front row) known)) c.of_text-row.ensures in
    rows_whole known c.check_all-answer.result (c.check_all-answer.ensures.verdict (option_map front_of known) source)
    (c.check_all-answer.ensures.rows (option_map front_of known) source)
