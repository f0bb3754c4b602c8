-- A key has a value where a row of a version has the key.
use Rattle.std.proofs.Common.{◌≡◌, ◌∙◌, ap, sym, false, List, arith}
use Rattle.std.specs.List.{list_any}
use Rattle.std.proofs.lemmas.Grind.{common_steps}
use Rattle.std.proofs.lemmas.List.Folds.{list_any_at}
use Rattle.lab_seal_versions.specs.declared.rows.EntryRow.{EntryRow}
use Rattle.lab_records_kept.specs.declared.records.Version.{Version}
use Rattle.lab_records_kept.specs.Values.{has_key}
use Rattle.lab_records_versions.proofs.ValueLemmas.{value_found}
use Rattle.lab_records_versions.proofs.entering.has_value.Goals as goal

pub returns-then-is_entered : goal.returns-then-is_entered
returns-then-is_entered c =
    let test = λ (one : Version). list_any (has_key c.args.key.now) one.rows in
    let walked = c.as_slice-version-items.result.now in
    let same : walked ≡ c.args.kept.now.versions = c.as_slice-version-items.ensures in
    let here = ap test (sym c.version-item.is)
    ∙ ap (λ (rows : List EntryRow). list_any (has_key c.args.key.now) rows) (sym c.rows.ensures)
    ∙ sym c.is_entered.ensures ∙ c.if-is_entered.true in
    sym (value_found c.args.kept.now.versions c.args.key.now
    ∙ ap (list_any test) (sym same)
    ∙ list_any_at test walked c.loop-version.version-index c.version-item.result
    c.loop-version-test.true here)

pub returns : goal.returns
returns c =
    let none : list_any (λ (one : Version). list_any (has_key c.args.key.now) one.rows) c.args.kept.now.versions ≡ false =
    grind (arith, common_steps) in
    sym (value_found c.args.kept.now.versions c.args.key.now ∙ none)
