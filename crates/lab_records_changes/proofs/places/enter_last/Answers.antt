-- The last version stands in the last place.
use Rattle.std.proofs.Common.{◌≡◌, ◌+◌, ◌-◌, ◌∙◌, sym, ap, get_or, length, arith}
use Rattle.std.specs.Prelude.{slice_set}
use Rattle.std.proofs.lemmas.Result.{on_ok_weaker}
use Rattle.lab_records_kept.specs.declared.records.Version.{Version}
use Rattle.lab_records_kept.specs.Changes.{with_row}
use Rattle.lab_records_changes.proofs.Replacing.{in_last_at}
use Rattle.lab_records_changes.proofs.places.enter_last.Goals as goal

pub returns-clause-ok : goal.returns-clause-ok
returns-clause-ok c =
    let versions = c.args.versions.now in
    let place = length versions - 1 in
    let some = c.if-count-eq0.false in
    let long : length versions ≡ place + 1 = omega arith in
    on_ok_weaker c.enter_version.result
    (λ (made : c.enter_version.new.version ≡ with_row c.args.row.now (get_or versions place c.index-versions-count.result)). ap (λ (next : Version). slice_set versions place next)
    (made ∙ ap (with_row c.args.row.now) (sym c.index-versions-count.is))
    ∙ sym (in_last_at (with_row c.args.row.now) versions place c.index-versions-count.result long
    c.index-versions-count.is)) c.enter_version.ensures.ok
