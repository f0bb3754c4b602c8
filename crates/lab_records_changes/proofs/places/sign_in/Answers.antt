-- The version of the number is the first that has it, and its place is where the search ended.
use Rattle.std.proofs.Common.{◌≡◌, ◌∙◌, sym, ap, get_or, Option, Some, None}
use Rattle.std.specs.Prelude.{is_some, position, slice_set}
use Rattle.std.proofs.lemmas.Result.{on_ok_weaker, on_err_weaker}
use Rattle.lab_records_kept.specs.declared.records.Version.{Version}
use Rattle.lab_records_kept.specs.Lookups.{is_numbered}
use Rattle.lab_records_kept.specs.Changes.{with_signature}
use Rattle.lab_records_changes.proofs.Finding.{found_at}
use Rattle.lab_records_changes.proofs.Replacing.{in_version_at, in_version_none}
use Rattle.lab_records_changes.proofs.places.sign_in.Goals as goal

pub returns-in_default-clause-ok : goal.returns-in_default-clause-ok
returns-in_default-clause-ok c =
    let none : position (is_numbered c.args.number) c.args.versions.now ≡ None = cc in
    sym (in_version_none c.args.number (with_signature c.args.signature.now) c.args.versions.now none)

pub returns-clause-ok : goal.returns-clause-ok
returns-clause-ok c =
    let versions = c.args.versions.now in
    let place = c.in-Some.place in
    let found : position (is_numbered c.args.number) versions ≡ Some place = cc in
    on_ok_weaker c.sign_version.result
    (λ (made : c.sign_version.new.version ≡ with_signature c.args.signature.now (get_or versions place c.index-versions-place.result)). ap (λ (next : Version). slice_set versions place next)
    (made ∙ ap (with_signature c.args.signature.now) (sym c.index-versions-place.is))
    ∙ sym (in_version_at c.args.number (with_signature c.args.signature.now) versions place
    c.index-versions-place.result found c.index-versions-place.is)) c.sign_version.ensures.ok

pub returns-clause-memory : goal.returns-clause-memory
returns-clause-memory c =
    let versions = c.args.versions.now in
    let found : position (is_numbered c.args.number) versions ≡ Some c.in-Some.place = cc in
    let there = found_at (is_numbered c.args.number) versions c.in-Some.place
    c.index-versions-place.result found c.index-versions-place.is in
    on_err_weaker c.sign_version.result
    (λ (same : c.sign_version.new.version ≡ get_or versions c.in-Some.place c.index-versions-place.result). ap (λ (one : Option Version). is_some one) there)
    c.sign_version.ensures.err
