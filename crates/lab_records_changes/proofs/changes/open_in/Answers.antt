-- The record of the number is the first that has it, and its place is where the search ended.
use Rattle.std.proofs.Common.{◌≡◌, ◌∙◌, sym, ap, get_or, Option, Some, None}
use Rattle.std.specs.Prelude.{is_some, position, slice_set}
use Rattle.std.proofs.lemmas.Result.{on_ok_weaker, on_err_weaker}
use Rattle.lab_records_kept.specs.declared.records.Record.{Record}
use Rattle.lab_records_kept.specs.Lookups.{has_number}
use Rattle.lab_records_kept.specs.Changes.{opened_in}
use Rattle.lab_records_changes.proofs.Finding.{found_at}
use Rattle.lab_records_changes.proofs.Replacing.{in_record_at, in_record_none}
use Rattle.lab_records_changes.proofs.changes.open_in.Goals as goal

pub returns-in_default-clause-ok : goal.returns-in_default-clause-ok
returns-in_default-clause-ok c =
    let none : position (has_number c.args.number) c.args.records.now ≡ None = cc in
    sym (in_record_none c.args.number (opened_in c.args.version.now) c.args.records.now none)

pub returns-clause-ok : goal.returns-clause-ok
returns-clause-ok c =
    let records = c.args.records.now in
    let place = c.in-Some.place in
    let found : position (has_number c.args.number) records ≡ Some place = cc in
    on_ok_weaker c.open.result
    (λ (made : c.open.new.kept ≡ opened_in c.args.version.now (get_or records place c.index-records-place.result)). ap (λ (next : Record). slice_set records place next)
    (made ∙ ap (opened_in c.args.version.now) (sym c.index-records-place.is))
    ∙ sym (in_record_at c.args.number (opened_in c.args.version.now) records place
    c.index-records-place.result found c.index-records-place.is)) c.open.ensures.ok

pub returns-clause-memory : goal.returns-clause-memory
returns-clause-memory c =
    let records = c.args.records.now in
    let place = c.in-Some.place in
    let found : position (has_number c.args.number) records ≡ Some place = cc in
    let there = found_at (has_number c.args.number) records place c.index-records-place.result found c.index-records-place.is in
    on_err_weaker c.open.result
    (λ (same : c.open.new.kept ≡ get_or records place c.index-records-place.result).
    ap (λ (kept : Option Record). is_some kept) there)
    c.open.ensures.err
