-- The record of the number is the first that has it, and its place is where the search ended.
use Rattle.std.proofs.Common.{◌≡◌, ◌∙◌, sym, ap, get_or, Option, Some, None}
use Rattle.std.specs.Prelude.{IsSome, is_some, option_and_then, position, slice_set}
use Rattle.std.proofs.lemmas.Result.{on_ok_weaker, on_err_weaker}
use Rattle.lab_records_kept.specs.declared.records.Record.{Record}
use Rattle.lab_records_kept.specs.Lookups.{has_number, version_of}
use Rattle.lab_records_kept.specs.Changes.{signed_in}
use Rattle.lab_records_changes.proofs.Finding.{found_at}
use Rattle.lab_records_changes.proofs.Replacing.{in_record_at, in_record_none}
use Rattle.lab_records_changes.proofs.changes.sign_in.Goals as goal

pub returns-in_default-clause-ok : goal.returns-in_default-clause-ok
returns-in_default-clause-ok c =
    let none : position (has_number c.args.number) c.args.records.now ≡ None = cc in
    sym (in_record_none c.args.number (signed_in c.args.version c.args.signature.now) c.args.records.now none)

pub returns-clause-ok : goal.returns-clause-ok
returns-clause-ok c =
    let records = c.args.records.now in
    let place = c.in-Some.place in
    let found : position (has_number c.args.number) records ≡ Some place = cc in
    on_ok_weaker c.sign.result
    (λ (made : c.sign.new.kept ≡ signed_in c.args.version c.args.signature.now (get_or records place c.index-records-place.result)). ap (λ (next : Record). slice_set records place next)
    (made ∙ ap (signed_in c.args.version c.args.signature.now) (sym c.index-records-place.is))
    ∙ sym (in_record_at c.args.number (signed_in c.args.version c.args.signature.now) records place
    c.index-records-place.result found c.index-records-place.is)) c.sign.ensures.ok

pub returns-clause-memory : goal.returns-clause-memory
returns-clause-memory c =
    let records = c.args.records.now in
    let place = c.in-Some.place in
    let found : position (has_number c.args.number) records ≡ Some place = cc in
    let there = found_at (has_number c.args.number) records place c.index-records-place.result found c.index-records-place.is
    ∙ ap (λ (kept : Record). Some kept) c.index-records-place.is in
    on_err_weaker c.sign.result
    (λ (some : IsSome (version_of (get_or records place c.index-records-place.result).versions c.args.version)).
    ap (λ (kept : Option Record). is_some (option_and_then (λ one. version_of one.versions c.args.version) kept))
    there ∙ some) c.sign.ensures.memory
