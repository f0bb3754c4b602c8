use Rattle.std.proofs.Common.{◌∙◌, ap, option_and_then}
use Rattle.std.specs.Prelude.{position, slice_get}
use Rattle.lab_records_kept.specs.declared.records.Record.{Record}
use Rattle.lab_records_kept.specs.Lookups.{is_numbered}
use Rattle.lab_records_kept.proofs.FoundLemmas.{found_in_place}
use Rattle.lab_records_kept.proofs.found.FoundRecord.place_of.Goals as goal

-- what stands in the place is the version that was sought
pub returns-clause-value : goal.returns-clause-value
returns-clause-value c =
    let versions = c.args.self.now.versions in
    let seen = c.as_slice.ensures ∙ ap (λ (kept : Record). kept.versions) c.self.view_is in
    ap (option_and_then (slice_get versions))
    (c.place_of_version.ensures.place ∙ ap (position (is_numbered c.args.number)) seen)
    ∙ found_in_place (is_numbered c.args.number) versions
