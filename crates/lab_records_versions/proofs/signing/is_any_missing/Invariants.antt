use Rattle.std.proofs.Common.{◌≡◌, false, take}
use Rattle.std.specs.List.{list_any}
use Rattle.lab_records_kept.specs.Values.{rows_to}
use Rattle.lab_records_versions.specs.Signing.{is_missing}
use Rattle.lab_records_versions.proofs.signing.is_any_missing.Given as goal

-- of the first fields none is missing
abbrev pub invariant-loop-field : goal.invariant-loop-field
invariant-loop-field l =
    list_any (is_missing (rows_to l.fn.number l.kept)) (take l.field-index l.kept.form.form.fields) ≡ false
