use Rattle.std.proofs.Common.{◌≡◌, false, take}
use Rattle.std.specs.List.{list_any}
use Rattle.lab_records_kept.specs.Values.{has_key}
use Rattle.lab_records_versions.proofs.entering.has_value.Given as goal

-- none of the first versions has a row of the key
abbrev pub invariant-loop-version : goal.invariant-loop-version
invariant-loop-version l =
    list_any (λ version. list_any (has_key l.key) version.rows) (take l.version-index l.kept.versions) ≡ false
