use Rattle.std.proofs.Common.{◌≡◌, take}
use Rattle.std.specs.Prelude.{filter, map}
use Rattle.lab_forms.specs.Forms.{key_of}
use Rattle.lab_records_rules.specs.Latest.{noted}
use Rattle.lab_records_kept.specs.Values.{is_altered_by}
use Rattle.lab_records_rules.proofs.values.altered_by.Given as goal

-- the altered ones of the keys of the first fields
abbrev pub invariant-loop-field : goal.invariant-loop-field
invariant-loop-field l =
    l.keys
    ≡ filter (λ key. is_altered_by (noted l.before key) (noted l.after key))
    (map key_of (take l.field-index l.fields))
