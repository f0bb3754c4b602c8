use Rattle.std.proofs.Common.{◌≡◌, take}
use Rattle.std.specs.List.{filter_map}
use Rattle.lab_forms.specs.Forms.{key_of}
use Rattle.lab_records_rules.specs.Latest.{noted}
use Rattle.lab_records_rules.proofs.values.values_by.Given as goal

-- the rows under the keys of the first fields
abbrev pub invariant-loop-field : goal.invariant-loop-field
invariant-loop-field l =
    l.rows ≡ filter_map (λ field. noted l.table (key_of field)) (take l.field-index l.fields)
