use Rattle.std.proofs.Common.{◌≡◌, map, take, string_bytes}
use Rattle.lab_copy_rows.proofs.rows.CopyRow.of_fields.Given as goal

-- the texts so far
abbrev pub invariant-loop-text : goal.invariant-loop-text
invariant-loop-text l = map string_bytes l.fields.items ≡ map (λ text. text.now) (take l.text-index l.texts)
