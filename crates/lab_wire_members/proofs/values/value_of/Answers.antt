use Rattle.std.proofs.Common.{refl}
use Rattle.std.proofs.lemmas.Str.{is_utf8-from_IsUtf8, IsUtf8-from_is_utf8}
use Rattle.lab_wire_members.proofs.ValueLemmas.{json_of-some, json_of-none}
use Rattle.lab_wire_members.proofs.values.value_of.Goals as goal

pub returns-in-Ok-clause-read : goal.returns-in-Ok-clause-read
returns-in-Ok-clause-read c = json_of-some _ _ (is_utf8-from_IsUtf8 _ c.in-Ok.ensures.ok.0) c.in-Ok.ensures.ok.1

pub returns-in-Err-2-clause-fault : goal.returns-in-Err-2-clause-fault
returns-in-Err-2-clause-fault c =
    (refl, json_of-none _ (λ utf8. c.in-Err.ensures.err (λ memory. cc (c.if-is_memory.ensures.1 memory)) (IsUtf8-from_is_utf8 _ utf8)))
