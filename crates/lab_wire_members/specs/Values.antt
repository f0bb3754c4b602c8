-- What a body is as JSON (RFC 8259, read as the kit's `serde_json` states it).
use Rattle.std.specs.Prelude.{◌≡◌, ◌<◌, ℕ, List, length, if◌then◌else◌, Option, None}
use Rattle.std.specs.Str.{is_utf8}
use Rattle.serde_json.specs.Data.{Data}
use Rattle.serde_json.specs.Read.{read}
use Rattle.lab_wire_members.specs.declared.refusals.BodyRefusal.TheVariants.{BadBody}
use Rattle.lab_forms_texts.specs.declared.refusals.Fault.{Fault}
use Rattle.lab_wire_members.specs.declared.refusals.BodyRefusal.{BodyRefusal}
use Rattle.lab_forms_texts.specs.declared.refusals.Fault.TheVariants.{Refused, Memory}

-- the value that a text is, which is UTF-8
unfoldable pub json_of : List ℕ → Option Data
json_of text = if is_utf8 text then read text else None

-- the faults of reading it: it is none, or out of memory where a byte came
abbrev pub JsonFaultFits : List ℕ → Fault BodyRefusal → Type 0
JsonFaultFits body (Refused refusal) = (refusal ≡ BadBody) × (json_of body ≡ None)
JsonFaultFits body Memory = 0 < length body
