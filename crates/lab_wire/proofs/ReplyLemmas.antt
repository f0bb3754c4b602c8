-- No refusal of the wire has a number with a point, so that each has one text; and an answer's message is put together
-- of its parts.
use Rattle.std.proofs.Common.{◌≡◌, ℕ, List, [], Some, false, refl}
use Rattle.serde_json.specs.Written.{has_float}
use Rattle.lab_forms_texts.specs.Faults.{Entry}
use Rattle.lab_forms_texts.specs.declared.tick.Tick.{Tick}
use Rattle.lab_wire_heads.specs.Messages.{message_text}
use Rattle.lab_wire_replies.specs.Refusals.{refused_data}
use Rattle.lab_wire.specs.declared.replies.Answer.{Answer}
use Rattle.lab_wire.specs.Statuses.{answer_status}
use Rattle.lab_wire.specs.Replies.{answer_type, answer_text, further_fields, reply_text}

pub entry_floats : (entry : Entry) → has_float (refused_data entry []) ≡ false
entry_floats entry = refl

pub reply_is : (tick : Tick) (answer : Answer) (status : ℕ) (kind further body : List ℕ) → status ≡ answer_status answer
    → kind ≡ answer_type answer → further ≡ further_fields answer → body ≡ answer_text answer
    → message_text (record {
      status = status;
      moment = Some tick.moment;
      media_type = kind;
      further = further;
      body = body;
    }) ≡ reply_text tick answer
unfolding reply_text
reply_is tick answer status kind further body s k f b = rw (s, k, f, b) refl
