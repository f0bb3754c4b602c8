-- One laboratory's run by itself: its own events, and what its machine makes of them. No other
-- event enters.
use Rattle.std.specs.Prelude.{ℕ, List, [], ◌∷◌, Option, Some, None, Ok, Err, bytes_eq, if◌then◌else◌}
use Rattle.lab_forms_texts.specs.declared.tick.Tick.{Tick}
use Rattle.lab_records_kept.specs.declared.labs.Lab.{Lab}
use Rattle.lab_records_machine.specs.declared.commands.Instruction.{Instruction}
use Rattle.lab_records_machine.specs.Machine.{step}
use Rattle.lab_wire.specs.declared.replies.Answer.TheVariants.{Replied}
use Rattle.lab_wire.specs.Asked.{asked}
use Rattle.lab_wire.specs.Replies.{reply_text}
use Rattle.lab_desk_events.specs.declared.events.Event.{Event}
use Rattle.lab_desk_events.specs.declared.events.Event.TheVariants.{Found, Call}
use Rattle.lab_desk_events.specs.Requests.{AskedInBytes}
use Rattle.lab_desk_foundings.specs.Foundings.{founding_in, born_of, after_birth, line_of}

-- an event of one laboratory: it is founded from a body, or it is given an instruction
pub data Own : Type 0 where
  Founds : Tick → List ℕ → Own
  Obeys : Tick → Instruction → Own

-- a call as the laboratory's own, where its bytes name the laboratory
abbrev pub own_call : List ℕ → Tick → AskedInBytes → Option Own
own_call code tick (Err refusal) = None
own_call code tick (Ok asked) = if bytes_eq asked.lab code then Some
    (Obeys tick asked.instruction) else None

-- what happens to an installation: a laboratory is founded from a body, or a request comes. Of its bytes
-- only what they ask plays a part, so that a request counts of which no more is known
pub data Happening : Type 0 where
  Founding : List ℕ → Tick → List ℕ → Happening
  Request : Tick → AskedInBytes → Happening

-- an event as what happens
abbrev pub happening : Event → Happening
happening (Found lab tick body) = Founding lab tick body
happening (Call tick bytes) = Request tick (asked bytes)

-- what happens as the laboratory's own event, where it is its own and not another's or nobody's
abbrev pub own_of : List ℕ → Happening → Option Own
own_of code (Founding lab tick body) =
    if bytes_eq lab code then Some (Founds tick body) else None
own_of code (Request tick asks) = own_call code tick asks

-- the laboratory after one of its own events
abbrev pub after_own : List ℕ → Option Lab → Own → Option Lab
after_own code lab (Founds tick body) = after_birth lab
    (born_of lab code tick (founding_in body))
after_own code lab (Obeys tick instruction) = (step lab tick instruction).after

-- what it answers to one of its own events
abbrev pub answer_own : List ℕ → Option Lab → Own → List ℕ
answer_own code lab (Founds tick body) = line_of code (born_of lab code tick (founding_in body))
answer_own code lab (Obeys tick instruction) = reply_text tick
    (Replied (step lab tick instruction).reply)

-- the laboratory after all of its own events
abbrev pub alone_after : List ℕ → Option Lab → List Own → Option Lab
alone_after code lab [] = lab
alone_after code lab (own ∷ owns) = alone_after code (after_own code lab own) owns

-- its answers to all of its own events, in order
abbrev pub alone_answers : List ℕ → Option Lab → List Own → List (List ℕ)
alone_answers code lab [] = []
alone_answers code lab (own ∷ owns) = answer_own code lab own ∷ alone_answers code
    (after_own code lab own) owns
