-- What bytes are refused for that are no request, and how reading them ends without one. The words
-- of a reader's and of a writer's fault have no number: no reply can tell of them.
use Rattle.std.specs.Prelude.{ℕ, List, codes, Option, Some, None}
use Rattle.lab_forms_texts.specs.Faults.{Entry, memory_entry}
use Rattle.lab_forms_streams.specs.Sending.{read_fault_word, write_fault_word}
use Rattle.lab_wire_heads.specs.declared.refusals.HeadRefusal.{HeadRefusal}
use Rattle.lab_wire_heads.specs.declared.refusals.HeadRefusal.TheVariants.{BadHead, HeadTooLong, TransferCoding, LengthWanted, BodyTooLong, ShortBody}
use Rattle.lab_wire_heads.specs.declared.refusals.HeadFault.{HeadFault}
use Rattle.lab_wire_heads.specs.declared.refusals.HeadFault.TheVariants.{Refused, Read, Write, Memory}

abbrev pub head_entry : HeadRefusal → Entry
head_entry BadHead = record { number = 80; word = codes "bad_head" }
head_entry HeadTooLong = record { number = 81; word = codes "head_too_long" }
head_entry TransferCoding = record { number = 82; word = codes "transfer_coding" }
head_entry LengthWanted = record { number = 83; word = codes "length_wanted" }
head_entry BodyTooLong = record { number = 84; word = codes "body_too_long" }
head_entry ShortBody = record { number = 85; word = codes "short_body" }

abbrev pub head_fault_number : HeadFault → Option ℕ
head_fault_number (Refused refusal) = Some (head_entry refusal).number
head_fault_number Read = None
head_fault_number (Write sent) = None
head_fault_number Memory = Some memory_entry.number

abbrev pub head_fault_word : HeadFault → List ℕ
head_fault_word (Refused refusal) = (head_entry refusal).word
head_fault_word Read = read_fault_word
head_fault_word (Write sent) = write_fault_word
head_fault_word Memory = memory_entry.word
