-- What the definitions come to over laboratories in memory, whose store never refuses: nothing is answered by `storage`.
use Rattle.std.proofs.Common.{◌≡◌, List, ℕ, inl, inr}
use Rattle.lab_forms_texts.specs.declared.tick.Tick.{Tick}
use Rattle.lab_records_kept.specs.declared.labs.Lab.{Lab}
use Rattle.lab_records_memory.specs.Lists.{world_of}
use Rattle.lab_wire.specs.Replies.{memory_text}
use Rattle.lab_desk_foundings.specs.Foundings.{memory_line, IsRefusedLine}
use Rattle.lab_desk_events.specs.Requests.{IsRefusedReply}

-- whoever was refused a request there was so for lack of memory
no_storage_reply : (labs : List Lab) (asks : Type 0) (tick : Tick) (reply : List ℕ) →
    IsRefusedReply ((world_of labs).may_refuse × asks) tick reply → reply ≡ memory_text
no_storage_reply labs asks tick reply refused =
    elim refused as (λ _. reply ≡ memory_text) [
      | inl memory ↦ memory
      | inr storage ↦ absurd storage.0.0
    ]

-- and whoever was refused a founding
no_storage_line : (labs : List Lab) (bears : Type 0) (line : List ℕ) →
    IsRefusedLine ((world_of labs).may_refuse × bears) line → line ≡ memory_line
no_storage_line labs bears line refused =
    elim refused as (λ _. line ≡ memory_line) [
      | inl memory ↦ memory
      | inr storage ↦ absurd storage.0.0
    ]
