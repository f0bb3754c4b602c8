-- What clauses of private functions say beside Requests.antt.
use Rattle.std.specs.Prelude.{◌≡◌, ◌⊎◌, ℕ, List}
use Rattle.lab_forms_texts.specs.declared.tick.Tick.{Tick}
use Rattle.lab_forms_texts.specs.declared.refusals.Fault.{Fault}
use Rattle.lab_records_keeper.specs.declared.faults.BadStore.{BadStore}
use Rattle.lab_forms_texts.specs.declared.refusals.Fault.TheVariants.{Refused as StoreRefused, Memory}
use Rattle.lab_wire.specs.declared.replies.Answer.TheVariants.{Storage}
use Rattle.lab_wire.specs.Replies.{reply_text, memory_text}

-- a reply tells a keeper's fault; for lack of memory it may tell that in place of the store's
abbrev pub TellsFault : Tick → List ℕ → Fault BadStore → Type 0
TellsFault tick reply Memory = reply ≡ memory_text
TellsFault tick reply (StoreRefused _) = (reply ≡ memory_text) ⊎ (reply ≡ reply_text tick Storage)
