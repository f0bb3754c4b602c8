-- What is decided in a session asks the part for neither the session nor its person, which were taken
-- out of it; and what an opening makes is no refusal.
use Rattle.std.proofs.Common.{◌≡◌, None, refl}
use Rattle.std.specs.Prelude.{IsTrue, is_ok, not, Result, Ok, Err}
use Rattle.lab_forms_texts.specs.declared.tick.Tick.{Tick}
use Rattle.lab_people_access.specs.declared.openings.Opened.{Opened}
use Rattle.lab_people_access.specs.declared.refusals.PeopleFault.{PeopleFault}
use Rattle.lab_records_kept.specs.declared.needs.Slice.{Slice}
use Rattle.lab_records_machine.specs.declared.commands.SessionCommand.{SessionCommand}
use Rattle.lab_records_machine.specs.declared.passages.Passage.{Passage}
use Rattle.lab_records_machine.specs.Done.{opened_done, done_on_account, done_on_record, done_reading}
use Rattle.lab_records_laws.specs.Deciding.{decided_in}
use Rattle.lab_records.specs.Makings.{is_refusal}

abbrev pub bare : Slice → Slice
bare slice = record slice { session = None; caller = None }

pub same_decided : (slice : Slice) (tick : Tick) (command : SessionCommand) (reached : Passage)
    → decided_in (bare slice) tick command reached ≡ decided_in slice tick command reached
unfolding done_on_account done_on_record done_reading
same_decided slice tick command reached = refl

pub opened_is_made : (result : Result Opened PeopleFault) → IsTrue (is_ok result)
    → IsTrue (not (is_refusal (opened_done result)))
opened_is_made (Ok opened) is = refl
opened_is_made (Err fault) is = absurd (cc)
