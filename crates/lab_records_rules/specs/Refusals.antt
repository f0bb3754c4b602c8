-- The numbers and words of what a laboratory's machine refuses: one table, which every reply
-- follows.
use Rattle.std.specs.Prelude.{codes}
use Rattle.lab_forms_texts.specs.Faults.{Entry}
use Rattle.lab_forms.specs.Faults.{form_refusal_entry}
use Rattle.lab_people_access.specs.Refusals.{people_refusal_entry}
use Rattle.lab_records_kept.specs.Faults.{no_such_lab_entry}
use Rattle.lab_records_rules.specs.declared.refusals.Refusal.{Refusal}
use Rattle.lab_records_rules.specs.declared.refusals.Refusal.TheVariants.{NoSuchLab, ClockBehind, People, Form, NoSuchForm, RecordExists, NoSuchRecord, NoSuchVersion, NotOpen, ReasonWanted, NothingAltered, NotAltered, AmendmentOpen, EntriesMissing, StaleDigest, AlreadySigned, OwnWork, NotAuthor, NotSigned, CodeWanted, ApprovalNotWanted}

-- the number and the word of a refusal
abbrev pub refusal_entry : Refusal → Entry
refusal_entry NoSuchLab = no_such_lab_entry
refusal_entry ClockBehind = record { number = 41; word = codes "clock_behind" }
refusal_entry (People refusal) = people_refusal_entry refusal
refusal_entry (Form refusal) = form_refusal_entry refusal
refusal_entry NoSuchForm = record { number = 42; word = codes "no_such_form" }
refusal_entry (RecordExists number) = record { number = 43; word = codes "record_exists" }
refusal_entry NoSuchRecord = record { number = 44; word = codes "no_such_record" }
refusal_entry NoSuchVersion = record { number = 45; word = codes "no_such_version" }
refusal_entry NotOpen = record { number = 46; word = codes "not_open" }
refusal_entry ReasonWanted = record { number = 47; word = codes "reason_wanted" }
refusal_entry NothingAltered = record { number = 48; word = codes "nothing_altered" }
refusal_entry (NotAltered key) = record { number = 49; word = codes "not_altered" }
refusal_entry AmendmentOpen = record { number = 50; word = codes "amendment_open" }
refusal_entry EntriesMissing = record { number = 51; word = codes "entries_missing" }
refusal_entry (StaleDigest digest) = record { number = 52; word = codes "stale_digest" }
refusal_entry AlreadySigned = record { number = 53; word = codes "already_signed" }
refusal_entry OwnWork = record { number = 54; word = codes "own_work" }
refusal_entry NotAuthor = record { number = 55; word = codes "not_author" }
refusal_entry NotSigned = record { number = 56; word = codes "not_signed" }
refusal_entry CodeWanted = record { number = 57; word = codes "code_wanted" }
refusal_entry ApprovalNotWanted = record { number = 58; word = codes "approval_not_wanted" }
