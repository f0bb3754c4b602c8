-- What `labdesk check` tells of an inspection copy (21 CFR 11.10(a), "the ability to discern
-- invalid or altered records"): a line on standard output, and a status. Its words are this
-- system's own (docs/REFUSALS.md).
use Rattle.std.specs.Prelude.{◌≡◌, ◌<◌, ℕ, List, ◌++◌, [], length, take, codes, decimal, Option, Some, None, Result, Ok, Err}
use Rattle.std.specs.Io.KnownBytes.{Keeps, Appends}
use Rattle.lab_forms_texts.specs.Faults.{memory_entry}
use Rattle.lab_forms_streams.specs.Sending.{read_fault_word, write_fault_word}
use Rattle.lab_forms_streams.specs.declared.sending.WriteFault.{WriteFault as Untold}
use Rattle.lab_copy_rows.specs.Flaws.{flaw_entry, flaw_row}
use Rattle.lab_copy_rows.specs.declared.flaws.Flaw.{Flaw}
use Rattle.lab_copy_rows.specs.declared.lines.Counts.{Counts}
use Rattle.lab_program_check.specs.declared.faults.StopFault.{StopFault}
use Rattle.lab_program_check.specs.declared.verdicts.Checked.{Checked}
use Rattle.lab_program_check.specs.declared.faults.StopFault.TheVariants.{Read, Write, Memory}

-- ---- what is told

-- of a sound copy: how many records, versions, entries and signatures it has
abbrev pub good_line : Counts → List ℕ
good_line counts =
    codes "good " ++ decimal counts.records ++ codes " " ++ decimal counts.versions ++ codes " "
    ++ decimal counts.entries ++ codes " " ++ decimal counts.signatures ++ codes "\n"

-- the row of a flaw, behind a blank, where it is told at one
abbrev pub row_told : Option ℕ → List ℕ
row_told None = []
row_told (Some row) = codes " " ++ decimal row

-- of another copy: the word of its first flaw, and the row
abbrev pub bad_line : Flaw → List ℕ
bad_line flaw = codes "bad " ++ (flaw_entry flaw).word ++ row_told (flaw_row flaw) ++ codes "\n"

-- the line of a verdict, and the status
abbrev pub verdict_line : Result Counts Flaw → List ℕ
verdict_line (Ok counts) = good_line counts
verdict_line (Err flaw) = bad_line flaw

abbrev pub verdict_status : Result Counts Flaw → ℕ
verdict_status (Ok counts) = 0
verdict_status (Err flaw) = 1

-- the flaw of a verdict, where there is one
abbrev pub IsFlaw : Result Counts Flaw → Option Flaw → Type 0
IsFlaw (Ok counts) found = found ≡ None
IsFlaw (Err flaw) found = found ≡ Some flaw

-- the status of a check that ended so
abbrev pub status_of : {F : Type 0} → Result Checked F → Result ℕ F
status_of (Ok checked) = Ok checked.status
status_of (Err fault) = Err fault

-- ---- what stops a check

abbrev pub stop_word : StopFault → List ℕ
stop_word Read = read_fault_word
stop_word Write = write_fault_word
stop_word Memory = memory_entry.word

-- its number, where it has one
abbrev pub stop_number : StopFault → Option ℕ
stop_number Read = None
stop_number Write = None
stop_number Memory = Some memory_entry.number

abbrev pub stop_line : StopFault → List ℕ
stop_line fault = codes "labdesk: " ++ stop_word fault ++ codes "\n"

-- ---- what goes out

-- the first bytes of a text went out, and not all
abbrev pub IsCut : List ℕ → Option (List ℕ) → Option (List ℕ) → Type 0
IsCut text before after = (sent : ℕ) × Appends before after (take sent text) × (sent < length text)

-- the line of the verdict was told, and nothing else; after a write fault its first bytes were, and
-- after another fault nothing
abbrev pub IsVerdictTold : Result Counts Flaw → Result ℕ StopFault
    → (before after : Option (List ℕ)) → Type 0
IsVerdictTold verdict (Ok status) before after =
    (status ≡ verdict_status verdict) × Appends before after (verdict_line verdict)
IsVerdictTold verdict (Err Write) before after = IsCut (verdict_line verdict) before after
IsVerdictTold verdict (Err Read) before after = Keeps before after
IsVerdictTold verdict (Err Memory) before after = Keeps before after

-- a fault's line was told whole, with the status 1; where standard error failed, its first bytes
-- were, and not all
abbrev pub IsStopTold : StopFault → Result ℕ Untold → (before after : Option (List ℕ)) → Type 0
IsStopTold fault (Ok status) before after = (status ≡ 1) × Appends before after (stop_line fault)
IsStopTold fault (Err untold) before after =
    Appends before after (take untold.sent (stop_line fault))
    × (untold.sent < length (stop_line fault))

-- nothing was told on standard error where nothing stopped the check, and else what did
abbrev pub PrintsStop : Result ℕ StopFault → Result ℕ Untold → (before after : Option (List ℕ)) → Type 0
PrintsStop (Ok told) status before after = (status ≡ Ok told) × Keeps before after
PrintsStop (Err fault) status before after = IsStopTold fault status before after

-- a check of a copy of this verdict, by its status: what was told on standard output, and on
-- standard error
pub record IsCheck (verdict : Result Counts Flaw) (status : Result ℕ Untold)
    (before after told_before told_after : Option (List ℕ)) : Type 0 where
  pub ending : Result ℕ StopFault
  pub told : IsVerdictTold verdict ending before after
  pub tells : PrintsStop ending status told_before told_after
