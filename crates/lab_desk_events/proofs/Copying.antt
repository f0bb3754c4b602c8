-- A legible laboratory stays legible over a request and a founding, and the copies that it hands out
-- are sound.
use Rattle.std.proofs.Common.{ℕ, List, Option, Some, None, Result, Ok, Err, sym, subst}
use Rattle.std.specs.Prelude.{All, OnOk, OnErr}
use Rattle.lab_forms_texts.specs.declared.tick.Tick.{Tick}
use Rattle.lab_records_kept.specs.declared.labs.Lab.{Lab}
use Rattle.lab_records_kept.specs.Limits.{IsWithin}
use Rattle.lab_records_keeper.specs.Worlds.{World, Meaning, Places, Leaves}
use Rattle.lab_records_copy_out.specs.Legible.{IsLegible, IsLegibleChange}
use Rattle.lab_records_copy_out.proofs.LegibleLemmas.{caller_legible, changes_legible, lines_are}
use Rattle.lab_records_machine.specs.declared.commands.Command.{Command}
use Rattle.lab_records_machine.specs.declared.commands.Command.TheVariants.{Card, Open, In}
use Rattle.lab_records_machine.specs.declared.commands.SessionCommand.TheVariants.{OnAccount, OnRecord, Reading}
use Rattle.lab_records_machine.specs.declared.commands.ReadingCommand.TheVariants.{ReadPersons, ReadForm, ReadRecord, ReadVersion, ReadRecords, ReadTrail, TakeCopy}
use Rattle.lab_records_machine.specs.declared.commands.Instruction.{Instruction}
use Rattle.lab_records_machine.specs.Machine.{named_session, step}
use Rattle.lab_records_machine.specs.Own.{copy_order}
use Rattle.lab_records_laws.specs.Runs.{IsReleasing}
use Rattle.lab_records_laws.specs.Stepping.{WhereThere}
use Rattle.lab_records_laws.proofs.InspectionLemmas.{hands_out_sound_copies}
use Rattle.lab_records_laws.proofs.Passing.{decided_is}
use Rattle.lab_wire.specs.declared.commands.Asked.{Asked}
use Rattle.lab_desk_events.specs.Copies.{IsAskedLegibly, IsSoundReply, IsSoundAnswer}
use Rattle.lab_desk_events.specs.Keeping.{HoldsIn}
use Rattle.lab_desk_events.specs.Requests.{Steps, changes_for}
use Rattle.lab_desk_events.proofs.Staying.{left_holds, set_holds}

-- ---- a request

-- a step whose changes are legible
step_legible : (lab : Option Lab) (tick : Tick) (instruction : Instruction) →
    All IsLegibleChange (changes_for lab tick instruction) → WhereThere IsLegible lab →
    WhereThere IsLegible (step lab tick instruction).after
unfolding changes_for
step_legible None tick instruction brings is = tt
step_legible (Some lab) tick instruction brings is =
    subst (WhereThere IsLegible) (sym (decided_is lab tick instruction).after)
    (changes_legible lab _ is brings)

-- every laboratory is legible after what was asked
pub asked_legible : {A F : Type 0} (old new : World) (tick : Tick) (asked : Asked)
    (answered : Result A F) → (new.is_live → old.is_live) →
    OnOk answered (Steps tick (Ok asked) old.meaning new.meaning) →
    OnErr answered (Leaves old new) →
    OnOk answered
    (All IsLegibleChange (changes_for (old.meaning asked.lab) tick asked.instruction)) →
    HoldsIn IsLegible old → HoldsIn IsLegible new
asked_legible old new tick asked (Ok answer) back steps left brings holds = λ live.
    set_holds IsLegible asked.lab _ old.meaning new.meaning steps
    (step_legible (old.meaning asked.lab) tick asked.instruction brings
    (holds (back live) asked.lab)) (holds (back live))
asked_legible old new tick asked (Err fault) back steps left brings holds = λ live.
    left_holds IsLegible old new back left holds live

-- ---- a founding

pub placed_legible : (old new : World) (lab : Lab) → (new.is_live → old.is_live) →
    Places lab old.meaning new.meaning → IsLegible lab → HoldsIn IsLegible old →
    HoldsIn IsLegible new
placed_legible old new lab back placed here holds = λ live.
    set_holds IsLegible lab.code (Some lab) old.meaning new.meaning placed.placed here
    (holds (back live))

-- ---- a copy

sound_reply : (lab : Lab) (tick : Tick) (token : Option (List ℕ)) (command : Command) →
    IsWithin lab → IsReleasing lab → IsLegible lab → IsAskedLegibly tick.moment command →
    IsSoundReply command lab
    (step (Some lab) tick (record { token = token; command = command })).reply
sound_reply lab tick token Card within releasing legible asked = tt
sound_reply lab tick token (Open code password) within releasing legible asked = tt
sound_reply lab tick token (In (OnAccount command)) within releasing legible asked = tt
sound_reply lab tick token (In (OnRecord command)) within releasing legible asked = tt
sound_reply lab tick token (In (Reading ReadPersons)) within releasing legible asked = tt
sound_reply lab tick token (In (Reading (ReadForm code version))) within releasing legible asked = tt
sound_reply lab tick token (In (Reading (ReadRecord number))) within releasing legible asked = tt
sound_reply lab tick token (In (Reading (ReadVersion number version))) within releasing legible asked = tt
sound_reply lab tick token (In (Reading (ReadRecords from to))) within releasing legible asked = tt
sound_reply lab tick token (In (Reading (ReadTrail from to))) within releasing legible asked = tt
sound_reply lab tick token (In (Reading (TakeCopy from to))) within releasing legible asked = λ le.
    hands_out_sound_copies lab tick token from to le releasing.bound releasing.dual within
    (λ caller found. lines_are lab (copy_order from to caller.code tick.moment)
    (record {
      within = within;
      bound = releasing.bound;
      dual = releasing.dual;
      legible = legible;
    })
    (record {
      from = asked.from;
      to = asked.to;
      person = caller_legible lab (named_session lab token) caller legible found;
      moment = asked.moment;
    }))

sound_there : (lab : Option Lab) (tick : Tick) (instruction : Instruction) →
    WhereThere IsWithin lab → WhereThere IsReleasing lab → WhereThere IsLegible lab →
    IsAskedLegibly tick.moment instruction.command →
    WhereThere (λ one. IsSoundReply instruction.command one
    (step (Some one) tick instruction).reply) lab
sound_there None tick instruction within releasing legible asked = tt
sound_there (Some lab) tick instruction within releasing legible asked =
    sound_reply lab tick instruction.token instruction.command within releasing legible asked

-- what is replied to whoever asks for a copy is sound
pub sound_answer : (meaning : Meaning) (tick : Tick) (asked : Asked) →
    WhereThere IsWithin (meaning asked.lab) → WhereThere IsReleasing (meaning asked.lab) →
    WhereThere IsLegible (meaning asked.lab) →
    IsAskedLegibly tick.moment asked.instruction.command →
    IsSoundAnswer meaning tick (Ok asked)
sound_answer meaning tick asked within releasing legible named =
    sound_there (meaning asked.lab) tick asked.instruction within releasing legible named
