-- No step takes a laboratory away.
use Rattle.std.proofs.Common.{ℕ, Bool, true, false, List, length, Option, Some, None, refl}
use Rattle.std.specs.Prelude.{IsSome, cond, nat_le, nat_lt}
use Rattle.lab_forms_texts.specs.declared.tick.Tick.{Tick}
use Rattle.lab_records_kept.specs.declared.labs.Lab.{Lab}
use Rattle.lab_records_kept.specs.declared.trails.Deed.{Deed}
use Rattle.lab_people_access.specs.declared.sessions.Session.{Session}
use Rattle.lab_people_access.specs.Sessions.{touched_session}
use Rattle.lab_records_kept.specs.Limits.{count_limit}
use Rattle.lab_records_machine.specs.declared.commands.Command.{Command}
use Rattle.lab_records_machine.specs.declared.commands.Command.TheVariants.{Card, Open, In}
use Rattle.lab_records_machine.specs.declared.commands.SessionCommand.{SessionCommand}
use Rattle.lab_records_machine.specs.declared.commands.Instruction.{Instruction}
use Rattle.lab_records_machine.specs.declared.passages.Passage.{Passage}
use Rattle.lab_records_machine.specs.declared.passages.Passage.TheVariants.{Stranger, Barred, Passes}
use Rattle.lab_records_machine.specs.declared.replies.Reply.{Reply}
use Rattle.lab_records_machine.specs.Cases.{Case, Refuses, Fails, Reads, Makes}
use Rattle.lab_records_machine.specs.Own.{own}
use Rattle.lab_records_machine.specs.Machine.{Stepped, named_session, touched, stays, made, ended, opened, answered_in, answered, step}
use Rattle.lab_records_laws.specs.Stepping.{WhereThere, HoldsOf}

-- what is kept in one case or another
either_stays : (full : Bool) (one other : Lab) (reply told : Reply)
    → IsSome (cond full (stays one reply) (stays other told)).after
either_stays true one other reply told = refl
either_stays false one other reply told = refl

made_stays : (before after : Lab) (moment : ℕ) (person : List ℕ) (reply : Reply) (deed : Deed)
    → IsSome (made before after moment person reply deed).after
made_stays before after moment person reply deed =
    either_stays (nat_le count_limit (length before.trail)) _ _ _ _

ended_stays : (lab : Lab) (moment : ℕ) (person : List ℕ) (case : Case)
    → IsSome (ended lab moment person case).after
ended_stays lab moment person (Refuses refusal) = refl
ended_stays lab moment person (Fails occasion failure) = refl
ended_stays lab moment person (Reads reply) = refl
ended_stays lab moment person (Makes reply deed after) =
    made_stays lab after moment person reply deed

opened_stays : (lab : Lab) (moment : ℕ) (person : List ℕ) (case : Case)
    → IsSome (opened lab moment person case).after
opened_stays lab moment person (Refuses refusal) = refl
opened_stays lab moment person (Fails occasion failure) = refl
opened_stays lab moment person (Reads reply) = refl
opened_stays lab moment person (Makes reply deed after) =
    made_stays lab _ moment person reply deed

in_stays : (lab : Lab) (tick : Tick) (command : SessionCommand) (passage : Passage)
    → IsSome (answered_in lab tick command passage).after
in_stays lab tick command Stranger = refl
in_stays lab tick command (Barred session refusal) = refl
in_stays lab tick command (Passes session caller) =
    ended_stays (touched lab tick.moment session) tick.moment caller.code
    (own (touched lab tick.moment session) tick (touched_session tick.moment session) caller
    command)

answer_stays : (lab : Lab) (tick : Tick) (session : Option Session) (command : Command)
    → IsSome (answered lab tick session command).after
answer_stays lab tick session Card = refl
answer_stays lab tick session (Open code password) = opened_stays lab tick.moment code _
answer_stays lab tick session (In command) = in_stays lab tick command _

timely_stays : (early : Bool) (lab : Lab) (reply : Reply) (other : Stepped) → IsSome other.after
    → IsSome (cond early (stays lab reply) other).after
timely_stays true lab reply other there = refl
timely_stays false lab reply other there = there

-- a step leaves a laboratory
pub step_stays : (lab : Lab) (tick : Tick) (instruction : Instruction)
    → IsSome (step (Some lab) tick instruction).after
step_stays lab tick instruction =
    timely_stays (nat_lt tick.moment lab.last) lab _ _
    (answer_stays lab tick (named_session lab instruction.token) instruction.command)

-- what holds where there is a laboratory, holds of the one that there is
pub holds_of : (Holds : Lab → Type 0) (lab : Option Lab) → IsSome lab → WhereThere Holds lab
    → HoldsOf Holds lab
holds_of Holds None there holds = absurd (cc)
holds_of Holds (Some lab) there holds = holds
