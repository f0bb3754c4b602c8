-- However far the asking for a copy gets, what is replied is a sound copy, or none.
use Rattle.std.proofs.Common.{◌≡◌, ◌≤◌, ℕ, Bool, true, false, Option, Some, None, refl}
use Rattle.std.specs.Prelude.{nat_lt, if◌then◌else◌}
use Rattle.lab_forms_texts.specs.declared.tick.Tick.{Tick}
use Rattle.lab_people_access.specs.declared.persons.Person.{Person}
use Rattle.lab_people_access.specs.declared.policy.Rule.TheVariants.{TakeCopy as ByTakeCopy}
use Rattle.lab_people_access.specs.declared.refusals.PeopleRefusal.{PeopleRefusal}
use Rattle.lab_people_access.specs.declared.sessions.Session.{Session}
use Rattle.lab_people_access.specs.Policy.{denial}
use Rattle.lab_people_access.specs.Sessions.{is_live}
use Rattle.lab_records_kept.specs.declared.labs.Lab.{Lab}
use Rattle.lab_records_kept.specs.Bound.{IsBound}
use Rattle.lab_records_kept.specs.Dual.{IsDual}
use Rattle.lab_records_kept.specs.Limits.{IsWithin}
use Rattle.lab_records_kept.specs.Lookups.{caller_of}
use Rattle.lab_copy_rows.specs.Copies.{IsSoundCopy}
use Rattle.lab_records_copies.specs.Soundness.{AreLines}
use Rattle.lab_records_copies.proofs.CopyLemmas.{copies_are_sound}
use Rattle.lab_records_machine.specs.declared.commands.SessionCommand.TheVariants.{Reading}
use Rattle.lab_records_machine.specs.declared.commands.ReadingCommand.TheVariants.{TakeCopy}
use Rattle.lab_records_rules.specs.declared.refusals.Refusal.TheVariants.{ClockBehind}
use Rattle.lab_records_machine.specs.declared.replies.Reply.TheVariants.{Refused}
use Rattle.lab_records_machine.specs.declared.passages.Passage.{Passage}
use Rattle.lab_records_machine.specs.declared.passages.Passage.TheVariants.{Stranger}
use Rattle.lab_records_machine.specs.Own.{own_reading, copy_order}
use Rattle.lab_records_machine.specs.Machine.{allowed_passage, passage, named_session, Stepped, stays, answered_in}
use Rattle.lab_records_laws.specs.Inspections.{IfCopied, counts_within, HandsOutSoundCopies}

-- what is replied is a sound copy, if it is one
abbrev IsSoundStep : Lab → ℕ → ℕ → Stepped → Type 0
IsSoundStep lab from to stepped =
    IfCopied (λ rows. IsSoundCopy rows (counts_within lab from to)) stepped.reply

-- the same by a passage
abbrev IsSoundReply : Lab → Tick → ℕ → ℕ → Passage → Type 0
IsSoundReply lab tick from to reached =
    IsSoundStep lab from to (answered_in lab tick (Reading (TakeCopy from to)) reached)

-- by the policy, to the caller
allowed_sound : (lab : Lab) (tick : Tick) (from to : ℕ) (session : Session) (caller : Person)
    (denied : Option PeopleRefusal) → from ≤ to → IsBound lab → IsDual lab → IsWithin lab
    → AreLines lab (copy_order from to caller.code tick.moment)
    → IsSoundReply lab tick from to (allowed_passage session caller denied)
unfolding own_reading
allowed_sound lab tick from to session caller None order bound dual within lines =
    copies_are_sound lab (copy_order from to caller.code tick.moment) order bound dual within lines
allowed_sound lab tick from to session caller (Some refusal) order bound dual within lines = tt

-- in a session that lives, or not
live_sound : (lab : Lab) (tick : Tick) (from to : ℕ) (session : Session) (caller : Person)
    (denied : Option PeopleRefusal) (lives : Bool) → from ≤ to → IsBound lab → IsDual lab → IsWithin lab
    → AreLines lab (copy_order from to caller.code tick.moment)
    → IsSoundReply lab tick from to (if lives then allowed_passage session caller denied else Stranger)
live_sound lab tick from to session caller denied true order bound dual within lines =
    allowed_sound lab tick from to session caller denied order bound dual within lines
live_sound lab tick from to session caller denied false order bound dual within lines = tt

-- with a session and its person, or without
session_sound : (lab : Lab) (tick : Tick) (from to : ℕ) (session : Option Session) (found : Option Person)
    → from ≤ to → IsBound lab → IsDual lab → IsWithin lab
    → ((caller : Person) → found ≡ Some caller → AreLines lab (copy_order from to caller.code tick.moment))
    → IsSoundReply lab tick from to (passage session found tick.moment ByTakeCopy)
session_sound lab tick from to None found order bound dual within lines = tt
session_sound lab tick from to (Some session) None order bound dual within lines = tt
session_sound lab tick from to (Some session) (Some caller) order bound dual within lines =
    live_sound lab tick from to session caller (denial caller ByTakeCopy tick.moment)
    (is_live session tick.moment) order bound dual within (lines caller refl)

-- at the laboratory's last moment or later, or before
moment_sound : (lab : Lab) (from to : ℕ) (early : Bool) (other : Stepped) → IsSoundStep lab from to other
    → IsSoundStep lab from to (if early then stays lab (Refused ClockBehind) else other)
moment_sound lab from to true other sound = tt
moment_sound lab from to false other sound = sound

pub hands_out_sound_copies : HandsOutSoundCopies
hands_out_sound_copies lab tick token from to order bound dual within lines =
    let session = named_session lab token in
    moment_sound lab from to (nat_lt tick.moment lab.last)
    (answered_in lab tick (Reading (TakeCopy from to))
    (passage session (caller_of lab session) tick.moment ByTakeCopy))
    (session_sound lab tick from to session (caller_of lab session) order bound dual within lines)
