-- A run of an installation: which events were taken, what was answered, that each laboratory's
-- answers and what it means are those of its run alone, and that it keeps what was at each event.
use Rattle.std.specs.Prelude.{◌≡◌, ◌<◌, ◌++◌, ℕ, List, [], ◌∷◌, Bool, true, false, All, Option, None, IsOk, IfErr, filter_map, if◌then◌else◌, length, map, option_map, take}
use Rattle.std.specs.Io.KnownBytes.{Appends}
use Rattle.std.specs.List.{concat}
use Rattle.lab_forms_texts.specs.declared.tick.Tick.{Tick}
use Rattle.lab_records_kept.specs.Keeping.{Keeps}
use Rattle.lab_records_keeper.specs.Worlds.{World, Meaning, HoldsMeaning}
use Rattle.lab_wire.specs.declared.replies.Answer.TheVariants.{Refused}
use Rattle.lab_wire.specs.Replies.{reply_text}
use Rattle.lab_desk_events.specs.Requests.{AskedInBytes, IsRefusedReply}
use Rattle.lab_desk_foundings.specs.Foundings.{founding_in, Bears, IsRefusedLine}
use Rattle.lab_desk_events.specs.Keeping.{EachFollows}
use Rattle.lab_desk_events.specs.Alone.{Own, Happening, Founding, Request, own_of, alone_after, alone_answers}

-- an event, whether it was taken, and what was answered to it: it is taken unless memory ran out or
-- the store refused
pub record Handled : Type 0 where
  pub event : Happening
  pub taken : Bool
  pub answer : List ℕ

-- ---- what is answered, apart from what a laboratory's machine says of it

-- bytes that ask nothing are answered from themselves and the tick alone
abbrev pub IsAnswerToNobody : Tick → AskedInBytes → List ℕ → Type 0
IsAnswerToNobody tick asks answer = IfErr asks
    (λ refusal. answer ≡ reply_text tick (Refused refusal))

-- the answer to a taken event that belongs to no laboratory
abbrev pub IsNobodys : Happening → List ℕ → Type 0
IsNobodys (Founding lab tick body) answer = Unit {0}
IsNobodys (Request tick asks) answer = IsAnswerToNobody tick asks answer

-- the answer to an event that was refused for memory, or by a store that may refuse, which was
-- asked something
abbrev pub IsRefusal : Type 0 → Happening → List ℕ → Type 0
IsRefusal may_refuse (Founding lab tick body) answer = IsRefusedLine
    (may_refuse × Bears lab tick (founding_in body)) answer
IsRefusal may_refuse (Request tick asks) answer = IsRefusedReply
    (may_refuse × IsOk asks) tick answer

abbrev pub IsAnswerBy : Type 0 → Bool → Happening → List ℕ → Type 0
IsAnswerBy may_refuse true event answer = IsNobodys event answer
IsAnswerBy may_refuse false event answer = IsRefusal may_refuse event answer

abbrev pub IsAnswer : Type 0 → Handled → Type 0
IsAnswer may_refuse handled = IsAnswerBy may_refuse handled.taken handled.event handled.answer

-- ---- each laboratory alone

-- the laboratory's own event, where this one is its own and was taken
abbrev pub own_in : List ℕ → Handled → Option Own
own_in code handled = if handled.taken then own_of code handled.event else None

-- its own events among those handled
abbrev pub own_events : List ℕ → List Handled → List Own
own_events code = filter_map (own_in code)

-- and the answers to them
abbrev pub own_answers : List ℕ → List Handled → List (List ℕ)
own_answers code = filter_map (λ handled. option_map (λ own. handled.answer) (own_in code handled))

-- what each laboratory is after its own events alone
abbrev pub after_run : Meaning → List Handled → Meaning
after_run start handled code = alone_after code (start code) (own_events code handled)

-- each laboratory's answers are those of its run alone
abbrev pub AreAlone : Meaning → List Handled → Type 0
AreAlone start handled = (code : List ℕ) →
    own_answers code handled ≡ alone_answers code (start code) (own_events code handled)

-- at each event every laboratory that there is, is there after it and keeps what was, also one that
-- an earlier event founded (21 CFR 11.10(e); ISO/IEC 17025:2017, 7.5.2)
abbrev pub KeepsAlong : Meaning → List Handled → Type 0
KeepsAlong start [] = Unit {0}
KeepsAlong start (one ∷ others) =
    EachFollows Keeps start (after_run start (one ∷ []))
    × KeepsAlong (after_run start (one ∷ [])) others

-- a run: each event is answered as it may be; and from what the keeper told at its start, as from
-- what it kept, each laboratory's answers, and what the keeper tells of it at its end, are those of
-- its run alone, in which it keeps what was at each event
pub record IsRun (old new : World) (handled : List Handled) : Type 0 where
  pub each : All (IsAnswer old.may_refuse) handled
  pub alone : (start : Meaning) → HoldsMeaning old start → AreAlone start handled
  pub keeps : (start : Meaning) → HoldsMeaning old start → KeepsAlong start handled
  pub after : (start : Meaning) → HoldsMeaning old start → HoldsMeaning new (after_run start handled)

-- ---- what is told and written

-- these are the events, in order, and whether each was taken
pub record IsAccountOf (events : List Happening) (taken : List Bool) (handled : List Handled) : Type 0 where
  pub events_are : map (λ (one : Handled). one.event) handled ≡ events
  pub taken_are : map (λ (one : Handled). one.taken) handled ≡ taken

-- the answers, one after the other
abbrev pub answers_of : List Handled → List ℕ
answers_of handled = concat (map (λ (one : Handled). one.answer) handled)

-- all events were handled, and their answers were written, and nothing else
pub record Runs (old new : World) (events : List Happening) (taken : List Bool)
    (before after : Option (List ℕ)) : Type 0 where
  pub handled : List Handled
  pub told : IsAccountOf events taken handled
  pub run : IsRun old new handled
  pub written : Appends before after (answers_of handled)

-- the first events were handled, and their answers were written, the last of them cut to its first
-- bytes
pub record RunsCut (old new : World) (events : List Happening) (taken : List Bool) (sent : ℕ)
    (before after : Option (List ℕ)) : Type 0 where
  pub handled : List Handled
  pub last : Handled
  pub told : IsAccountOf (take (length taken) events) taken (handled ++ last ∷ [])
  pub run : IsRun old new (handled ++ last ∷ [])
  pub written : Appends before after (answers_of handled ++ take sent last.answer)
  pub short : sent < length last.answer
