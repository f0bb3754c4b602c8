-- A request that two desks handle: where the two agree.
use Rattle.std.specs.Prelude.{◌≡◌, ◌≢◌, ◌⊎◌, true, ℕ, List, Ok, Err}
use Rattle.lab_records_keeper.specs.Worlds.{World, Meaning, Given}
use Rattle.lab_wire.specs.Replies.{memory_text}
use Rattle.lab_desk_events.specs.Keeping.{AreWithin}
use Rattle.lab_desk_events.specs.Requests.{AskedInBytes}
use Rattle.lab_desk.specs.declared.desks.Twins.{Twins}

-- ---- two keepers

-- what is known of two keepers at a moment
pub record TwoWorlds : Type 1 where
  pub one : World
  pub other : World

abbrev pub both : World → World → TwoWorlds
both one other = record { one = one; other = other }

-- the premises of two calls: each keeper is honest at its end, and at its start its tables were
-- well kept and its laboratories within their limits
abbrev pub GivenBoth : TwoWorlds → TwoWorlds → Type 0 → Type 0
GivenBoth old new P = AreWithin old.one → AreWithin old.other →
    Given old.one new.one (Given old.other new.other P)

-- two meanings agree on a laboratory where it is the same in both, or in both there is none,
-- whatever others they have
abbrev pub Agree : Meaning → Meaning → List ℕ → Type 0
Agree one other code = one code ≡ other code

-- two keepers agree on a laboratory, where both are there to tell
abbrev pub AgreeOn : TwoWorlds → List ℕ → Type 0
AgreeOn keepers code = keepers.one.is_live → keepers.other.is_live →
    Agree keepers.one.meaning keepers.other.meaning code

-- they agree on the laboratory that the bytes name, where they name one
abbrev pub AgreeOnAsked : TwoWorlds → AskedInBytes → Type 0
AgreeOnAsked keepers (Err refusal) = Unit {0}
AgreeOnAsked keepers (Ok asked) = AgreeOn keepers asked.lab

-- the laboratory of the code is another than the one that the bytes name, where they name one
abbrev pub IsElsewhere : AskedInBytes → List ℕ → Type 0
IsElsewhere (Err refusal) code = Unit {0}
IsElsewhere (Ok asked) code = code ≢ asked.lab

-- they agree still on each laboratory on which they agreed
abbrev pub StayAgreed : TwoWorlds → TwoWorlds → Type 0
StayAgreed old new = (code : List ℕ) → AgreeOn old code → AgreeOn new code

-- so they do on each but the one that the bytes name
abbrev pub StayAgreedElsewhere : AskedInBytes → TwoWorlds → TwoWorlds → Type 0
StayAgreedElsewhere asks old new = (code : List ℕ) → IsElsewhere asks code →
    AgreeOn old code → AgreeOn new code

-- ---- two answers

-- both desks took the request
abbrev pub AreTaken : Twins → Type 0
AreTaken twins = (twins.one ≡ true) × (twins.other ≡ true)

-- two replies are the same, but where one tells that memory ran out
abbrev pub SameButForMemory : List ℕ → List ℕ → Type 0
SameButForMemory one other = (one ≡ other) ⊎ ((one ≡ memory_text) ⊎ (other ≡ memory_text))
