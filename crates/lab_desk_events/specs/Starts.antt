-- Starts and stops of an installation, one after the other: what each found, which events it
-- handled, and what its stop left, by a crash or not (21 CFR 11.10(c); ISO/IEC 17025:2017,
-- 7.11.3(c), "be protected from unauthorized access", and (e), "system failures").
use Rattle.std.specs.Prelude.{◌≡◌, ◌⊎◌, ◌++◌, ℕ, List, [], ◌∷◌, Option, Bool, true, false}
use Rattle.lab_records_kept.specs.declared.labs.Lab.{Lab}
use Rattle.lab_records_keeper.specs.Worlds.{Meaning, SameMeaning}
use Rattle.lab_desk_events.specs.Alone.{Happening, alone_after, alone_answers}
use Rattle.lab_desk_events.specs.Leaving.{IsLeftBy, as_told}
use Rattle.lab_desk_events.specs.Runs.{AreAlone, Handled, IsAccountOf, KeepsAlong, after_run, own_answers, own_events}

pub record Start : Type 0 where
  -- the laboratories that it found
  pub found : Meaning
  -- the events that were handled, and whether each was taken
  pub events : List Happening
  pub taken : List Bool
  -- these events with what was answered to each
  pub handled : List Handled
  -- the laboratories that its stop left
  pub left : Meaning

-- from these laboratories, its events were answered by each laboratory's machine alone, and each
-- laboratory keeps what was at each event: what `Desk::run` says (`alone`, `cut`)
pub record IsAnswered (found : Meaning) (one : Start) : Type 0 where
  pub told : IsAccountOf one.events one.taken one.handled
  pub alone : AreAlone found one.handled
  pub keeps : KeepsAlong found one.handled

-- a crash at its end may leave what its stop left, where a crash at its start could leave what was
-- found alone: what `Desk::run` says (`leaves`, `leaves_cut`)
pub record IsStopped (one : Start) : Type 0 where
  pub handled : List Handled
  pub told : IsAccountOf one.events one.taken handled
  pub left : IsLeftBy one.found (SameMeaning one.found) handled one.left

-- each start finds what the stop before it left, and the first one what was there at first
abbrev pub AreStarts : Meaning → List Start → Type 0
AreStarts first [] = Unit {0}
AreStarts first (one ∷ others) = SameMeaning first one.found × IsAnswered one.found one
    × IsStopped one × AreStarts one.left others

-- what the last stop left
abbrev pub left_by : Meaning → List Start → Meaning
left_by first [] = first
left_by first (one ∷ others) = left_by one.left others

-- ---- the events that made what was left

-- those of a start that were handled; or a front of them, whose last event, though it was refused,
-- was made. Nothing that was taken after that front has changed any laboratory, so that none is
-- lost
abbrev pub IsMade : Meaning → List Handled → List Handled → Type 0
IsMade found handled made = (made ≡ handled)
    ⊎ ((front : List Handled) × (one : Handled) × (rest : List Handled)
    × (handled ≡ front ++ one ∷ rest) × (one.taken ≡ false)
    × (made ≡ front ++ as_told one.event true ∷ [])
    × SameMeaning (after_run found front) (after_run found handled))

-- what was answered plays no part here
pub record IsMadeIn (one : Start) (made : List Handled) : Type 0 where
  pub handled : List Handled
  pub told : IsAccountOf one.events one.taken handled
  pub makes : IsMade one.found handled made

-- those of all starts, in order
abbrev pub AreMadeIn : List Start → List Handled → Type 0
AreMadeIn [] made = made ≡ []
AreMadeIn (one ∷ others) made = (here : List Handled) × (there : List Handled)
    × IsMadeIn one here × AreMadeIn others there × (made ≡ here ++ there)

-- ---- one laboratory by itself, over all starts

-- the events that made what each start left
abbrev pub AreMadeAt : List Start → List (List Handled) → Type 0
AreMadeAt [] made = made ≡ []
AreMadeAt (one ∷ others) made = (here : List Handled) × (there : List (List Handled))
    × IsMadeIn one here × AreMadeAt others there × (made ≡ here ∷ there)

-- what the laboratory answered at all starts, in order
abbrev pub answers_at : List ℕ → List Start → List (List ℕ)
answers_at code [] = []
answers_at code (one ∷ others) = own_answers code one.handled ++ answers_at code others

-- what its own small machine answers: at each start, to its own events that were taken there, from
-- where its own events that made what was left have brought it
abbrev pub machine_at : List ℕ → Option Lab → List Start → List (List Handled) → List (List ℕ)
machine_at code lab [] made = []
machine_at code lab (one ∷ others) [] = []
machine_at code lab (one ∷ others) (here ∷ there) =
    alone_answers code lab (own_events code one.handled)
    ++ machine_at code (alone_after code lab (own_events code here)) others there

-- and what that machine is after them
abbrev pub machine_after : List ℕ → Option Lab → List (List Handled) → Option Lab
machine_after code lab [] = lab
machine_after code lab (here ∷ there) =
    machine_after code (alone_after code lab (own_events code here)) there

-- over these starts a laboratory was its own small machine alone: its answers, byte for byte, and
-- what it is at the end
pub record IsAloneAt (first : Meaning) (starts : List Start) (made : List (List Handled))
    (code : List ℕ) : Type 0 where
  pub answers : answers_at code starts ≡ machine_at code (first code) starts made
  pub rows : left_by first starts code ≡ machine_after code (first code) made
