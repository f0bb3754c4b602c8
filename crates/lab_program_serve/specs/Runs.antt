-- What is served between two openings is a run of an installation, as the one of `Desk::run`: its
-- events are the requests that were handled (21 CFR 11.10(c); ISO/IEC 17025:2017, 7.11.3).
use Rattle.std.specs.Prelude.{◌≡◌, ◌++◌, List, [], ◌∷◌, map}
use Rattle.lab_records_keeper.specs.Worlds.{World}
use Rattle.lab_desk_events.specs.Alone.{Request}
use Rattle.lab_desk_events.specs.Leaving.{LeavesRun}
use Rattle.lab_desk_events.specs.Requests.{AskedInBytes}
use Rattle.lab_desk_events.specs.Runs.{Handled, IsRun}
use Rattle.lab_desk.specs.Serving.{AreAsked, Exchange}
use Rattle.lab_program_serve.specs.Visits.{Ending, OnServed, OnUnserved, Visit}

-- the request of a connection as it was handled: what its bytes ask, as far as they are known, and
-- the reply
pub record IsRequestOf (exchange : Exchange) (one : Handled) : Type 0 where
  pub asks : AskedInBytes
  pub is : one.event ≡ Request exchange.tick asks
  pub asked_are : AreAsked exchange.known asks
  pub replied : one.answer ≡ exchange.reply

-- a connection brought one request, or none that was handled
abbrev pub Brings : Exchange → Ending → List Handled → Type 0
Brings exchange ending handled =
    OnServed ending ((one : Handled) × IsRequestOf exchange one × (handled ≡ one ∷ []))
    × OnUnserved ending (handled ≡ [])

-- these are the requests of all connections, in order
abbrev pub AreBrought : List Visit → List Handled → Type 0
AreBrought [] handled = handled ≡ []
AreBrought (visit ∷ visits) handled = (here : List Handled) × (there : List Handled)
    × Brings visit.exchange visit.ending here × AreBrought visits there
    × (handled ≡ here ++ there)

-- they are a run, and this a crash may leave at its end, where the keeper was live at its opening:
-- each request found it live, also the last one, which may have shut it
pub record IsServedRun (old new : World) (visits : List Visit) : Type 0 where
  pub handled : List Handled
  pub are : AreBrought visits handled
  pub run : IsRun old new handled
  pub leaves : LeavesRun old.is_live old new (map (λ (one : Handled). one.event) handled)
      (map (λ (one : Handled). one.taken) handled)
