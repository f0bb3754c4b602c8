-- The times of a server. Over a keeper that was opened it serves one connection after the other.
-- Once that keeper no longer answers, it is given up and closed, and before the next request one is
-- opened anew; where none could be opened, that request is refused, and the next one tries again.
use Rattle.std.specs.Prelude.{◌≡◌, ◌⊎◌, ◌++◌, ℕ, List, [], ◌∷◌, Option, Some, None, Result}
use Rattle.lab_forms_texts.specs.declared.refusals.Fault.{Fault}
use Rattle.lab_records_keeper.specs.declared.faults.BadStore.{BadStore}
use Rattle.lab_records_keeper.specs.declared.keeper.Keeper.{Ghosts}
use Rattle.lab_records_keeper.specs.Worlds.{Passes}
use Rattle.lab_desk_events.specs.Keeping.{GivenWithin, Stays, StaysOn}
use Rattle.lab_desk.specs.Answering.{AnswersRequest}
use Rattle.lab_desk.specs.Desk.{Served}
use Rattle.lab_desk.specs.Serving.{HandlesRequest}
use Rattle.lab_program_serve.specs.declared.shut.Shut.{Shut}
use Rattle.lab_program_serve.specs.Shut.{shut_keeper}
use Rattle.lab_program_serve.specs.Visits.{AreCounted, AreVisits, GoesOn, IsSent, KeepsGiven, OnServed, OnUnserved, Sources, Visit}

pub record Time (S : Type 0) : Type 0 where
  -- the keeper as it was opened, and the reply that its desk held then: none but at the start
  pub first : S
  pub reply : List ℕ
  -- the connections that were served over it
  pub visits : List Visit
  -- the keeper after them
  pub last : S
  -- those that came once it was given up, while none could be opened
  pub refused : List Visit

-- all connections, in order
abbrev pub visits_of : {S : Type 0} → List (Time S) → List Visit
visits_of [] = []
visits_of (time ∷ times) = (time.visits ++ time.refused) ++ visits_of times

-- the request of a connection was handled as by a keeper that a fault has shut
pub record IsHandledShut (visit : Visit) : Type 0 where
  pub old : Shut
  pub new : Shut
  pub handled : OnServed visit.ending (HandlesRequest shut_keeper old new visit.exchange)
  pub sent : IsSent visit

-- why there was no desk: no keeper was opened; or memory ran out after the opening, and the keeper
-- was closed
abbrev pub IsUnmended : {S : Type 0} → (opened closed : S → Type 0) → (Fault BadStore → Type 0) →
    Type 0
IsUnmended {S} opened closed unopened = ((fault : Fault BadStore) × unopened fault)
    ⊎ ((kept : S) × opened kept × closed kept)

-- the requests of these connections were refused, each since there was no desk
abbrev pub AreRefused : (unmended : Type 0) → List Visit → Type 0
AreRefused unmended [] = Unit {0}
AreRefused unmended (visit ∷ visits) =
    (IsHandledShut visit × unmended) × AreRefused unmended visits

module _ {S : Type 0} (keeper : Ghosts S) where
  -- a connection was served over a desk, whatever was so before
  pub record IsServed (old : S) (visit : Visit) (new : S) : Type 0 where
    pub handled : OnServed visit.ending (HandlesRequest keeper old new visit.exchange)
    pub untouched : OnUnserved visit.ending (new ≡ old)
    pub sent : IsSent visit
    pub stays : GivenWithin (keeper.world old) (keeper.world new)
        (Stays (keeper.world old) (keeper.world new))
    pub passes : Passes (keeper.world old) (keeper.world new)

  -- a keeper is as it was, or was asked whether it answers
  abbrev pub IsAsked : S → S → Type 0
  IsAsked old new = (new ≡ old)
      ⊎ ((answer : Result (Unit {0}) (Fault BadStore)) × AnswersRequest keeper old new answer)

  module _ (closed : S → Type 0) where
    -- the keeper that a time ends with is given up: it is closed as it is, or as it was asked
    pub record IsGivenUp (last : S) : Type 0 where
      pub given_up : S
      pub asked : IsAsked last given_up
      pub closed_so : closed given_up

    -- the last time ends with this keeper, unless none could be opened; and the keeper that any
    -- other time ends with is given up
    abbrev pub EndWith : List (Time S) → Option (Served S) → Type 0
    EndWith [] left = ⊥
    EndWith (time ∷ []) (Some desk) = (time.refused ≡ []) × (time.last ≡ desk.keeper)
    EndWith (time ∷ []) None = IsGivenUp time.last
    EndWith (time ∷ next ∷ times) left = IsGivenUp time.last × EndWith (next ∷ times) left

module _ {S : Type 0} (keeper : Ghosts S) (opened closed : S → Type 0)
    (unopened : Fault BadStore → Type 0) where
  -- one time. Its keeper passes on what every call passes on, and all that stays true stays so,
  -- from its opening to the last connection: so a crash then leaves what it may leave there, of
  -- which the next opening finds one
  pub record IsTime (time : Time S) : Type 0 where
    pub opened_so : opened time.first
    pub are : GivenWithin (keeper.world time.first) (keeper.world time.last)
        (AreVisits keeper (GoesOn keeper) time.reply time.first time.visits time.last)
    pub stays : GivenWithin (keeper.world time.first) (keeper.world time.last)
        (StaysOn (keeper.world time.first) (keeper.world time.last))
    pub passes : Passes (keeper.world time.first) (keeper.world time.last)
    pub refused_so : AreRefused (IsUnmended opened closed unopened) time.refused

  abbrev pub AreTimes : List (Time S) → Type 0
  AreTimes [] = Unit {0}
  AreTimes (time ∷ times) = IsTime time × AreTimes times

module _ {S : Type 0} (keeper : Ghosts S) (opened : S → Type 0) where
  -- a desk over a keeper that was opened, which has answered nothing
  abbrev pub IsFresh : Served S → Type 0
  IsFresh new = opened new.keeper × (new.reply ≡ [])

  -- a request is served over the desk that there is, or refused where there is none
  abbrev pub IsMet : Option (Served S) → Visit → Option (Served S) → Type 0
  IsMet (Some old) visit (Some new) =
      IsServed keeper old.keeper visit new.keeper × (new.reply ≡ visit.exchange.reply)
  IsMet None visit None = IsHandledShut visit
  IsMet old visit new = ⊥

  -- the first time begins with this keeper
  abbrev pub BeginWith : S → List (Time S) → Type 0
  BeginWith first [] = ⊥
  BeginWith first (time ∷ times) = time.first ≡ first

  module _ (closed : S → Type 0) (unopened : Fault BadStore → Type 0) where
    -- before a request: the keeper is as it was, or answered where the last reply was one for the
    -- store's sake; or it is given up, and another was opened, or none could be
    abbrev pub IsMended : Option (Served S) → Option (Served S) → Type 0
    IsMended (Some old) (Some new) = GoesOn keeper old.reply old.keeper new.keeper
        ⊎ (IsGivenUp keeper closed old.keeper × IsFresh new)
    IsMended None (Some new) = IsFresh new
    IsMended (Some old) None = IsGivenUp keeper closed old.keeper
        × IsUnmended opened closed unopened
    IsMended None None = IsUnmended opened closed unopened

    pub record IsNext (old : Option (Served S)) (visit : Visit) (new : Option (Served S)) :
        Type 0 where
      pub start : Option (Served S)
      pub mended : IsMended old start
      pub met : IsMet start visit new

    -- so many connections were wanted, this is how serving them ended, and this keeper was left
    pub record ServesTimes {F : Type 0} (first : S) (left : Option (Served S))
        (ending : Result (Unit {0}) F) (count : ℕ) (sources : Sources) : Type 0 where
      pub times : List (Time S)
      pub begin : BeginWith first times
      pub ends : EndWith keeper closed times left
      pub are : AreTimes keeper opened closed unopened times
      pub counted : AreCounted ending count (visits_of times)
      pub given : KeepsGiven ending (visits_of times) sources
