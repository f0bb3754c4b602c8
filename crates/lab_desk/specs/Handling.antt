-- What a request leaves of a keeper's laboratories, and what is replied: the contract of
-- `Desk::handle`. Serving a request, and two desks beside one another, say it by the same record.
use Rattle.std.specs.Prelude.{◌≡◌, ◌⊎◌, Bool, true, false, ℕ, List, Ok, Err, IfOk, IsTrue, IsFalse}
use Rattle.lab_forms_texts.specs.declared.tick.Tick.{Tick}
use Rattle.lab_records_keeper.specs.declared.keeper.Keeper.{Ghosts}
use Rattle.lab_records_keeper.specs.Worlds.{World, CommitsAs, Given, IsDurable, Passes, Quiet}
use Rattle.lab_wire.specs.declared.refusals.RequestRefusal.{RequestRefusal}
use Rattle.lab_wire.specs.declared.replies.Answer.TheVariants.{Refused}
use Rattle.lab_wire.specs.Replies.{reply_text, memory_text}
use Rattle.lab_desk_events.specs.Causes.{RefusesAsked}
use Rattle.lab_desk_events.specs.Copies.{IsSoundAnswer}
use Rattle.lab_desk_events.specs.Keeping.{AreLegible, AreReleasing, GivenWithin, Stays}
use Rattle.lab_desk_events.specs.Requests.{AskedInBytes, IsRefusedReply, MovesBy, RefusesRequest, Steps, TakesRequest, is_idle_request}

-- a request, and how it was handled
pub record Handling : Type 0 where
  -- the moment and the random words at which it came
  pub tick : Tick
  -- what its bytes ask
  pub asks : AskedInBytes
  -- whether it was taken
  pub is_taken : Bool
  -- what was replied
  pub reply : List ℕ

-- the reply to bytes that ask nothing: that of their refusal, or that for lack of memory
abbrev pub IsNobodysReply : Tick → AskedInBytes → List ℕ → Type 0
IsNobodysReply tick asks reply =
    (refusal : RequestRefusal) → asks ≡ Err refusal →
    (reply ≡ reply_text tick (Refused refusal)) ⊎ (reply ≡ memory_text)

-- the rows after what bytes ask: at rest where they ask nothing, and else moved by the step
abbrev pub RowsMove : {S : Type 0} → Ghosts S → S → S → Tick → AskedInBytes → Type 0
RowsMove keeper old new tick (Err refusal) = keeper.rests old new
RowsMove keeper old new tick (Ok asked) =
    MovesBy (keeper.world old).meaning tick asked (keeper.moves old new)

module _ {S : Type 0} (keeper : Ghosts S) (old new : S) (request : Handling) where
  -- what is known of the keeper before the request, and after it
  abbrev pub before : World
  before = keeper.world old

  abbrev pub after : World
  after = keeper.world new

  -- whether what the bytes ask writes nothing
  abbrev pub is_idle : Bool
  is_idle = is_idle_request (keeper.world old).meaning request.tick request.asks

  -- the request was handled. `GivenWithin` asks for laboratories within their limits, `Given` not
  pub record Handles : Type 0 where
    -- a request that was taken: the reply is that of the machine of the laboratory that the bytes
    -- name, which took its step; the rows moved by changes that fit it and make that step
    pub taken : GivenWithin before after (request.is_taken ≡ true →
        TakesRequest before after request.tick request.asks request.reply)
    pub rows : GivenWithin before after (request.is_taken ≡ true →
        RowsMove keeper old new request.tick request.asks)
    -- one that was refused, for memory or by the store: the reply says so, every laboratory means
    -- what it meant, and the rows are as they were
    pub refused : Given before after (request.is_taken ≡ false →
        RefusesRequest before after request.tick request.asks request.reply)
    pub rows_refused : Given before after (request.is_taken ≡ false →
        (keeper.world new).is_live → keeper.rests old new)
    -- one that the store refused has its cause there: it refused the part that the request needs, or
    -- the changes that are decided on it
    pub cause : IfOk request.asks (λ one. request.is_taken ≡ false →
        IsRefusedReply (RefusesAsked keeper old new request.tick one) request.tick request.reply)
    -- bytes that ask nothing leave the keeper as it is, and are answered from themselves
    pub untouched : (refusal : RequestRefusal) → request.asks ≡ Err refusal → new ≡ old
    pub nobodys : IsNobodysReply request.tick request.asks request.reply
    -- a crash may leave what it could before, or the step that the request makes; no more than it
    -- could before, where the request writes nothing; once one that writes was taken, its step
    -- alone
    pub crash : GivenWithin before after
        (CommitsAs (Steps request.tick request.asks) before after)
    pub quiet : IsTrue is_idle → Given before after (Quiet before after)
    pub durable : GivenWithin before after (IsFalse is_idle → request.is_taken ≡ true →
        IsDurable after)
    -- what stays true: each laboratory is within its limits, is releasing and legible where it was,
    -- and keeps what was; the tables are well kept, and those that a crash leaves, where they were
    -- (`within`, `releasing`, `legible`, `keeps`, `reached`, `safe`); so are the laboratories in
    -- these (`left_within`, `left_releasing`); and a keeper that was live may be asked again, also
    -- where the request was refused, or its store failed in this call (`again`)
    pub stays : GivenWithin before after (Stays before after)
    pub passes : Passes before after
    -- a copy that was replied is sound, where every laboratory was releasing and legible
    pub sound : GivenWithin before after (AreReleasing before → AreLegible before →
        request.is_taken ≡ true →
        IsSoundAnswer (keeper.world old).meaning request.tick request.asks)
