-- Serving one request over a connection: which request it was that came, what was done of it, and
-- what went out: the interim answer where one is due, and then the reply (RFC 9110, section 10.1.1;
-- RFC 9112, section 9).
use Rattle.std.specs.Prelude.{◌≡◌, ◌⊎◌, ◌<◌, ◌++◌, Bool, ℕ, List, [], Option, Some, None, Result, Ok, Err, length, take}
use Rattle.std.specs.Io.KnownBytes.{Appends}
use Rattle.lab_forms_texts.specs.declared.tick.Tick.{Tick}
use Rattle.lab_records_keeper.specs.declared.keeper.Keeper.{Ghosts}
use Rattle.lab_records_keeper.specs.Worlds.{Passes}
use Rattle.lab_wire.specs.Asked.{asked}
use Rattle.lab_desk_foundings.specs.declared.run_faults.ServeFault.{ServeFault}
use Rattle.lab_desk_foundings.specs.declared.run_faults.ServeFault.TheVariants.{Read, Interim, Reply}
use Rattle.lab_desk_events.specs.Keeping.{GivenWithin, Stays}
use Rattle.lab_desk_events.specs.Requests.{AskedInBytes}
use Rattle.lab_desk.specs.Handling.{Handles}

-- ---- what was handled

-- what goes between a client and a desk
pub record Exchange : Type 0 where
  -- the bytes that the reader had, where they are known
  pub known : Option (List ℕ)
  -- the moment and the random words at which they came
  pub tick : Tick
  -- what was replied
  pub reply : List ℕ

-- this is what the bytes ask that the reader had, where they are known
abbrev pub AreAsked : Option (List ℕ) → AskedInBytes → Type 0
AreAsked None asks = Unit {0}
AreAsked (Some bytes) asks = asks ≡ asked bytes

-- the request that the reader had was handled as `Desk::handle` handles it
pub record HandlesRequest {S : Type 0} (keeper : Ghosts S) (old new : S)
    (exchange : Exchange) : Type 0 where
  pub asks : AskedInBytes
  pub asked_are : AreAsked exchange.known asks
  pub is_taken : Bool
  pub handles : Handles keeper old new (record {
    tick = exchange.tick;
    asks = asks;
    is_taken = is_taken;
    reply = exchange.reply;
  })

-- ---- how serving ended

-- a fact on a request that was handled: it was served whole, or the writer failed within the reply
abbrev pub OnHandled : Result (Unit {0}) ServeFault → Type 0 → Type 0
OnHandled (Ok _) P = P
OnHandled (Err Read) P = Unit {0}
OnHandled (Err (Interim sent)) P = Unit {0}
OnHandled (Err (Reply sent)) P = P

-- a fact on a request that wasn't: the reader failed, or the writer within the interim answer
abbrev pub OnUnhandled : Result (Unit {0}) ServeFault → Type 0 → Type 0
OnUnhandled (Ok _) P = Unit {0}
OnUnhandled (Err Read) P = P
OnUnhandled (Err (Interim sent)) P = P
OnUnhandled (Err (Reply sent)) P = Unit {0}

-- what serving left, however it ended: what the reader had was handled, where it came; and what
-- stays true of all that is kept
pub record Serves {S : Type 0} (keeper : Ghosts S) (old new : S) (exchange : Exchange)
    (result : Result (Unit {0}) ServeFault) : Type 0 where
  pub handled : OnHandled result (HandlesRequest keeper old new exchange)
  pub stays : GivenWithin (keeper.world old) (keeper.world new)
      (Stays (keeper.world old) (keeper.world new))
  pub passes : Passes (keeper.world old) (keeper.world new)

-- ---- what went out

-- in all: the interim answer and then the reply, or its first bytes, where the writer failed within
-- it
abbrev pub WritesReply : List ℕ → List ℕ → Result (Unit {0}) ServeFault → Option (List ℕ) →
    Option (List ℕ) → Type 0
WritesReply interim reply (Ok _) before after = Appends before after (interim ++ reply)
WritesReply interim reply (Err Read) before after =
    Appends before after interim ⊎ Appends before after []
WritesReply interim reply (Err (Interim sent)) before after =
    Appends before after (take sent interim) × (sent < length interim)
WritesReply interim reply (Err (Reply sent)) before after =
    Appends before after (interim ++ take sent reply) × (sent < length reply)
