-- What connections make of a desk: each is handled in its turn, over the keeper as the one before
-- it left it, and nothing else is done.
use Rattle.std.specs.Prelude.{◌≡◌, ◌≤◌, ◌⊎◌, ◌++◌, ℕ, Bool, false, List, [], ◌∷◌, Option, None, Result, Ok, Err, IfSome, codes, length, map, nat_eq}
use Rattle.std.specs.Io.KnownBytes.{Keeps}
use Rattle.std.specs.List.{starts_with}
use Rattle.lab_records_keeper.specs.declared.keeper.Keeper.{Ghosts}
use Rattle.lab_wire_heads.specs.Interims.{interim_text}
use Rattle.lab_desk_events.specs.Keeping.{AreWithin}
use Rattle.lab_desk.specs.Answering.{AnswersRequest}
use Rattle.lab_desk.specs.Serving.{Exchange, HandlesRequest, OnHandled, OnUnhandled, WritesReply}
use Rattle.lab_program_host.specs.declared.faults.ConnectionFault.{ConnectionFault}
use Rattle.lab_program_host.specs.declared.faults.ConnectionFault.TheVariants.{Serving, Memory}
use Rattle.lab_program_host.specs.Sources.{Drawing, GivesInOrder}

-- how serving a connection ended
abbrev pub Ending : Type 0
Ending = Result (Unit {0}) ConnectionFault

-- a fact on a request that was handled
abbrev pub OnServed : Ending → Type 0 → Type 0
OnServed (Ok _) P = P
OnServed (Err (Serving fault)) P = OnHandled (Err fault) P
OnServed (Err Memory) P = Unit {0}

-- a fact on a request that wasn't: it hadn't come, or there was no memory for a buffer
abbrev pub OnUnserved : Ending → Type 0 → Type 0
OnUnserved (Ok _) P = Unit {0}
OnUnserved (Err (Serving fault)) P = OnUnhandled (Err fault) P
OnUnserved (Err Memory) P = P

-- what went out over the connection: the interim answer where one is due, then the reply, or what a
-- failing writer took of them; without a buffer nothing
abbrev pub SendsReply : List ℕ → List ℕ → Ending → Option (List ℕ) → Option (List ℕ) → Type 0
SendsReply interim reply (Ok done) before after = WritesReply interim reply (Ok done) before after
SendsReply interim reply (Err (Serving fault)) before after =
    WritesReply interim reply (Err fault) before after
SendsReply interim reply (Err Memory) before after = Keeps before after

-- a connection: what its client sends, where that is known, the tick that was drawn when it was
-- accepted, and the reply; how serving it ended; and what had gone out over it before and after
pub record Visit : Type 0 where
  pub exchange : Exchange
  pub ending : Ending
  pub before : Option (List ℕ)
  pub after : Option (List ℕ)

-- the reply went out over the connection, whole or cut
abbrev pub IsSent : Visit → Type 0
IsSent visit = IfSome visit.exchange.known (λ bytes.
    SendsReply (interim_text bytes) visit.exchange.reply visit.ending visit.before visit.after)

-- a reply that refuses a request for the store's sake, or for want of memory (RFC 9110, 15.6.4,
-- '503 Service Unavailable')
abbrev pub is_unavailable : List ℕ → Bool
is_unavailable reply = starts_with nat_eq reply (codes "HTTP/1.1 503 ")

module _ {S : Type 0} (keeper : Ghosts S) where
  -- the request of one connection was handled, or the keeper is as it was; and what a call of the
  -- desk asks was so: laboratories within their limits, an honest keeper, and well-kept tables
  pub record IsVisit (old : S) (visit : Visit) (new : S) : Type 0 where
    pub within : AreWithin (keeper.world old)
    pub honest : (keeper.world new).is_honest
    pub reached : (keeper.world old).is_reached
    pub handled : OnServed visit.ending (HandlesRequest keeper old new visit.exchange)
    pub untouched : OnUnserved visit.ending (new ≡ old)
    pub sent : IsSent visit

  -- behind a reply: the keeper is as it was, unless that is one for the store's sake; or it was
  -- asked whether it answers, and did
  abbrev pub GoesOn : List ℕ → S → S → Type 0
  GoesOn reply old new = ((is_unavailable reply ≡ false) × (new ≡ old))
      ⊎ AnswersRequest keeper old new (Ok tt)

  -- behind any reply the keeper is as it was
  abbrev pub IsStill : List ℕ → S → S → Type 0
  IsStill reply old new = new ≡ old

  -- so were those of connections, one after the other, the first of them behind a reply; and this
  -- came between two of them
  abbrev pub AreVisits : (List ℕ → S → S → Type 0) → List ℕ → S → List Visit → S → Type 0
  AreVisits Between reply old [] new = new ≡ old
  AreVisits Between reply old (visit ∷ visits) new = (start : S) × (next : S)
      × Between reply old start × IsVisit start visit next
      × AreVisits Between visit.exchange.reply next visits new

-- what a listener, a clock and a source of random words give before serving and after it, where
-- that is known: of a connection, what its client sends, where that is known
pub record Sources : Type 0 where
  pub coming : Option (List (Option (List ℕ)))
  pub left : Option (List (Option (List ℕ)))
  pub drawing : Drawing

-- of a listener nothing is known of what its clients send
abbrev pub listened : Drawing → Sources
listened drawing = record { coming = None; left = None; drawing = drawing }

-- the visits are those of the connections, the moments and the words that the sources gave, in
-- order
pub record AreGiven (visits : List Visit) (sources : Sources) : Type 0 where
  pub readers_are : GivesInOrder sources.coming sources.left
      (map (λ (visit : Visit). visit.exchange.known) visits)
  pub moments_are : GivesInOrder sources.drawing.moments sources.drawing.later
      (map (λ (visit : Visit). visit.exchange.tick.moment) visits)
  pub words_are : GivesInOrder sources.drawing.words sources.drawing.further
      (map (λ (visit : Visit). visit.exchange.tick.words) visits)

-- these come first in a list, where it is known
abbrev pub StandsFirst : {X : Type 0} → List X → Option (List X) → Type 0
StandsFirst {X} front known = IfSome known (λ all. (rest : List X) × (all ≡ front ++ rest))

-- where a fault came, they are the first of them
pub record AreFirst (visits : List Visit) (sources : Sources) : Type 0 where
  pub readers_are : StandsFirst (map (λ (visit : Visit). visit.exchange.known) visits) sources.coming
  pub moments_are : StandsFirst (map (λ (visit : Visit). visit.exchange.tick.moment) visits)
      sources.drawing.moments
  pub words_are : StandsFirst (map (λ (visit : Visit). visit.exchange.tick.words) visits)
      sources.drawing.words

-- what was given is kept, however serving ended
abbrev pub KeepsGiven : {F : Type 0} → Result (Unit {0}) F → List Visit → Sources → Type 0
KeepsGiven (Ok _) visits sources = AreGiven visits sources
KeepsGiven (Err _) visits sources = AreFirst visits sources

-- so many connections were wanted: where no fault came, as many were served; and never more
abbrev pub AreCounted : {F : Type 0} → Result (Unit {0}) F → ℕ → List Visit → Type 0
AreCounted (Ok _) count visits = length visits ≡ count
AreCounted (Err _) count visits = length visits ≤ count
