-- A rehearsal: a laboratory is founded in memory, at the first of all moments, and asked for its
-- card (RFC 9112, section 2).
use Rattle.std.specs.Prelude.{◌≡◌, ◌⊎◌, ◌++◌, ℕ, List, [], ◌∷◌, Option, Result, Ok, Err, IfSome, codes, take}
use Rattle.std.specs.Io.KnownBytes.{Appends}
use Rattle.lab_forms_texts.specs.declared.tick.Tick.{Tick}
use Rattle.lab_desk_foundings.specs.Faults.{FoundFaultFits}
use Rattle.lab_desk_foundings.specs.Foundings.{founding_in}
use Rattle.lab_program_serve.specs.Visits.{Visit}
use Rattle.lab_program_host.specs.declared.faults.RehearsalFault.{RehearsalFault}
use Rattle.lab_program_host.specs.declared.faults.RehearsalFault.TheVariants.{Founding, Server}

-- the tick of a rehearsal at a moment: its words are the same each time
abbrev pub rehearsal_tick : ℕ → Tick
rehearsal_tick moment = record {
  moment = moment;
  words = 1 ∷ 2 ∷ 3 ∷ 4 ∷ 5 ∷ 6 ∷ 7 ∷ 8 ∷ [];
}

-- this holds of some bytes as a body: all of the input, where that is known; else nothing says that
-- they were read
abbrev pub OfBody : Option (List ℕ) → (List ℕ → Type 0) → Type 0
OfBody known Holds = (bytes : List ℕ) × IfSome known (λ all. bytes ≡ all) × Holds bytes

-- a refusal of the founding is the body's, or tells why no laboratory is born from it
abbrev pub IsUnfounded : List ℕ → List ℕ → RehearsalFault → Type 0
IsUnfounded code body (Founding fault) =
    FoundFaultFits ⊥ ⊥ code (rehearsal_tick 0) (founding_in body) fault
IsUnfounded code body (Server fault) = Unit {0}

-- ---- over the connection

-- the card of the laboratory of this code is asked for
abbrev pub card_request : List ℕ → List ℕ
card_request code =
    codes "GET /labs/" ++ code ++ codes " HTTP/1.1\r\nHost: localhost\r\n\r\n"

-- all that a reader had was written, where it is known; where a fault came, as many of its first
-- bytes as there may be
abbrev pub Forwards : {F : Type 0} → Option (List ℕ) → Result (Unit {0}) F → Option (List ℕ) →
    Option (List ℕ) → Type 0
Forwards known (Ok _) before after =
    (bytes : List ℕ) × IfSome known (λ all. bytes ≡ all) × Appends before after bytes
Forwards known (Err _) before after =
    (bytes : List ℕ) × IfSome known (λ all. (sent : ℕ) × (bytes ≡ take sent all))
    × Appends before after bytes

-- one connection was served, at this tick; where a fault came, one or none
abbrev pub IsServedAt : {F : Type 0} → Tick → Result (Unit {0}) F → List Visit → Type 0
IsServedAt tick (Ok _) visits = (visit : Visit) × (visits ≡ visit ∷ [])
    × (visit.exchange.tick ≡ tick)
    × (visit.ending ≡ Ok tt)
IsServedAt tick (Err _) visits = (visits ≡ []) ⊎ ((visit : Visit) × (visits ≡ visit ∷ [])
    × (visit.exchange.tick ≡ tick))
