-- What was received asks what its bytes ask; and what went out, put together.
use Rattle.std.proofs.Common.{◌++◌, ℕ, List, Option, Some, None, Ok, Err, refl, sym, ap}
use Rattle.std.specs.Prelude.{IfSome}
use Rattle.std.specs.Io.KnownBytes.{Appends}
use Rattle.std.proofs.KnownBytes.{Appends-trans}
use Rattle.lab_wire_heads.specs.declared.refusals.HeadRefusal.{HeadRefusal}
use Rattle.lab_wire_heads.specs.declared.refusals.HeadRefusal.TheVariants.{BadHead}
use Rattle.lab_wire_heads.specs.declared.refusals.HeadFault.TheVariants.{Refused as RefusedHead}
use Rattle.lab_wire_heads.specs.Receiving.{IsReception}
use Rattle.lab_wire.specs.Commands.{command_asked}
use Rattle.lab_wire.specs.declared.refusals.RequestRefusal.TheVariants.{Head}
use Rattle.lab_wire.specs.Asked.{asked, of_request}
use Rattle.lab_desk_events.specs.Requests.{AskedInBytes}
use Rattle.lab_desk.specs.Serving.{AreAsked}

-- ---- what is asked

-- a request asks what the bytes ask that it stands at the front of
pub asked_as : (known : Option (List ℕ)) (request : List ℕ) →
    IfSome known (λ bytes. IsReception bytes (Ok request)) → AreAsked known (asked request)
unfolding asked
asked_as None request exact = tt
asked_as (Some bytes) request exact = ap (of_request command_asked) exact.2

-- bytes that are refused ask nothing
pub refused_as : (known : Option (List ℕ)) (refusal : HeadRefusal) →
    IfSome known (λ bytes. IsReception bytes (Err (RefusedHead refusal))) →
    AreAsked known (Err (Head refusal))
unfolding asked
refused_as None refusal exact = tt
refused_as (Some bytes) refusal exact = sym (ap (of_request command_asked) exact)

-- whatever the bytes are, they ask something or are refused
pub some_asked : (known : Option (List ℕ)) → (asks : AskedInBytes) × AreAsked known asks
some_asked None = (Err (Head BadHead), tt)
some_asked (Some bytes) = (asked bytes, refl)

-- ---- what went out

-- the interim answer, and then the reply
pub whole : (known : Option (List ℕ)) (interim : List ℕ → List ℕ) (reply : List ℕ)
    (before between after : Option (List ℕ)) →
    IfSome known (λ bytes. Appends before between (interim bytes)) → Appends between after reply →
    IfSome known (λ bytes. Appends before after (interim bytes ++ reply))
whole None interim reply before between after greeted sent = tt
whole (Some bytes) interim reply before between after greeted sent =
    Appends-trans before between after _ _ greeted sent
