-- Values from outside, computed on the definitions: the request of a rehearsal (RFC 9112, section 2), its tick, and small
-- instances of what is printed of a reply.
use Rattle.std.proofs.Common.{◌≡◌, codes, refl, length, Some, Ok, Err, []}
use Rattle.lab_program_host.specs.declared.faults.ServerFault.{ServerFault}
use Rattle.lab_program_host.specs.declared.faults.ServerFault.TheVariants.{Write}
use Rattle.lab_program_serve.specs.Rehearsals.{card_request, rehearsal_tick, Forwards}

-- no body, and so no length; an empty line ends the request
pub known_request : card_request (codes "aqua") ≡ codes "GET /labs/aqua HTTP/1.1\r\nHost: localhost\r\n\r\n"
known_request = refl

-- the tick of a rehearsal has eight words
pub known_tick : length (rehearsal_tick 100).words ≡ 8
known_tick = refl

-- a reply goes out whole, or its first bytes where a fault came
pub known_forwards : Forwards {F = ServerFault} (Some (codes "reply")) (Ok tt) (Some []) (Some (codes "reply"))
    × Forwards {F = ServerFault} (Some (codes "reply")) (Err Write) (Some []) (Some (codes "rep"))
known_forwards = ((codes "reply", refl, refl), (codes "rep", (3, refl), refl))
