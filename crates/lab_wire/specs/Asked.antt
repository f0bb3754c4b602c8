-- What the bytes of a request ask of which laboratory, or why they are refused. The checks are
-- those of the definitions named here, in this order, and the first that fails is the refusal (RFC
-- 9112, sections 2 to 6; docs/HTTP.md has the same list):
--
--   head_too_long     is_over_limits                 lab_wire_heads: Heads
--   bad_head          head_of, keeps_host_rule       lab_wire_heads: Heads
--   bad_head          is_repeated, of two fields     lab_wire_heads: Lengths, head_checks
--   transfer_coding   has_field                      the same
--   bad_head          is_length_good                 the same
--   length_wanted     is_post                        the same
--   body_too_long     body_length                    the same
--   short_body        body_end                       lab_wire_heads: Requests
--   no_route          behind, is_lab_code, is_place  lab_wire: Routes
--   method            row_of                         lab_wire: Routes
--   bad_body          range_in                       lab_wire: Queries
--   bad_body, bad_name, and what is wrong with a form or with keys
--                     body_named                     lab_wire_bodies: Bodies
use Rattle.std.specs.Prelude.{◌≡◌, ℕ, List, Result, Ok, Err}
use Rattle.lab_wire_heads.specs.declared.refusals.HeadRefusal.{HeadRefusal}
use Rattle.lab_wire_heads.specs.Requests.{RequestParts, request_in}
use Rattle.lab_wire.specs.declared.route_refusals.RouteRefusal.{RouteRefusal}
use Rattle.lab_wire.specs.declared.commands.Asked.{Asked}
use Rattle.lab_wire.specs.Commands.{command_asked, MakesSomething}
use Rattle.lab_wire.specs.declared.refusals.RequestRefusal.{RequestRefusal}
use Rattle.lab_wire.specs.declared.refusals.RequestRefusal.TheVariants.{Head, Route}
use Rattle.lab_forms_texts.specs.declared.refusals.Fault.{Fault}
use Rattle.lab_forms_texts.specs.declared.refusals.Fault.TheVariants.{Refused, Memory}

-- what comes of a request's route, its refusal as the wire's
abbrev pub of_route : {A : Type 0} → Result A RouteRefusal → Result A RequestRefusal
of_route (Ok found) = Ok found
of_route (Err refusal) = Err (Route refusal)

-- what comes of reading a request: of one that is refused, that
abbrev pub of_request : {A : Type 0} → (RequestParts → Result A RouteRefusal) →
    Result RequestParts HeadRefusal → Result A RequestRefusal
of_request says (Ok request) = of_route (says request)
of_request says (Err refusal) = Err (Head refusal)

-- what the bytes ask
unfoldable pub asked : List ℕ → Result Asked RequestRefusal
asked bytes = of_request command_asked (request_in bytes)

-- something is made of a request, where there is one
abbrev pub MakesOf : Result RequestParts HeadRefusal → Type 0
MakesOf (Ok request) = MakesSomething request
MakesOf (Err refusal) = ⊥

-- The faults of reading what is asked: the refusal that comes of it; out of memory only where the
-- bytes are a whole request of which something is made: it is known what it asks, or it posts a
-- body with a byte. So it never hides what is wrong with a head, a length, a path, a method or a
-- query, nor that a posted body is empty.
abbrev pub RequestFaultFits : List ℕ → Fault RequestRefusal → Type 0
RequestFaultFits bytes (Refused refusal) = asked bytes ≡ Err refusal
RequestFaultFits bytes Memory = MakesOf (request_in bytes)
