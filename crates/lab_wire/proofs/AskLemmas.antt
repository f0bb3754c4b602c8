-- What bytes ask, by what their request asks.
use Rattle.std.proofs.Common.{◌≡◌, ℕ, List, Ok, Err, ap, ◌∙◌}
use Rattle.lab_wire_heads.specs.declared.refusals.HeadRefusal.{HeadRefusal}
use Rattle.lab_wire_heads.specs.Requests.{RequestParts, request_in}
use Rattle.lab_wire.specs.declared.commands.Asked.{Asked}
use Rattle.lab_forms_texts.specs.declared.refusals.Fault.{Fault}
use Rattle.lab_wire.specs.declared.refusals.RequestRefusal.{RequestRefusal}
use Rattle.lab_wire.specs.declared.route_refusals.RouteRefusal.{RouteRefusal}
use Rattle.lab_forms_texts.specs.declared.refusals.Fault.TheVariants as routes
use Rattle.lab_wire.specs.Commands.{command_asked, RouteFaultFits}
use Rattle.lab_wire.specs.declared.refusals.RequestRefusal.TheVariants.{Head, Route}
use Rattle.lab_forms_texts.specs.declared.refusals.Fault.TheVariants.{Refused, Memory}
use Rattle.lab_wire.specs.Asked.{of_route, of_request, asked, RequestFaultFits}

pub asks_of_request : (bytes : List ℕ) (parts : RequestParts) (asks : Asked) → request_in bytes ≡ Ok parts
    → command_asked parts ≡ Ok asks → asked bytes ≡ Ok asks
unfolding asked
asks_of_request bytes parts asks is says = ap (of_request command_asked) is ∙ ap of_route says

-- the fault of a request's route, as the wire's
abbrev pub fault_shown : Fault RouteRefusal → Fault RequestRefusal
fault_shown (routes.Refused refusal) = Refused (Route refusal)
fault_shown routes.Memory = Memory

pub fault_of_route : (bytes : List ℕ) (parts : RequestParts) (fault : Fault RouteRefusal) → request_in bytes ≡ Ok parts
    → RouteFaultFits parts fault → RequestFaultFits bytes (fault_shown fault)
unfolding asked
fault_of_route bytes parts (routes.Refused refusal) is says = ap (of_request command_asked) is ∙ ap of_route says
fault_of_route bytes parts routes.Memory is says = rw is says

pub fault_of_head : (bytes : List ℕ) (refusal : HeadRefusal) → request_in bytes ≡ Err refusal → asked bytes ≡ Err (Head refusal)
unfolding asked
fault_of_head bytes refusal is = ap (of_request command_asked) is
