-- What the wire refuses: bytes that are no request, and requests that ask nothing.
use Rattle.lab_forms_texts.specs.Faults.{Entry}
use Rattle.lab_wire_heads.specs.Refusals.{head_entry}
use Rattle.lab_wire.specs.RouteRefusals.{route_entry}
use Rattle.lab_wire.specs.declared.refusals.RequestRefusal.{RequestRefusal}
use Rattle.lab_wire.specs.declared.refusals.RequestRefusal.TheVariants.{Head, Route}

abbrev pub request_entry : RequestRefusal → Entry
request_entry (Head refusal) = head_entry refusal
request_entry (Route refusal) = route_entry refusal
