use Rattle.std.proofs.Common.{ap, ◌∙◌}
use Rattle.lab_wire.specs.Private.Places.{place_shown, asked_by}
use Rattle.lab_wire.proofs.MethodLemmas.{unread}
use Rattle.lab_wire.proofs.routes.Place.by.Goals as goal

pub returns-in-Ok : goal.returns-in-Ok
returns-in-Ok c =
    c.route_named.ensures ∙ ap (λ m. asked_by m (place_shown c.args.self.now)) (c.as_str.ensures.value ∙ c.in-Ok.ensures.ok)

pub returns-in-Err : goal.returns-in-Err
returns-in-Err c =
    unread c.from_bytes.result c.in-Err.field-0 c.args.method.now (place_shown c.args.self.now) c.in-Err.is c.from_bytes.ensures.no_memory_needed
