use Rattle.std.proofs.Common.{◌≡◌, Some, ap, ◌∙◌, sym, refl}
use Rattle.std.specs.Option.{ok_or}
use Rattle.lab_wire.specs.declared.route_refusals.RouteRefusal.TheVariants.{NoRoute}
use Rattle.lab_wire.specs.Paths.{place_in}
use Rattle.lab_wire.specs.Private.Places.{place_shown}
use Rattle.lab_wire.proofs.AimLemmas.{asks_there, refused_there}
use Rattle.lab_wire.proofs.PlaceLemmas.{place_begins}
use Rattle.lab_wire.proofs.routes.Routes.aim_by.Goals as goal

pub returns-in_default : goal.returns-in_default
returns-in_default c =
    let nothing = rw c.in_default.is at c.place_to.ensures.place in
    sym (refused_there c.args.method.now (place_in c.args.rest.now) _ _ (place_begins c.args.rest.now) nothing refl)

pub returns-in-Ok : goal.returns-in-Ok
returns-in-Ok c =
    let there = rw c.in-Some.is at c.place_to.ensures.place in
    let both =
    asks_there c.args.method.now (place_in c.args.rest.now) (place_shown c.in-Some.near) c.in-Ok.route c.in-Some.parts (place_begins c.args.rest.now)
    there (sym c.route_by.ensures ∙ c.in-Ok.is) c.in-Some.ensures.parts in
    c.ok_or.ensures.value ∙ ap (λ asked. ok_or asked NoRoute) (c.aim_of.ensures ∙ both.0) ∙ sym both.1

pub returns : goal.returns
returns c =
    let there = rw c.in-Some.is at c.place_to.ensures.place in
    sym (refused_there c.args.method.now (place_in c.args.rest.now) (Some (place_shown c.in-Some.near)) c.in-Err.refusal
    (place_begins c.args.rest.now) there (sym c.route_by.ensures ∙ c.in-Err.is))
