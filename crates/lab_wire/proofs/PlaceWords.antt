-- Definitions for proofs only, which belong to specs/Places.antt: no clause names them.
use Rattle.std.specs.Prelude.{ℕ, List, Option, Some, None, Result, Err}
use Rattle.lab_wire.specs.declared.route_refusals.RouteRefusal.{RouteRefusal}
use Rattle.lab_wire.specs.declared.route_refusals.RouteRefusal.TheVariants.{NoRoute}
use Rattle.lab_wire.specs.declared.routes.Route.{Route}
use Rattle.lab_wire.specs.Private.Places.{Place, asked_by, allowed_at, route_or_methods}

-- what the place has for a method
abbrev pub route_in : List ℕ → Option Place → Result Route RouteRefusal
route_in method None = Err NoRoute
route_in method (Some p) = route_or_methods (asked_by method p) (allowed_at p)
