-- The router of the table: its places, inserted one after another, each with its number (`matchit`,
-- whose `first` says which of them a path finds).
use Rattle.std.specs.Prelude.{ℕ, ◌+◌, List, [], ◌∷◌, Result, Ok, Err}
use Rattle.matchit.specs.Rows.{RowsOf}
use Rattle.matchit.specs.Order.{placed}
use Rattle.matchit.specs.Route.{Scan, parse_route}
use Rattle.matchit.specs.Router.{RouteOf, route_from}
use Rattle.matchit.specs.declared.error.InsertError.{InsertError}
use Rattle.lab_wire.specs.Places.{texts}

abbrev pub Rows : Type 0
Rows = RowsOf (RouteOf ℕ)

-- a number among those of a router, by what is read of its text
abbrev pub among : Result Scan InsertError → ℕ → Rows → Rows
among (Ok read) number rows = placed (read.pattern, route_from read number) rows
among (Err fault) number rows = rows

-- the router after these texts, the first of which has the number
abbrev pub router_with : Rows → ℕ → List (List ℕ) → Rows
router_with rows number [] = rows
router_with rows number (text ∷ more) =
    router_with (among (parse_route text) number rows) (number + 1) more

unfoldable pub router_of_table : Rows
router_of_table = router_with [] 0 texts
