use Rattle.std.proofs.Common.{◌≡◌, ◌≤◌, ◌-◌, true, length, drop}
use Rattle.lab_wire.specs.Places.{texts}
use Rattle.lab_wire.specs.Router.{router_with, router_of_table}
use Rattle.lab_wire.proofs.InsertLemmas.{each_goes_in}
use Rattle.lab_wire.proofs.routes.Routes.new.Given as goal

-- the places that are left go in, and then the router is that of the table
abbrev pub invariant-loop-number : goal.invariant-loop-number
invariant-loop-number l =
    (l.number ≤ length texts)
    × (each_goes_in l.router l.number (drop l.number texts) ≡ true)
    × (router_with l.router l.number (drop l.number texts) ≡ router_of_table)

abbrev pub decreases-loop-number : goal.decreases-loop-number
decreases-loop-number l = length texts - l.number
