use Rattle.std.proofs.Common.{◌<◌, Ok, Err, length, subst, sym, arith}
use Rattle.std.proofs.lemmas.Grind.{common_steps}
use Rattle.matchit.specs.Route.{parse_route}
use Rattle.matchit.specs.Router.{InsertsRead}
use Rattle.lab_wire.specs.Places.{texts}
use Rattle.lab_wire.proofs.InsertLemmas.{Left, first_left, next_left, no_fault, text_of}
use Rattle.lab_wire.proofs.routes.Routes.new.Goals as goal

pub loop-number-init : goal.loop-number-init
loop-number-init c =
    let left : Left c.new-router.result 0 texts = subst (λ r. Left r 0 texts) (sym c.new-router.ensures) first_left in
    (omega arith, left.0, left.1)

pub loop-number-preserved : goal.loop-number-preserved
loop-number-preserved c =
    let inv = c.loop-number.invariant in
    let here : c.loop-number.number < length c.places-table.result.now = grind (arith, common_steps, c.loop-number-test.true) in
    let within : c.loop-number.number < length texts = omega (arith, here, c.places-table.ensures.count) in
    let text = text_of c.places-table.result.now texts c.loop-number.number _ c.places-table.ensures.shown here in
    let is = subst (λ t. InsertsRead (parse_route t) c.loop-number.number c.loop-number.router c.insert.new.self (Ok tt)) text c.in-Ok.ensures in
    let next = next_left c.loop-number.router c.insert.new.self c.loop-number.number within (inv.1, inv.2) is in
    (omega (arith, within), next.0, next.1)

pub memory_alone-requires : goal.memory_alone-requires
memory_alone-requires c =
    let inv = c.loop-number.invariant in
    let here : c.loop-number.number < length c.places-table.result.now = grind (arith, common_steps, c.loop-number-test.true) in
    let within : c.loop-number.number < length texts = omega (arith, here, c.places-table.ensures.count) in
    let text = text_of c.places-table.result.now texts c.loop-number.number _ c.places-table.ensures.shown here in
    let is = subst (λ t. InsertsRead (parse_route t) c.loop-number.number c.loop-number.router c.insert.new.self (Err c.in-Err.fault)) text c.in-Err.ensures in
    no_fault c.loop-number.router c.insert.new.self c.loop-number.number c.in-Err.fault within (inv.1, inv.2) is
