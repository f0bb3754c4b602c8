use Rattle.std.proofs.Common.{◌≡◌, ap, ◌∙◌, sym}
use Rattle.std.specs.Prelude.{option_map}
use Rattle.matchit.specs.Seek.{first}
use Rattle.lab_wire.specs.Router.{router_of_table}
use Rattle.lab_wire.proofs.RouterLaws.{Found}
use Rattle.lab_wire.proofs.routes.Routes.number_of.Goals as goal

pub returns-in-Ok : goal.returns-in-Ok
returns-in-Ok c =
    let same : c.self.inside.router ≡ router_of_table = c.self.invariant in
    sym (ap (λ r. option_map (λ (f : Found). f.value) (first r c.args.place.now)) (sym same) ∙ ap (option_map (λ (f : Found). f.value)) c.in-Ok.ensures.found)

pub returns-in-Err : goal.returns-in-Err
returns-in-Err c =
    let same : c.self.inside.router ≡ router_of_table = c.self.invariant in
    sym (ap (λ r. option_map (λ (f : Found). f.value) (first r c.args.place.now)) (sym same) ∙ ap (option_map (λ (f : Found). f.value)) c.in-Err.ensures.missing)
