use Rattle.std.proofs.Common.{sym, ap, ◌∙◌, ◌∷◌, lit<}
use Rattle.lab_wire.specs.Paths.{lab_in, place_in, segments}
use Rattle.lab_wire.proofs.Parts.{cut_at, not_cut}
use Rattle.lab_wire.proofs.PathLemmas.{no_segment, first_segment}
use Rattle.lab_wire.proofs.paths.next_segment.Goals as goal

pub returns-in-Some : goal.returns-in-Some
returns-in-Some c =
    let cut = cut_at 47 (lit< tt) c.args.place.now c.split_once.result c.split_once.ensures.cases _ _ c.in-Some.is in
    first_segment c.args.place.now cut.0
    ∙ ap (λ rest. lab_in rest ∷ segments (place_in rest)) (sym cut.2)
    ∙ ap (λ segment. segment ∷ segments (place_in c.in-Some.rest.now)) (sym c.lab_in.ensures)
    ∙ ap (λ after. c.lab_in.result.now ∷ segments after) (sym c.place_in.ensures)

pub returns-in-None : goal.returns-in-None
returns-in-None c =
    no_segment c.args.place.now (not_cut 47 (lit< tt) c.args.place.now c.split_once.result c.split_once.ensures.cases c.in-None.is)
