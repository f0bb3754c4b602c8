use Rattle.std.proofs.Common.{◌≡◌, Some, None, ap, sym, ◌∙◌, true, false}
use Rattle.std.specs.Prelude.{option_map, is_some}
use Rattle.lab_wire.specs.declared.aims.Parts.{Parts}
use Rattle.lab_wire.specs.declared.routes.Place.{Place as PlaceOfCode}
use Rattle.lab_wire.specs.Paths.{segments, place_in}
use Rattle.lab_wire.specs.Routes.{all_admitted}
use Rattle.lab_wire.specs.Aims.{no_parts, parts_from}
use Rattle.lab_wire.specs.Private.Places.{Place, place_shown}
use Rattle.lab_wire.specs.Private.Router.{text_at}
use Rattle.lab_wire.proofs.AimLemmas.{admitted_if}
use Rattle.lab_wire.proofs.PlaceLemmas.{place_begins}
use Rattle.lab_wire.proofs.PlaceLaws.{numbered_within, numbered_there, numbered_elsewhere, numbered_nowhere}
use Rattle.lab_wire.proofs.routes.Routes.place_to.Goals as goal

pub returns-in_err-number-clause-place : goal.returns-in_err-number-clause-place
returns-in_err-number-clause-place c =
    let found = rw (c.in_err-number.was, c.place_in-place.ensures) at c.number_of.ensures in
    ap (option_map (λ (f : PlaceOfCode × Parts). place_shown f.0)) c.from_residual.ensures
    ∙ numbered_nowhere (place_in c.args.rest.now) (place_begins c.args.rest.now) found

pub place_of_number-near-requires : goal.place_of_number-near-requires
place_of_number-near-requires c =
    let found = rw (c.in_ok-number.was, c.place_in-place.ensures) at c.number_of.ensures in
    numbered_within (place_in c.args.rest.now) (place_begins c.args.rest.now) c.in_ok-number.number found

pub returns-in_err-parts-clause-place : goal.returns-in_err-parts-clause-place
returns-in_err-parts-clause-place c =
    let place = place_in c.args.rest.now in
    let near = c.place_of_number-near.result in
    let found = rw (c.in_ok-number.was, c.place_in-place.ensures) at c.number_of.ensures in
    let text : near.text.now ≡ text_at c.in_ok-number.number = ap (λ (p : Place). p.text) c.place_of_number-near.ensures in
    let not : all_admitted (segments (text_at c.in_ok-number.number)) (segments place) ≡ false =
    rw (sym text, sym c.place_in-place.ensures) (admitted_if near.text.now c.place_in-place.result.now _ c.parts_by.ensures ∙ ap is_some c.in_err-parts.was) in
    ap (option_map (λ (f : PlaceOfCode × Parts). place_shown f.0)) c.from_residual-in_err-parts.ensures
    ∙ numbered_elsewhere place (place_begins c.args.rest.now) c.in_ok-number.number found not

pub returns-clause-place : goal.returns-clause-place
returns-clause-place c =
    let place = place_in c.args.rest.now in
    let near = c.place_of_number-near.result in
    let found = rw (c.in_ok-number.was, c.place_in-place.ensures) at c.number_of.ensures in
    let text : near.text.now ≡ text_at c.in_ok-number.number = ap (λ (p : Place). p.text) c.place_of_number-near.ensures in
    let of : all_admitted (segments (text_at c.in_ok-number.number)) (segments place) ≡ true =
    rw (sym text, sym c.place_in-place.ensures) (admitted_if near.text.now c.place_in-place.result.now _ c.parts_by.ensures ∙ ap is_some c.in_ok-parts.was) in
    ap Some c.place_of_number-near.ensures ∙ numbered_there place (place_begins c.args.rest.now) c.in_ok-number.number found of

pub returns-clause-parts : goal.returns-clause-parts
returns-clause-parts c =
    rw (sym c.place_in-place.ensures) (sym c.parts_by.ensures ∙ c.in_ok-parts.was)
