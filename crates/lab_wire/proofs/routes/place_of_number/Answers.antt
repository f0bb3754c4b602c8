use Rattle.lab_wire.specs.Places.{texts}
use Rattle.std.proofs.Common.{◌<◌, length, arith}
use Rattle.lab_wire.proofs.InsertLemmas.{place_of}
use Rattle.lab_wire.proofs.routes.place_of_number.Goals as goal

pub returns : goal.returns
returns c =
    let here : c.args.number < length c.places-table.result.now = omega (arith, c.requires, c.places-table.ensures.count) in
    place_of c.places-table.result.now texts c.args.number _ c.places-table.ensures.shown here
