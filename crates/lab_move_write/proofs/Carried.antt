-- What the rows of a laboratory that is placed mean, in a file that is being filled.
use Rattle.std.proofs.Common.{◌∙◌}
use Rattle.sqlite.specs.Effect.{Database}
use Rattle.lab_records_kept.specs.declared.labs.Lab.{Lab}
use Rattle.lab_records_kept.specs.Bound.{IsBound}
use Rattle.lab_records_kept.specs.Dual.{IsDual}
use Rattle.lab_records_kept.specs.Limits.{IsWithin}
use Rattle.lab_store_tables.specs.Rows.{tables_in}
use Rattle.lab_store_tables.specs.Held.{IsTyped}
use Rattle.lab_store_tables.proofs.DeskStays.{desk_stays_at_placing}
use Rattle.lab_move_write.specs.Placings.{PlacesByRules}
use Rattle.lab_move_write.proofs.LabPlaced.{lab_is_placed, rows_are_placed}
use Rattle.lab_move_write.specs.Carrying.{Carries}

pub carries : (lab : Lab) → IsWithin lab → IsBound lab → IsDual lab → (was db : Database)
    → (IsTyped was → IsTyped db × PlacesByRules lab (tables_in was.trees) (tables_in db.trees)) → Carries lab was db
carries lab within bound dual was db made filled =
    let it = made filled.typed in
    let old = tables_in was.trees in
    let new = tables_in db.trees in
    let law = lab_is_placed old new lab filled.typed.rising filled.rows it.1 within bound dual in
    (record { typed = it.0; rows = law.1; unnamed = desk_stays_at_placing old new lab (rows_are_placed old new lab it.1) ∙ filled.unnamed }, law.0)
