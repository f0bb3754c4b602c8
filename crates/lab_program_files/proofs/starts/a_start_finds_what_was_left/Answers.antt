-- What the next open finds the kit says (`stop_left`), and of what is found the opening says the rest.
use Rattle.std.proofs.Common.{◌∙◌, ap}
use Rattle.std.proofs.Math.Logic.{∥∥₁_map}
use Rattle.sqlite.specs.Effect.{Database}
use Rattle.sqlite.specs.Files.{over_files}
use Rattle.sqlite.specs.Held.{state}
use Rattle.lab_store_tables.specs.Meaning.{meaning}
use Rattle.lab_store_tables.specs.Rows.{tables_in}
use Rattle.lab_program_opening.specs.Files.{AreHeldIn}
use Rattle.lab_program_files.proofs.StopLemmas.{stop_left}
use Rattle.lab_program_files.proofs.StartLemmas.{leaves_found, one_start_more}
use Rattle.lab_program_files.proofs.starts.a_start_finds_what_was_left.Goals as goal

pub returns-clause-left : goal.returns-clause-left
returns-clause-left g c = λ last image next connected clean may ours shown.
    let it = ours.2.1 shown in
    let found = ours.1 it.0 in
    let was = state g.S.Store ours.0 in
    ∥∥₁_map (stop_left {g = g.D.Disk} g.met.D.Disk.seen_may_stay last connected clean image may was
    (record { holds = found.held.holds; reads = found.held.reads }))
    (λ left. (
      was.committed.trees,
      left,
      λ code. ap (λ (db : Database). meaning (tables_in db.trees) code)
          (it.1.0.now_is ∙ found.opens.clean),
    ))

pub returns-clause-found : goal.returns-clause-found
returns-clause-found g c = λ image next ours shown. (
  (ours.2.1 shown).1.0.is_open,
  leaves_found g.S.Store (AreHeldIn image) next ours shown,
)

pub returns-clause-goes_on : goal.returns-clause-goes_on
returns-clause-goes_on g c =
    λ first starts before after opened last next handled so_far ours run connected clean may following shown.
    ∥∥₁_map (returns-clause-left g c last after next connected clean may following shown)
    (λ left. one_start_more over_files first starts opened last handled
    (meaning (tables_in (state g.S.Store next).now.trees)) so_far run
    (leaves_found over_files (AreHeldIn before) opened ours (run.passes.honest clean)) left)
