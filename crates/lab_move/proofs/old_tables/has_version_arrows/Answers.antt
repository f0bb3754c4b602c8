-- With one older schema, whichever is asked for is that one.
use Rattle.std.proofs.Common.{◌≡◌, refl, ap, ◌∙◌}
use Rattle.lab_move_tables.specs.declared.older.Older.{Older}
use Rattle.lab_move_tables.specs.declared.older.Older.TheVariants.{Two}
use Rattle.lab_move.specs.declared.old_tables.OldTable.TheVariants.{Versions}
use Rattle.lab_move.specs.Arrows.{has_arrows}
use Rattle.lab_move.specs.OldFiles.{own_table}
use Rattle.lab_move.proofs.old_tables.has_version_arrows.Goals as goal

only : (older : Older) → Two ≡ older
only Two = refl

pub returns : goal.returns
returns c =
    (rw c.as_slice.ensures at c.has_each.ensures)
    ∙ ap (λ (older : Older). has_arrows (own_table older Versions) c.args.table.now) (only c.args.older)
