use Rattle.std.proofs.Common.{sym, ap, ◌∙◌}
use Rattle.lab_move.specs.declared.old_tables.OldTable.{OldTable}
use Rattle.lab_move.specs.Arrows.{has_arrows}
use Rattle.lab_move.specs.OldFiles.{own_table}
use Rattle.lab_move.proofs.old_tables.OldTable.has_arrows_in.Goals as goal

pub returns-in-Sessions : goal.returns-in-Sessions
returns-in-Sessions c =
    (rw c.as_slice.ensures at c.has_each.ensures) ∙ ap (λ (one : OldTable). has_arrows (own_table c.args.older one) c.args.table.now) (sym c.in-Sessions.is)

pub returns-in-Versions : goal.returns-in-Versions
returns-in-Versions c =
    c.has_version_arrows.ensures ∙ ap (λ (one : OldTable). has_arrows (own_table c.args.older one) c.args.table.now) (sym c.in-Versions.is)

pub returns-in-Entries : goal.returns-in-Entries
returns-in-Entries c =
    (rw c.as_slice-in-Entries.ensures at c.has_each-in-Entries.ensures) ∙ ap (λ (one : OldTable). has_arrows (own_table c.args.older one) c.args.table.now) (sym c.in-Entries.is)

pub returns-in-Signatures : goal.returns-in-Signatures
returns-in-Signatures c =
    (rw c.as_slice-in-Signatures.ensures at c.has_each-in-Signatures.ensures) ∙ ap (λ (one : OldTable). has_arrows (own_table c.args.older one) c.args.table.now) (sym c.in-Signatures.is)

pub returns-in-Trail : goal.returns-in-Trail
returns-in-Trail c =
    (rw c.as_slice-in-Trail.ensures at c.has_each-in-Trail.ensures) ∙ ap (λ (one : OldTable). has_arrows (own_table c.args.older one) c.args.table.now) (sym c.in-Trail.is)
