use Rattle.std.proofs.Common.{ap, ◌∙◌}
use Rattle.std.specs.List.{list_any}
use Rattle.std.specs.Str.{bytes_eq}
use Rattle.lab_seal_versions.specs.declared.rows.EntryRow.{EntryRow}
use Rattle.lab_copy_rows.proofs.ListLemmas.{any_of_map}
use Rattle.lab_copy.proofs.current.CurrentVersion.has_entered.Goals as goal

pub returns : goal.returns
returns c =
    c.has_row_of.ensures
    ∙ ap (list_any (λ (row : EntryRow). bytes_eq c.args.person.now row.person)) c.rows.ensures
    ∙ any_of_map (bytes_eq c.args.person.now) (λ (row : EntryRow). row.person) c.args.self.now.parts.rows
