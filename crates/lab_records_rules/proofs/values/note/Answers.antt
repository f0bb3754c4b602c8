-- The row stands under its key, and every other key has what it had.
use Rattle.std.proofs.Common.{ℕ, ◌∙◌, ap, cond, List, Option, Some, Bor}
use Rattle.std.specs.Prelude.{bytes_eq, option_map}
use Rattle.std.specs.BTreeMap.{get_by}
use Rattle.std.specs.Cmp.Lexicographic.{slice_cmp}
use Rattle.std.specs.Ordering.{nat_cmp}
use Rattle.std.proofs.lemmas.Map.Text.{btree_map_updates_str}
use Rattle.lab_seal_versions.specs.declared.rows.EntryRow.{EntryRow}
use Rattle.lab_records_rules.specs.Latest.{noted}
use Rattle.lab_records_rules.proofs.LastRows.{map_cond}
use Rattle.lab_records_rules.proofs.values.note.Goals as goal

pub returns : goal.returns
returns c = λ key.
    let row = c.args.row.now in
    let table = c.args.table.now in
    let seen : Bor EntryRow → EntryRow = λ one. one.now in
    ap (λ (found : Option (Bor EntryRow)). option_map seen found)
    (btree_map_updates_str c.as_str.result.now table c.insert.new.self _ c.in_ok-insert.ensures.updates key)
    ∙ map_cond seen (bytes_eq c.as_str.result.now key) c.args.row (get_by (λ one. slice_cmp nat_cmp key one.now) table)
    ∙ ap (λ (own : List ℕ). cond (bytes_eq own key) (Some row) (noted table key)) c.as_str.ensures.value
