-- Tables with a row of the trail more, under the next id, and with a laboratory's last moment.
use Rattle.std.specs.Prelude.{ℕ, ℤ, Option, Some, None}
use Rattle.sqlite_keyed.specs.Keyed.{next_key}
use Rattle.lab_records_kept.specs.declared.trails.TrailRow.{TrailRow as Told}
use Rattle.lab_store_tables.specs.Rows.{LabRow, Tables, trail_id}
use Rattle.lab_store_tables.specs.Changes.{in_lab, put_told, told_row_of, AddsTold}

abbrev pub with_told : ℤ → Option ℤ → Told → Tables → Tables
with_told lab person told t =
    put_told (told_row_of lab (next_key trail_id t.trail) person told) t

-- the laboratory has this last moment, if one is given
abbrev pub with_last : ℤ → Option ℕ → Tables → Tables
with_last lab None t = t
with_last lab (Some moment) t = in_lab lab (λ (one : LabRow). record one { last = moment }) t

-- the laboratory has this last moment, if one is given, and then a row of the trail more
abbrev pub AddsLastTold : ℤ → Option ℕ → Told → Tables → Tables → Type 0
AddsLastTold lab last told old new = AddsTold lab told (with_last lab last old) new
