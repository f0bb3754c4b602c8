-- What clauses of private functions say beside Trails.antt.
use Rattle.std.specs.Prelude.{ℕ, ℤ, List, map, filter, option_map}
use Rattle.sqlite_keyed.specs.Lists.{sort_by}
use Rattle.lab_records_kept.specs.declared.trails.TrailRow.{TrailRow as Told}
use Rattle.lab_store_tables.specs.Rows.{TrailRow, Tables}
use Rattle.lab_store_tables.specs.Columns.{action_in}
use Rattle.lab_store_tables.specs.Meaning.{code_of, by_trail}
use Rattle.lab_store_read_trail.specs.declared.heads.ToldHead.{ToldHead}
use Rattle.lab_store_read_trail.specs.Trails.{is_told_within}

abbrev pub told_head : TrailRow → ToldHead
told_head one = record {
  number = one.number;
  moment = one.moment;
  person = one.person;
  action = action_in one.action;
  subject = one.subject;
}

-- all of these, in the order of their numbers
abbrev pub told_heads_within : Tables → ℤ → ℕ → ℕ → List ToldHead
told_heads_within t lab from to =
    map told_head (sort_by by_trail (filter (is_told_within lab from to) t.trail))

abbrev pub told_by : Tables → ToldHead → Told
told_by t head = record {
  number = head.number;
  moment = head.moment;
  person = option_map (code_of t) head.person;
  action = head.action;
  subject = head.subject;
}
