-- Persons as their own rows tell them: of what an administrator asked for, the id of that
-- administrator's row.
use Rattle.std.specs.Prelude.{ℤ, Option, option_map, unwrap_or}
use Rattle.lab_store_tables.specs.Rows.{AskColumns}
use Rattle.lab_store_tables.specs.Columns.{verifier_in}
use Rattle.lab_store_read_people.specs.declared.heads.AskHead.{AskHead}

abbrev ask_from : AskColumns → ℤ → AskHead
ask_from columns asker = record {
  asker = asker;
  asked = unwrap_or columns.asked 0;
  first = verifier_in columns.salt columns.rounds columns.bytes;
}

abbrev pub ask_head : AskColumns → Option AskHead
ask_head columns = option_map (ask_from columns) columns.asker
