-- Tables that the database's own rules keep: no two rows have one id or one key, and each arrow
-- leads to a row. A database of the schema keeps these by itself (ISO/IEC 9075-2, unique and
-- referential constraints): a statement that breaks one of them is refused, and the rows stay as
-- they were.
use Rattle.std.specs.Prelude.{IsTrue}
use Rattle.lab_store_tables.specs.Rows.{Tables}
use Rattle.lab_store_tables.specs.WellKept.{are_ids_unique, are_keys_unique, are_arrows_whole}

pub record IsByRules (t : Tables) : Type 0 where
  pub ids : IsTrue (are_ids_unique t)
  pub keys : IsTrue (are_keys_unique t)
  pub arrows : IsTrue (are_arrows_whole t)
