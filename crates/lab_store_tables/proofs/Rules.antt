-- A database of the schema keeps by its own rules what no change has to.
use Rattle.sqlite.specs.Effect.{Database}
use Rattle.sqlite_schema.specs.Rules.{Obeys}
use Rattle.lab_store_tables.specs.Schema.{lab_schema}
use Rattle.lab_store_tables.specs.Rows.{tables_in}
use Rattle.lab_store_tables.specs.Held.{IsTyped}
use Rattle.lab_store_tables.proofs.KeptByRules.{ids_by_order, keys_by_rules, arrows_by_rules}
use Rattle.lab_store_tables.specs.ByRules.{IsByRules}

pub rules_hold : (db : Database) → IsTyped db → Obeys lab_schema db.trees → IsByRules (tables_in db.trees)
rules_hold db typed obeys = record {
  ids = ids_by_order (tables_in db.trees) typed.rising;
  keys = keys_by_rules db typed obeys;
  arrows = arrows_by_rules db typed obeys;
}
