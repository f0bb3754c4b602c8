-- Changes one after the other, in a database that keeps its own rules.
use Rattle.std.proofs.Common.{ℕ, ℤ, List, subst}
use Rattle.sqlite_schema.specs.Rules.{Obeys}
use Rattle.sqlite.specs.Effect.{Database, IsDatabase}
use Rattle.sqlite.specs.State.{State}
use Rattle.lab_people_access.specs.declared.sessions.Closing.{Closing}
use Rattle.lab_records_kept.specs.declared.changes.Change.TheVariants.{SessionsClosed}
use Rattle.lab_store_tables.specs.Schema.{lab_schema}
use Rattle.lab_store_tables.specs.Rows.{Tables, tables_in}
use Rattle.lab_store_tables.specs.Held.{IsTyped}
use Rattle.lab_store_tables.specs.Ready.{tables_of}
use Rattle.lab_store_tables.specs.Family.{Persons}
use Rattle.lab_store_tables.proofs.KeptByRules.{ids_by_order, keys_by_rules, arrows_by_rules}
use Rattle.lab_store_tables.specs.ByRules.{IsByRules}
use Rattle.lab_store_tables.specs.Steps.{AppliesWhereKept}
use Rattle.lab_store_write.specs.Calls.{Steps, MadeFrom}
use Rattle.lab_store_write.specs.Closings.{ClosesOf}
use Rattle.lab_store_write.proofs.ClosedAlike.{closes_as_said}

pub rules_of : (db : Database) → IsTyped db → IsDatabase db → IsByRules (tables_in db.trees)
rules_of db typed sound =
    let obeys : Obeys lab_schema db.trees = subst (λ schema. Obeys schema db.trees) typed.schema sound.obeys in
    record { ids = ids_by_order (tables_in db.trees) typed.rising; keys = keys_by_rules db typed obeys; arrows = arrows_by_rules db typed obeys }

-- sessions that are closed by the id of their person
pub closed_where_kept : (lab : ℤ) (K : Tables → Type 0) (code : List ℕ) (closing : Closing) (a b : State)
    → Steps (MadeFrom K (ClosesOf lab code closing)) a b → Steps (MadeFrom K (AppliesWhereKept lab (SessionsClosed code closing))) a b
closed_where_kept lab K code closing a b did = record {
  inside = did.inside;
  made = λ typed. let it = did.made typed in (it.0, λ known rising well. closes_as_said (tables_of a) (tables_of b) (rising.at Persons) well lab code closing (it.1 known));
  sound = did.sound;
}
