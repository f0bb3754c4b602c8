-- One table edited: its tree has the rows of the edit, the trees of the others stay, and all ids still rise. And a
-- database in whose trees the rows of tables stand holds these tables; so who writes shows tree by tree what stands there.
use Rattle.std.proofs.Common.{◌≡◌, ◌≢◌, ℕ, ◌==◌, false, List, [], map, refl, sym, ap, subst, ◌∙◌}
use Rattle.std.proofs.lemmas.Bool.{eq-eqb}
use Rattle.std.specs.List.{AllByRecursion}
use Rattle.sqlite_value.specs.declared.value.Value.TheVariants.{Null, Int}
use Rattle.sqlite_trees.specs.Tree.{Trees}
use Rattle.sqlite_schema.specs.declared.schema.Table.{Table}
use Rattle.sqlite_keyed.specs.Keyed.{IsKeyedBy}
use Rattle.sqlite_keyed.proofs.ListLemmas.{map_back}
use Rattle.sqlite.specs.Effect.{Database}
use Rattle.lab_store_tables.specs.Schema.{lab_schema}
use Rattle.lab_store_tables.specs.RowRecords.{Tables}
use Rattle.lab_store_tables.specs.Family.{Name, Desk, Labs, Persons, Sessions, Forms, Fields, Choices, Records, Versions, Entries, Signatures, Trail, RowOf, kept, id_of, rows, made_of, tables_in, empty_tables}
use Rattle.lab_store_tables.proofs.FamilyWords.{tree_of, stored_row, read_row, with_rows}
use Rattle.lab_store_tables.specs.Held.{AreRising, AreStored, Holds}
use Rattle.lab_store_tables.proofs.CellsBack.{cells_back}

pub apart : (a b : ℕ) → (a == b) ≡ false → ◌≢◌ {A = ℕ} a b
apart a b differ same = absurd (let yes = eq-eqb a b same in cc)

-- every table but the one in the tree is as it was
abbrev pub AreSpared : ℕ → Trees → Trees → Type 0
AreSpared tree old new = AllByRecursion (λ one. one.tree ≢ tree → new one.tree ≡ old one.tree) lab_schema.tables

-- what holds of each table's tree by the schema
pub each_tree : (P : ℕ → Type 0) → AllByRecursion (λ (one : Table). P one.tree) lab_schema.tables → (k : Name) → P (tree_of k)
each_tree P all Desk = all.0
each_tree P all Labs = all.1.0
each_tree P all Persons = all.1.1.0
each_tree P all Sessions = all.1.1.1.0
each_tree P all Forms = all.1.1.1.1.0
each_tree P all Fields = all.1.1.1.1.1.0
each_tree P all Choices = all.1.1.1.1.1.1.0
each_tree P all Records = all.1.1.1.1.1.1.1.0
each_tree P all Versions = all.1.1.1.1.1.1.1.1.0
each_tree P all Entries = all.1.1.1.1.1.1.1.1.1.0
each_tree P all Signatures = all.1.1.1.1.1.1.1.1.1.1.0
each_tree P all Trail = all.1.1.1.1.1.1.1.1.1.1.1.0

spared_at : (tree : ℕ) (old new : Trees) → AreSpared tree old new → (k : Name) → (tree_of k == tree) ≡ false → new (tree_of k) ≡ old (tree_of k)
spared_at tree old new spared k e = each_tree (λ n. n ≢ tree → new n ≡ old n) spared k (apart (tree_of k) tree e)

-- what holds of the new rows of one table, and of the rows of every other, holds of each table then
pub each : (k : Name) (new : List (RowOf k)) (t : Tables) (P : (j : Name) → List (RowOf j) → Type 0) → P k new → ((j : Name) → (tree_of j == tree_of k) ≡ false → P j (rows j t))
    → (j : Name) → P j (rows j (with_rows k new t))
each Desk new t P own others Desk = own
each Labs new t P own others Labs = own
each Persons new t P own others Persons = own
each Sessions new t P own others Sessions = own
each Forms new t P own others Forms = own
each Fields new t P own others Fields = own
each Choices new t P own others Choices = own
each Records new t P own others Records = own
each Versions new t P own others Versions = own
each Entries new t P own others Entries = own
each Signatures new t P own others Signatures = own
each Trail new t P own others Trail = own
each k new t P own others j = others j refl

pub stored_with : (k : Name) (old new : Trees) (t : Tables) (all : List (RowOf k)) → AreStored old t → AreSpared (tree_of k) old new → new (tree_of k) ≡ map (stored_row k) all
    → AreStored new (with_rows k all t)
stored_with k old new t all stored spared is = record {
  at = each k all t (λ j xs. new (tree_of j) ≡ map (stored_row j) xs) is (λ j e. spared_at (tree_of k) old new spared j e ∙ stored.at j);
}

pub rising_with : (k : Name) (t : Tables) (all : List (RowOf k)) → AreRising t → IsKeyedBy (id_of k) all → AreRising (with_rows k all t)
rising_with k t all rising up = record { at = each k all t (λ j xs. IsKeyedBy (id_of j) xs) up (λ j _. rising.at j) }

-- ---- what is written is read back

again : (k : Name) (one : RowOf k) → (kept k).make (id_of k one) ((kept k).cells one) ≡ one
again Desk one = refl
again _ one = refl

pub back : (k : Name) (one : RowOf k) → read_row k (stored_row k one) ≡ one
back k one = ap ((kept k).make (id_of k one)) (cells_back (kept k).sheet.columns ((kept k).cells one) (Int (id_of k one)) Null) ∙ again k one

made : (all : (k : Name) → List (RowOf k)) (k : Name) → rows k (made_of all) ≡ all k
made all Desk = refl
made all _ = refl

pub read_back : (trees : Trees) (t : Tables) → AreStored trees t → tables_in trees ≡ t
read_back trees t stored =
    let same = λ (k : Name). made (λ j. map (read_row j) (trees (tree_of j))) k ∙ ap (map (read_row k)) (stored.at k) ∙ map_back (stored_row k) (read_row k) (back k) (rows k t) in
    λ i. made_of (λ k. same k i)

pub held_if_stored : (db : Database) (t : Tables) → db.schema ≡ lab_schema → AreStored db.trees t → AreRising t → Holds db t
held_if_stored db t schema stored rising =
    let same = read_back db.trees t stored in
    record { typed = record { schema = schema; stored = subst (AreStored db.trees) (sym same) stored; rising = subst AreRising (sym same) rising }; tables = same }

-- ---- tables without rows

pub none_stored : (trees : Trees) → AllByRecursion (λ (one : Table). trees one.tree ≡ []) lab_schema.tables → AreStored trees empty_tables
none_stored trees none = record {
  at = λ k. each_tree (λ n. trees n ≡ []) none k ∙ sym (ap (map (stored_row k)) (made (λ _. []) k));
}

pub none_rising : AreRising empty_tables
none_rising = record { at = λ k. subst (IsKeyedBy (id_of k)) (sym (made (λ _. []) k)) tt }
