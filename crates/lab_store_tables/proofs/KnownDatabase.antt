-- A database that holds the small file.
use Rattle.std.proofs.Common.{◌≡◌, true, map, refl}
use Rattle.sqlite.specs.Effect.{Database}
use Rattle.lab_store_tables.specs.Schema.{lab_schema}
use Rattle.lab_store_tables.specs.Family.{Name, Desk, id_of, rows, tables_in}
use Rattle.lab_store_tables.proofs.FamilyWords.{stored_row, tree_of, trees_of}
use Rattle.lab_store_tables.specs.Held.{Holds}
use Rattle.lab_store_tables.proofs.KnownFile.{file}
use Rattle.lab_store_tables.proofs.Tests.{are_rising, keyed_from_test}

abbrev stored : Database
stored = record { schema = lab_schema; trees = trees_of file }

ids_rise : (k : Name) → are_rising (id_of k) (rows k file) ≡ true
ids_rise Desk = refl
ids_rise _ = refl

stands : (k : Name) → trees_of file (tree_of k) ≡ map (stored_row k) (rows k (tables_in (trees_of file)))
stands Desk = refl
stands _ = refl

pub known_database : Holds stored file
known_database = record {
  typed = record {
    schema = refl;
    stored = record { at = stands };
    rising = record { at = λ k. keyed_from_test (id_of k) (rows k file) (ids_rise k) };
  };
  tables = refl;
}
