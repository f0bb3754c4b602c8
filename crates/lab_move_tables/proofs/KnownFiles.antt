-- Small files of schema 2 in both styles, each as a whole: a value from outside of each, so that neither premise is empty.
use Rattle.std.proofs.Common.{◌≡◌, true, map, refl}
use Rattle.sqlite.specs.Effect.{Database}
use Rattle.lab_store_tables.specs.Family.{Name, Desk, id_of, rows, row_by}
use Rattle.lab_store_tables.proofs.FamilyWords.{trees_by}
use Rattle.lab_store_tables.proofs.Tests.{are_rising, keyed_from_test}
use Rattle.lab_move_tables.specs.declared.older.Older.TheVariants.{Two}
use Rattle.lab_move_tables.specs.OldSheets.{before}
use Rattle.lab_move_tables.specs.OldSchema.{old_schema}
use Rattle.lab_move_tables.specs.OldRows.{old_tables, IsOldFile}
use Rattle.lab_move_tables.specs.PeerFiles.{peer, peer_schema, IsPeerFile}
use Rattle.lab_move_tables.proofs.KnownOldFile.{lifted}

ids_rise : (k : Name) → are_rising (id_of k) (rows k lifted) ≡ true
ids_rise Desk = refl
ids_rise _ = refl

-- ---- STRICT, with NULL

abbrev exact : Database
exact = record { schema = old_schema; trees = trees_by before lifted }

exact_rows : (k : Name) → exact.trees (before k).sheet.tree ≡ map (row_by before k) (rows k (old_tables Two exact.trees))
exact_rows Desk = refl
exact_rows _ = refl

pub known_exact : IsOldFile Two exact
known_exact = record {
  schema = refl;
  stored = record { at = exact_rows };
  rising = record { at = λ k. keyed_from_test (id_of k) (rows k lifted) (ids_rise k) };
  rules = record { ids = refl; keys = refl; arrows = refl };
}

-- ---- not STRICT, with empty texts

abbrev loose : Database
loose = record { schema = peer_schema; trees = trees_by peer lifted }

loose_rows : (k : Name) → loose.trees (peer k).sheet.tree ≡ map (row_by peer k) (rows k (old_tables Two loose.trees))
loose_rows Desk = refl
loose_rows _ = refl

pub known_peer : IsPeerFile loose
known_peer = record {
  schema = refl;
  stored = record { at = loose_rows };
  rising = record { at = λ k. keyed_from_test (id_of k) (rows k lifted) (ids_rise k) };
  rules = record { ids = refl; keys = refl; arrows = refl };
}
