-- What well-kept tables say of sessions, as the relations of the kit.
use Rattle.std.proofs.Common.{◌≡◌, true}
use Rattle.std.specs.List.{AllByRecursion}
use Rattle.sqlite_keyed.specs.Keyed.{has_key}
use Rattle.sqlite_keyed.specs.Rules.{AreApart}
use Rattle.sqlite_keyed.proofs.ListLemmas.{all_from_test}
use Rattle.lab_store_tables.specs.Rows.{SessionRow, Tables, person_id}
use Rattle.lab_store_tables.specs.WellKept.{IsWellKept, same_token}
use Rattle.lab_store_read.proofs.Keys.{apart, left, right, four}

module _ (t : Tables) (kept : IsWellKept t) where
  pub tokens_apart : AreApart same_token t.sessions
  tokens_apart = apart same_token t.sessions (right _ _ (four _ _ _ _ _ (four _ _ _ _ _ (four _ _ _ _ _ kept.rows.keys))))

  -- whose session it is is a person of the file
  pub workers : AllByRecursion (λ (one : SessionRow). has_key person_id t.persons one.person ≡ true) t.sessions
  workers = all_from_test (λ (one : SessionRow). has_key person_id t.persons one.person) t.sessions
      (right _ _ (left _ _ (four _ _ _ _ _ (four _ _ _ _ _ (four _ _ _ _ _ kept.rows.arrows)))))
