-- What well-kept tables say of keys and arrows, as the relations of the kit.
use Rattle.std.proofs.Common.{◌≡◌, true}
use Rattle.std.specs.List.{AllByRecursion}
use Rattle.sqlite_keyed.specs.Keyed.{has_key}
use Rattle.sqlite_keyed.specs.Rules.{AreApart}
use Rattle.sqlite_keyed.proofs.ListLemmas.{all_from_test}
use Rattle.lab_store_tables.specs.Rows.{VersionRow, SignatureRow, Tables, person_id}
use Rattle.lab_store_tables.specs.WellKept.{IsWellKept, same_lab, same_record, same_version, same_entry, same_signature}
use Rattle.lab_store_read.proofs.Keys.{apart, left, right, two, four}

module _ (t : Tables) (kept : IsWellKept t) where
  pub labs_apart : AreApart same_lab t.labs
  labs_apart = apart same_lab t.labs (two _ _ _ (four _ _ _ _ _ (four _ _ _ _ _ (four _ _ _ _ _ kept.rows.keys))))

  pub records_apart : AreApart same_record t.records
  records_apart = apart same_record t.records (right _ _ (two _ _ _ (four _ _ _ _ _ kept.rows.keys)))

  pub versions_apart : AreApart same_version t.versions
  versions_apart = apart same_version t.versions (right _ _ (four _ _ _ _ _ kept.rows.keys))

  pub entries_apart : AreApart same_entry t.entries
  entries_apart = apart same_entry t.entries (right _ _ (left _ _ (two _ _ _ kept.rows.keys)))

  pub signatures_apart : AreApart same_signature t.signatures
  signatures_apart = apart same_signature t.signatures (right _ _ (two _ _ _ kept.rows.keys))

  -- whoever opened a version or signed is a person of the file
  pub openers : AllByRecursion (λ (one : VersionRow). has_key person_id t.persons one.opener ≡ true) t.versions
  openers = all_from_test (λ (one : VersionRow). has_key person_id t.persons one.opener) t.versions (right _ _ (two _ _ _ (four _ _ _ _ _ kept.rows.arrows)))

  pub signers : AllByRecursion (λ (one : SignatureRow). has_key person_id t.persons one.person ≡ true) t.signatures
  signers = all_from_test (λ (one : SignatureRow). has_key person_id t.persons one.person) t.signatures (right _ _ (two _ _ _ kept.rows.arrows))
