-- Versions that were read one behind the other: each later one names the digest of the one before it.
use Rattle.std.proofs.Common.{ℕ, ◌≡◌, List, [], ◌∷◌, Option, Some, None, refl}
use Rattle.lab_records_kept.specs.declared.records.Record.{Record}
use Rattle.lab_records_kept.specs.declared.records.Version.{Version}
use Rattle.lab_records_kept.specs.Bound.{IsChain}
use Rattle.lab_records_kept.specs.Digests.{digest_of, previous_of}
use Rattle.lab_store_tables.specs.Meaning.{Leaf, version_after, chained}

previous_of_version_after : (kept : Record) (before : Option (List ℕ)) (leaf : Leaf)
    → previous_of (version_after kept before leaf) ≡ before
previous_of_version_after kept None leaf = refl
previous_of_version_after kept (Some digest) leaf = refl

-- whatever versions the record has itself, since a digest looks at no other version
pub chained_is_chain : (lab : List ℕ) (cover : Record) (versions : List Version)
    (before : Option (List ℕ)) (leaves : List Leaf)
    → IsChain lab (record cover { versions = versions }) before (chained lab cover before leaves)
chained_is_chain lab cover versions before [] = tt
chained_is_chain lab cover versions before (one ∷ others) = (
  previous_of_version_after cover before one,
  chained_is_chain lab cover versions (Some (digest_of lab cover (version_after cover before one))) others,
)
