-- Versions of a record by their own rows, as rows are added: what stands at the end of a chain of
-- them, and a row or a signature more. These definitions are for proofs only: no clause names them.
use Rattle.std.specs.Prelude.{ℕ, ◌==◌, Bool, List, [], ◌∷◌, ◌++◌, Option, Some}
use Rattle.lab_seal_versions.specs.declared.rows.EntryRow.{EntryRow}
use Rattle.lab_records_kept.specs.declared.records.Record.{Record}
use Rattle.lab_records_kept.specs.declared.records.Signature.{Signature}
use Rattle.lab_records_kept.specs.Digests.{digest_of}
use Rattle.lab_store_tables.specs.Meaning.{Leaf, version_after}

-- the digest of the last of the versions that the leaves come to, which a next one would amend;
-- where there is none, what stands before them
abbrev pub digest_at_end : List ℕ → Record → Option (List ℕ) → List Leaf → Option (List ℕ)
digest_at_end lab kept before [] = before
digest_at_end lab kept before (one ∷ others) =
    digest_at_end lab kept (Some (digest_of lab kept (version_after kept before one))) others

-- a leaf with a row more, and with a signature more
abbrev pub entered_leaf : EntryRow → Leaf → Leaf
entered_leaf row leaf = record leaf { rows = leaf.rows ++ row ∷ [] }

abbrev pub signed_leaf : Signature → Leaf → Leaf
signed_leaf signature leaf = record leaf { signatures = leaf.signatures ++ signature ∷ [] }

-- the leaf has the number
abbrev pub is_leaf : ℕ → Leaf → Bool
is_leaf number leaf = leaf.number == number

-- two leaves have one number
abbrev pub same_leaf : Leaf → Leaf → Bool
same_leaf one other = one.number == other.number
