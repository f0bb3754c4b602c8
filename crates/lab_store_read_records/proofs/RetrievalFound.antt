-- What was read of the rows that a query shows, as what the tables have.
use Rattle.std.proofs.Common.{◌≡◌, ℕ, ℤ, List, [], ◌∷◌, map, filter, find, slice_get, option_map, refl, ap, ◌∙◌}
use Rattle.sqlite_keyed.proofs.ListLemmas.{slice_get-filter, map-map}
use Rattle.lab_store_tables.specs.Rows.{RecordRow, Tables}
use Rattle.lab_store_tables.specs.Meaning.{leaves_of}
use Rattle.lab_store_read_records.specs.Heads.{record_head, version_head, versions_of}
use Rattle.lab_store_read_records.specs.Leaves.{leaf_by}
use Rattle.lab_store_read_records.specs.Shown.{record_shown, record_head_of}
use Rattle.lab_store_read_records.specs.Sought.{is_about, heads_within}
use Rattle.lab_store_read_records.specs.Retrieved.{abouts_shown, within_shown}

pub about_found : (t : Tables) (lab : ℤ) (form sample : List ℕ) → option_map record_head_of (slice_get (abouts_shown t lab form sample) 0) ≡ option_map record_head (find (is_about lab form sample) t.records)
about_found t lab form sample = go (filter (is_about lab form sample) t.records) ∙ ap (option_map record_head) (slice_get-filter (is_about lab form sample) t.records)
  where
    go : (found : List RecordRow) → option_map record_head_of (slice_get (map record_shown found) 0) ≡ option_map record_head (slice_get found 0)
    go [] = refl
    go (one ∷ more) = refl

-- the versions of a record, each of which its own row leads to
pub leaves_found : (t : Tables) (kept : ℤ) → map (leaf_by t) (versions_of t kept) ≡ leaves_of t kept
leaves_found t kept = map-map (leaf_by t) (version_head t) _

pub within_found : (t : Tables) (lab : ℤ) (from to : ℕ) → map record_head_of (within_shown t lab from to) ≡ heads_within t lab from to
within_found t lab from to = map-map record_head_of record_shown _
