-- What clauses of private functions say beside Causes.antt.
use Rattle.std.specs.Prelude.{ℤ, Bool, false, List, map, All}
use Rattle.lab_store_tables.specs.Rows.{Tables}
use Rattle.lab_store_tables.specs.Meaning.{leaves_of}
use Rattle.lab_store_read_records.specs.declared.heads.VersionHead.{VersionHead}
use Rattle.lab_store_read_records.specs.Leaves.{leaf_by}
use Rattle.lab_store_read_records.specs.Readable.{ArePlaced, HasLeaf, HasWholeVersion}
use Rattle.lab_store_read_records.specs.Shown.{versions_shown}

-- ---- what is read of a record whose own row is read already

-- those with the rows, one after the other
pub record HasPlacedVersions (t : Tables) (behind : Bool) (heads : List VersionHead) : Type 0 where
  pub leaves : All (λ (head : VersionHead). HasLeaf t head.id) heads
  pub placed : ArePlaced behind (map (leaf_by t) heads)

-- those of the record with the id
pub record HasVersions (t : Tables) (kept : ℤ) : Type 0 where
  pub versions : All (HasWholeVersion t) (versions_shown t kept)
  pub placed : ArePlaced false (leaves_of t kept)
