-- What a version's own row leads to is readable where the whole version is.
use Rattle.std.proofs.Common.{◌≡◌, ℤ, List, map, sym, ◌∙◌}
use Rattle.std.specs.Prelude.{All}
use Rattle.std.proofs.lemmas.List.Elements.{All-weaker, All-map, All-same}
use Rattle.sqlite_value.specs.Order.{Row}
use Rattle.lab_store_tables.specs.Rows.{Tables}
use Rattle.lab_store_read_records.specs.declared.heads.VersionHead.{VersionHead}
use Rattle.lab_store_read_records.specs.Heads.{versions_of}
use Rattle.lab_store_read_records.specs.Readable.{HasVersionColumns, HasLeaf, HasWholeVersion}
use Rattle.lab_store_read_records.specs.Shown.{versions_shown, version_read}
use Rattle.lab_store_read_records.proofs.Found.{versions_found}

pub own_rows : (t : Tables) (kept : ℤ) → All (HasWholeVersion t) (versions_shown t kept) → All HasVersionColumns (versions_shown t kept)
own_rows t kept all = All-weaker (HasWholeVersion t) HasVersionColumns (λ row has. has.own) (versions_shown t kept) all

pub leaves_below : (t : Tables) (kept : ℤ) (heads : List VersionHead) → heads ≡ versions_of t kept → All (HasWholeVersion t) (versions_shown t kept)
    → All (λ (head : VersionHead). HasLeaf t head.id) heads
leaves_below t kept heads given all =
    All-same (λ (head : VersionHead). HasLeaf t head.id) heads (map version_read (versions_shown t kept)) (given ∙ sym (versions_found t kept))
    (All-map (λ (head : VersionHead). HasLeaf t head.id) version_read (versions_shown t kept)
    (All-weaker (HasWholeVersion t) (λ (row : Row). HasLeaf t (version_read row).id) (λ row has. has.leaf) (versions_shown t kept) all))
