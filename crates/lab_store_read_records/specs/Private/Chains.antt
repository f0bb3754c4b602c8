-- Where a version comes from, and what it amends.
use Rattle.std.specs.Prelude.{ℕ, List, [], Option, option_map, unwrap_or}
use Rattle.lab_seal_versions.specs.declared.origins.OriginParts.{OriginParts}
use Rattle.lab_records_kept.specs.declared.records.Record.{Record}
use Rattle.lab_records_kept.specs.declared.records.Version.{Version}
use Rattle.lab_records_kept.specs.Digests.{digest_of}
use Rattle.lab_records_kept.specs.Lookups.{last_of}

-- of a version whose number and reason these are, behind one of the digest or none
abbrev pub origin_after : ℕ → Option (List ℕ) → Option (List ℕ) → OriginParts
origin_after number reason before = record {
  number = number;
  amendment =
      option_map (λ previous. record { previous = previous; reason = unwrap_or reason [] }) before;
}

-- what the next version of a record amends, where it has these so far
abbrev pub before_next : List ℕ → Record → List Version → Option (List ℕ)
before_next lab kept versions = option_map (digest_of lab kept) (last_of versions)
