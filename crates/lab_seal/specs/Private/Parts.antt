-- What clauses of private functions say beside Parts.antt.
use Rattle.std.specs.Prelude.{◌≡◌, ℕ, List, [], Some, option_map}
use Rattle.lab_seal_versions.specs.declared.rows.EntryRow.{EntryRow}
use Rattle.lab_seal_versions.specs.declared.versions.VersionParts.{VersionParts}
use Rattle.lab_seal.specs.Parts.{FrontValue, first_rows}

-- so many rows are the whole text
abbrev pub AreAllRows : ℕ → List ℕ → Type 0
AreAllRows count text = option_map (λ found. found.1) (first_rows count text) ≡ Some []

-- ---- what the code reads, as these values

-- the version that has this front and these rows
abbrev pub version_parts_of : FrontValue → List EntryRow → VersionParts
version_parts_of front rows = record {
  format = front.subject.2;
  lab = front.heading.1;
  record_number = front.heading.2;
  origin = record { number = front.heading.3; amendment = front.amendment };
  form = front.subject.0;
  form_version = front.subject.1;
  sample = front.subject.3;
  opener = front.opening.0;
  opened = front.opening.1;
  rows = rows;
}
