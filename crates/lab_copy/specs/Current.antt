-- The version being read: what is kept of a version while its rows come, as much as its digest and its
-- signatures are compared with.
use Rattle.std.specs.Prelude.{ℕ, ◌+◌, Bool, ◌&&◌, ◌==◌, not, if◌then◌else◌, List, [], ◌∷◌, ◌++◌, map, Option, Some, None, option_map}
use Rattle.std.specs.Str.{bytes_eq}
use Rattle.sha2.specs.Sha256.{sha256}
use Rattle.lab_seal_versions.specs.Versions.{version_text}
use Rattle.lab_seal_versions.specs.declared.origins.Amendment.{Amendment}
use Rattle.lab_seal_versions.specs.declared.rows.EntryRow.{EntryRow}
use Rattle.lab_seal_versions.specs.declared.versions.VersionParts.{VersionParts}
use Rattle.lab_seal_versions.specs.States.{state_of, is_settled}
use Rattle.lab_seal_versions.specs.declared.seals.Meaning.{Meaning}
use Rattle.lab_copy_rows.specs.Copies.{Told, parts_told, is_some_and, is_state, wants_approval, are_different_persons}
use Rattle.lab_copy_rows.specs.declared.flaws.Flaw.{Flaw}
use Rattle.lab_copy_rows.specs.declared.flaws.Flaw.TheVariants.{Digest, OnePerson}
use Rattle.lab_copy_rows.specs.declared.lines.RecordLine.{RecordLine}
use Rattle.lab_copy_rows.specs.declared.lines.SignatureLine.{SignatureLine}
use Rattle.lab_copy_rows.specs.declared.lines.VersionLine.{VersionLine}
use Rattle.lab_copy.specs.declared.current.CurrentVersion.{CurrentVersion}

-- what is kept of a version that a copy tells of
abbrev pub hand_of : ℕ → Told → CurrentVersion
hand_of row told = record {
  row = row;
  parts = parts_told told;
  state = told.line.state;
  digest = told.line.digest;
  meanings = map (λ (one : SignatureLine). one.parts.meaning) told.signatures;
  signers = map (λ (one : SignatureLine). one.parts.person) told.signatures;
}

-- what a version amends, by its reason and the digest of the one before
abbrev pub amendment_by : Option (List ℕ) → Option (List ℕ) → Option Amendment
amendment_by (Some reason) (Some previous) = Some (record { previous = previous; reason = reason })
amendment_by _ _ = None

-- what a version amends whose row comes behind the version being read
abbrev pub amendment_behind : Option CurrentVersion → VersionLine → Option Amendment
amendment_behind version line =
    amendment_by line.reason (option_map (λ (current : CurrentVersion). current.digest) version)

-- a version that begins in a row, of which no row came yet
abbrev pub begun : ℕ → RecordLine → Option CurrentVersion → VersionLine → CurrentVersion
begun row about version line = record {
  row = row;
  parts = record {
    format = line.format;
    lab = line.lab;
    record_number = line.record_number;
    origin = record { number = line.number; amendment = amendment_behind version line };
    form = about.form;
    form_version = about.form_version;
    sample = about.sample;
    opener = line.opener;
    opened = line.opened;
    rows = [];
  };
  state = line.state;
  digest = line.digest;
  meanings = [];
  signers = [];
}

-- a row and a signature more
abbrev pub with_row : EntryRow → VersionParts → VersionParts
with_row row parts = record parts { rows = parts.rows ++ (row ∷ []) }

abbrev pub with_entry : EntryRow → CurrentVersion → CurrentVersion
with_entry row current = record current { parts = with_row row current.parts }

abbrev pub with_signature : List ℕ → Meaning → CurrentVersion → CurrentVersion
with_signature person meaning current = record current {
  meanings = current.meanings ++ (meaning ∷ []);
  signers = current.signers ++ (person ∷ []);
}

-- whether a line has the version's numbers
abbrev pub has_numbers : ℕ → ℕ → CurrentVersion → Bool
has_numbers record_number number current =
    (record_number == current.parts.record_number) && (number == current.parts.origin.number)

-- whether a version is the next one, and may be
abbrev pub is_next : VersionLine → CurrentVersion → Bool
is_next line current =
    (line.record_number == current.parts.record_number)
    && (line.number == current.parts.origin.number + 1) && is_settled current.state

-- whether the digest, the signatures and their persons are as they have to be
abbrev pub has_digest_of_current : CurrentVersion → Bool
has_digest_of_current current = bytes_eq (sha256 (version_text current.parts)) current.digest

abbrev pub has_signatures_of_current : CurrentVersion → Bool
has_signatures_of_current current =
    is_some_and (is_state current.state) (state_of current.meanings (wants_approval current.parts.format))

abbrev pub has_persons_of_current : CurrentVersion → Bool
has_persons_of_current current =
    are_different_persons (map (λ (row : EntryRow). row.person) current.parts.rows) current.signers

abbrev pub flaw_of_current : CurrentVersion → Option Flaw
flaw_of_current current =
    if not (has_digest_of_current current) then Some (Digest current.row)
    else if not (has_signatures_of_current current && has_persons_of_current current)
    then Some (OnePerson current.row) else None
