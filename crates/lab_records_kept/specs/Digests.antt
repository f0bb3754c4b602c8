-- The digest of a version of a record as it is now, and what a signature's seal covers (21 CFR
-- 11.70, signatures "shall be linked to their respective electronic records").
use Rattle.std.specs.Prelude.{ℕ, List, Option, option_map}
use Rattle.sha2.specs.Sha256.{sha256}
use Rattle.lab_seal_versions.specs.declared.versions.VersionParts.{VersionParts}
use Rattle.lab_seal_versions.specs.Versions.{version_text}
use Rattle.lab_seal_versions.specs.declared.seals.SealParts.{SealParts}
use Rattle.lab_seal_versions.specs.Seals.{seal_of}
use Rattle.lab_records_kept.specs.declared.records.Record.{Record}
use Rattle.lab_records_kept.specs.declared.records.Version.{Version}
use Rattle.lab_records_kept.specs.declared.records.Signature.{Signature}

-- what the text of a version of a laboratory's record says
abbrev pub parts_of : List ℕ → Record → Version → VersionParts
parts_of lab kept version = record {
  format = version.format;
  lab = lab;
  record_number = kept.number;
  origin = version.origin;
  form = kept.form.code;
  form_version = kept.form.version;
  sample = kept.sample;
  opener = version.opener;
  opened = version.opened;
  rows = version.rows;
}

-- its digest: the SHA-256 (FIPS 180-4) of that text
abbrev pub digest_of : List ℕ → Record → Version → List ℕ
digest_of lab kept version = sha256 (version_text (parts_of lab kept version))

-- the digest of the version that a version amends, as the version says it
abbrev pub previous_of : Version → Option (List ℕ)
previous_of version = option_map (λ amendment. amendment.previous) version.origin.amendment

-- what the seal of a signature covers
abbrev pub sealed_parts : List ℕ → Signature → SealParts
sealed_parts lab signature = record {
  version = signature.digest;
  lab = lab;
  person = signature.person;
  name = signature.name;
  meaning = signature.meaning;
  moment = signature.moment;
}

-- the seal that a signature should bear
abbrev pub seal_for : List ℕ → Signature → List ℕ
seal_for lab signature = seal_of (sealed_parts lab signature)

-- the signature of these parts, with the seal that it should bear
abbrev pub signature_of : SealParts → Signature
signature_of parts = record {
  person = parts.person;
  name = parts.name;
  meaning = parts.meaning;
  moment = parts.moment;
  digest = parts.version;
  seal = seal_of parts;
}
