-- Values from outside, so that a wrong rule in the definitions does not check: texts that no line bears (docs/NAMES.md).
use Rattle.std.proofs.Common.{◌≡◌, subst, sym, codes, true≢false}
use Rattle.std.specs.Prelude.{IsTrue}
use Rattle.std.specs.Str.{is_utf8, chars}
use lib.Utf8.{encode}
use Rattle.lab_forms_texts.specs.Names.{is_lab_code, is_person_code, is_key, is_note}
use Rattle.lab_copy_lines.specs.declared.version_row_parts.VersionRowParts.{VersionRowParts}
use Rattle.lab_copy_lines.specs.declared.version_row_parts.EntryParts.{EntryParts}
use Rattle.lab_copy_lines.specs.declared.version_row_parts.SignatureParts.{SignatureParts}
use Rattle.lab_copy_lines.specs.VersionRowParts.{AreVersionTexts, AreEntryTexts, AreSignatureTexts}

-- a version of a laboratory whose code begins with a capital, and one that nobody opened
pub known_versions : (parts : VersionRowParts)
    → (parts.lab.now ≡ codes "Aqua" → AreVersionTexts parts → ⊥) × (parts.opener.now ≡ codes "" → AreVersionTexts parts → ⊥)
unfolding is_lab_code is_person_code
known_versions parts = (
  λ same texts. true≢false (sym (subst (λ text. IsTrue (is_lab_code text)) same texts.lab)),
  λ same texts. true≢false (sym (subst (λ text. IsTrue (is_person_code text)) same texts.opener)),
)

-- a row under a key with a hyphen, and one of an empty value
pub known_entries : (parts : EntryParts)
    → (parts.key.now ≡ codes "lead-2" → AreEntryTexts parts → ⊥) × (parts.value.now ≡ codes "" → AreEntryTexts parts → ⊥)
unfolding is_key is_note is_utf8 chars encode
known_entries parts = (
  λ same texts. true≢false (sym (subst (λ text. IsTrue (is_key text)) same texts.key)),
  λ same texts. true≢false (sym (subst (λ text. IsTrue (is_note text)) same texts.value)),
)

-- a signature of a person whose code begins with a digit
pub known_signatures : (parts : SignatureParts) → parts.person.now ≡ codes "2jo" → AreSignatureTexts parts → ⊥
unfolding is_person_code
known_signatures parts same texts = true≢false (sym (subst (λ text. IsTrue (is_person_code text)) same texts.person))
