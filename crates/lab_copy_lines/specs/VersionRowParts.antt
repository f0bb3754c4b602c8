-- What the code has of a version's rows before it takes memory, as the lines that the rows stand
-- for.
use Rattle.std.specs.Prelude.{IsTrue, option_map}
use Rattle.lab_forms_texts.specs.Names.{is_lab_code, is_person_code, is_key, is_name, is_note, is_unit}
use Rattle.lab_copy_rows.specs.declared.lines.VersionLine.{VersionLine}
use Rattle.lab_copy_rows.specs.declared.lines.EntryLine.{EntryLine}
use Rattle.lab_copy_rows.specs.declared.lines.SignatureLine.{SignatureLine}
use Rattle.lab_copy_lines.specs.Fields.{HasReasonUnlessFirst, meaning_in_row, IsNoteOrNone, IsMeaningText}
use Rattle.lab_copy_lines.specs.declared.version_row_parts.VersionRowParts.{VersionRowParts}
use Rattle.lab_copy_lines.specs.declared.version_row_parts.EntryParts.{EntryParts}
use Rattle.lab_copy_lines.specs.declared.version_row_parts.SignatureParts.{SignatureParts}

-- ---- the lines

abbrev pub version_line_of : VersionRowParts → VersionLine
version_line_of parts = record {
  lab = parts.lab.now;
  record_number = parts.record_number;
  number = parts.number;
  format = parts.format;
  state = parts.state;
  opener = parts.opener.now;
  opened = parts.opened;
  reason = option_map (λ note. note.now) parts.reason;
  digest = parts.digest;
}

abbrev pub entry_of : EntryParts → EntryLine
entry_of parts = record {
  lab = parts.lab.now;
  record_number = parts.record_number;
  version = parts.version;
  row = record {
    key = parts.key.now;
    value = parts.value.now;
    unit = parts.unit.now;
    person = parts.person.now;
    moment = parts.moment;
    reason = option_map (λ note. note.now) parts.reason;
  };
}

abbrev pub signature_of : SignatureParts → SignatureLine
signature_of parts = record {
  record_number = parts.record_number;
  version = parts.version;
  parts = record {
    version = parts.digest;
    lab = parts.lab.now;
    person = parts.person.now;
    name = parts.name.now;
    meaning = meaning_in_row parts.meaning;
    moment = parts.moment;
  };
  seal = parts.seal;
}

-- ---- each text is one that its type admits

pub record AreVersionTexts (parts : VersionRowParts) : Type 0 where
  pub lab : IsTrue (is_lab_code parts.lab.now)
  pub opener : IsTrue (is_person_code parts.opener.now)
  pub reason : IsNoteOrNone (option_map (λ note. note.now) parts.reason)
  pub reasoned : HasReasonUnlessFirst parts.number (option_map (λ note. note.now) parts.reason)

pub record AreEntryTexts (parts : EntryParts) : Type 0 where
  pub lab : IsTrue (is_lab_code parts.lab.now)
  pub key : IsTrue (is_key parts.key.now)
  pub value : IsTrue (is_note parts.value.now)
  pub unit : IsTrue (is_unit parts.unit.now)
  pub person : IsTrue (is_person_code parts.person.now)
  pub reason : IsNoteOrNone (option_map (λ note. note.now) parts.reason)

pub record AreSignatureTexts (parts : SignatureParts) : Type 0 where
  pub lab : IsTrue (is_lab_code parts.lab.now)
  pub meaning : IsMeaningText parts.meaning
  pub person : IsTrue (is_person_code parts.person.now)
  pub name : IsTrue (is_name parts.name.now)
