-- What the code has of a row that is none of a version's before it takes memory, as the line that
-- the row stands for.
use Rattle.std.specs.Prelude.{IsTrue, option_map}
use Rattle.lab_forms_texts.specs.Names.{is_lab_code, is_key, is_name}
use Rattle.lab_copy_rows.specs.declared.lines.CopyLine.{CopyLine}
use Rattle.lab_copy_rows.specs.declared.lines.RecordLine.{RecordLine}
use Rattle.lab_copy_rows.specs.declared.lines.EndLine.{EndLine}
use Rattle.lab_copy_lines.specs.Fields.{IsPersonOrNone}
use Rattle.lab_copy_lines.specs.declared.parts.CopyParts.{CopyParts}
use Rattle.lab_copy_lines.specs.declared.parts.RecordParts.{RecordParts}
use Rattle.lab_copy_lines.specs.declared.parts.EndParts.{EndParts}

-- ---- the lines

abbrev pub copy_of : CopyParts → CopyLine
copy_of parts = record {
  edition = parts.edition;
  lab = parts.lab.now;
  from = parts.from;
  to = parts.to;
  person = option_map (λ code. code.now) parts.person;
  name = parts.name.now;
  moment = parts.moment;
}

abbrev pub record_of : RecordParts → RecordLine
record_of parts = record {
  lab = parts.lab.now;
  record_number = parts.record_number;
  form_version = parts.form_version;
  form = parts.form.now;
  sample = parts.sample.now;
}

abbrev pub end_of : EndParts → EndLine
end_of parts = record { lab = parts.lab.now; counts = parts.counts }

-- ---- each text is one that its type admits

pub record AreCopyTexts (parts : CopyParts) : Type 0 where
  pub lab : IsTrue (is_lab_code parts.lab.now)
  pub person : IsPersonOrNone (option_map (λ code. code.now) parts.person)
  pub name : IsTrue (is_name parts.name.now)

pub record AreRecordTexts (parts : RecordParts) : Type 0 where
  pub lab : IsTrue (is_lab_code parts.lab.now)
  pub form : IsTrue (is_key parts.form.now)
  pub sample : IsTrue (is_name parts.sample.now)

pub record AreEndTexts (parts : EndParts) : Type 0 where
  pub lab : IsTrue (is_lab_code parts.lab.now)
