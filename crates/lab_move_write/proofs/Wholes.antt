-- A record that may be placed whole: it has the next number, its form is one of the laboratory's, its
-- versions are numbered from 1 on, and each amends the one before it as that is now (ISO/IEC
-- 17025:2017, 7.5.2). A version keeps the format of its text, also the older one.
use Rattle.std.specs.Prelude.{◌≡◌, ◌≤◌, ◌+◌, All, None, Some, length}
use Rattle.lab_records_kept.specs.declared.labs.Lab.{Lab}
use Rattle.lab_records_kept.specs.declared.records.Record.{Record}
use Rattle.lab_records_kept.specs.declared.records.Version.{Version}
use Rattle.lab_records_kept.specs.Bound.{IsChain}
use Rattle.lab_records_kept.specs.Dual.{SaysOfApproval}
use Rattle.lab_records_kept.specs.Limits.{AreNumbered}
use Rattle.lab_records_kept.specs.Lookups.{exact_form}

-- the text of a version says of an approval what its form does
abbrev pub SaysAsForm : Record → Version → Type 0
SaysAsForm kept version = SaysOfApproval version.format kept.form.form.approval

pub record IsWholeRecord (lab : Lab) (kept : Record) : Type 0 where
  pub number : kept.number ≡ length lab.records + 1
  pub form : exact_form lab.forms kept.form.code kept.form.version ≡ Some kept.form
  pub some : 1 ≤ length kept.versions
  pub numbered : AreNumbered (λ version. version.origin.number) kept.versions
  pub chain : IsChain lab.code kept None kept.versions
  pub formats : All (SaysAsForm kept) kept.versions
