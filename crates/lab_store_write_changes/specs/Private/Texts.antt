-- Texts that may be NULL.
use Rattle.std.specs.Prelude.{ℕ, List}
use Rattle.lab_seal_versions.specs.declared.origins.Amendment.{Amendment}

abbrev pub amendment_reason : Amendment → List ℕ
amendment_reason amendment = amendment.reason
