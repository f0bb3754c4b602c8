-- Definitions for proofs only, which belong to specs/Kept.antt: no clause names them.
use Rattle.std.specs.Prelude.{ℕ, Option, option_map}
use Rattle.lab_copy_rows.specs.declared.lines.VersionLine.{VersionLine}
use Rattle.lab_copy.specs.Current.{begun}
use Rattle.lab_copy.specs.declared.current.CurrentVersion.{CurrentVersion}
use Rattle.lab_copy.specs.declared.kept.Kept.{Kept}

abbrev pub current_begun : ℕ → Kept → VersionLine → Option CurrentVersion
current_begun row kept line = option_map (λ about. begun row about kept.version line) kept.about
