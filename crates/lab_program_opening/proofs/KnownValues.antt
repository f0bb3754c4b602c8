-- Values from outside, computed on the definitions: the lines of faults (docs/FORMATS.md).
use Rattle.std.proofs.Common.{◌≡◌, decimal, codes, lit<, ◌∙◌, refl, ◌++◌, ap, ℕ, List, [], sym, true≢false, Some, None, Ok, inl, inr}
use Rattle.std.proofs.lemmas.Fmt.{decimal-digits_of}
use Rattle.std.specs.Str.{bytes_eq}
use Rattle.lab_store_files.specs.declared.faults.FileFault.TheVariants.{NotADeskFile, SchemaOld, SchemaNew}
use Rattle.lab_program_host.specs.Faults.{told_line}
use Rattle.lab_program_opening.specs.declared.faults.OpenFault.TheVariants.{File, Drawing}
use Rattle.lab_program_opening.specs.Faults.{Declines, open_fault_value, unopened_fault}

two : decimal 2 ≡ codes "2"
two = decimal-digits_of 2 (lit< tt) (lit< tt) ∙ refl

-- the number of the file's schema stands behind the word; or that memory ran out is told
pub known_schema : Declines (File (SchemaOld 2)) (Ok 1) (Some []) (Some (codes "labdesk: schema_old 2\n"))
    × Declines (File (SchemaOld 2)) (Ok 1) (Some []) (Some (codes "labdesk: memory\n"))
known_schema = (
  inl (refl, ap (λ (digits : List ℕ). told_line (codes "schema_old" ++ codes " " ++ digits)) (sym two)),
  inr (refl, refl),
)

-- and where there is none, the word alone
pub known_lines : Declines (File NotADeskFile) (Ok 1) (Some []) (Some (codes "labdesk: not_a_desk_file\n"))
    × Declines Drawing (Ok 1) (Some []) (Some (codes "labdesk: read_fault\n"))
    × Declines unopened_fault (Ok 1) (Some []) (Some (codes "labdesk: memory\n"))
    × (open_fault_value (File (SchemaNew 4)) ≡ Some 4) × (open_fault_value (File NotADeskFile) ≡ None)
known_lines = ((refl, refl), (refl, refl), (refl, refl), refl, refl)

-- nor is it told that memory ran out
pub known_told : Declines Drawing (Ok 1) (Some []) (Some (codes "labdesk: memory\n")) → ⊥
known_told = λ told. true≢false (ap (λ (line : List ℕ). bytes_eq line (codes "labdesk: memory\n")) told.1)
