-- Values from outside, computed on the definitions: the lines of a move (docs/FORMATS.md).
use Rattle.std.proofs.Common.{◌≡◌, ◌∙◌, decimal, codes, lit<, refl, ap, ◌++◌, ℕ, List, [], sym, inl, inr, Some, Ok}
use Rattle.std.proofs.lemmas.Fmt.{decimal-digits_of}
use Rattle.sqlite_trees.specs.declared.store.Store.{Ghosts}
use Rattle.sqlite.specs.Held.{Held}
use Rattle.lab_store_files.specs.declared.faults.FileFault.TheVariants.{NotEmpty, SchemaNew, SchemaOld}
use Rattle.lab_move.specs.declared.faults.MoveFault.TheVariants.{File, NotSound}
use Rattle.lab_program_host.specs.Faults.{told_line}
use Rattle.lab_program_opening.specs.declared.faults.OpenFault.TheVariants.{File as Unopened}
use Rattle.lab_program_opening.specs.Volumes.{FileAt}
use Rattle.lab_program_moves.specs.Moves.{IsUnbegun, MoveTask, RefusesOld, TellsFault, migrated_line}

two : decimal 2 ≡ codes "2"
two = decimal-digits_of 2 (lit< tt) (lit< tt) ∙ refl

three : decimal 3 ≡ codes "3"
three = decimal-digits_of 3 (lit< tt) (lit< tt) ∙ refl

pub known_line : migrated_line 2 ≡ codes "migrated 2\n"
known_line = ap (λ (digits : List ℕ). codes "migrated " ++ digits ++ codes "\n") two

-- a laboratory that isn't sound is named, and a schema has its number
pub known_faults : TellsFault (NotSound (codes "aqua")) (Ok 1) (Some []) (Some (codes "labdesk: not_sound aqua\n"))
    × TellsFault (File NotEmpty) (Ok 1) (Some []) (Some (codes "labdesk: not_empty\n"))
    × TellsFault (File (SchemaNew 3)) (Ok 1) (Some []) (Some (codes "labdesk: schema_new 3\n"))
known_faults = (
  inl (refl, refl),
  (refl, refl),
  inl (refl, ap (λ (digits : List ℕ). told_line (codes "schema_new" ++ codes " " ++ digits)) (sym three)),
)

-- ---- a move that wasn't begun

other_fault : (number : ℕ) → Unopened (SchemaOld number) ≡ Unopened NotEmpty → ⊥
other_fault number is = absurd (cc)

-- an older schema is told of an old file alone that was found, and owes that refusal
pub known_older : {S Volume : Type 0} (disk : Ghosts S) (files : Volume → List ℕ → FileAt)
    (closed : Held S → Type 0) (task : MoveTask Volume) (number : ℕ) →
    IsUnbegun disk files closed task (Unopened (SchemaOld number)) →
    RefusesOld disk (files task.volume task.old).holds (SchemaOld number)
known_older disk files closed task number (inl refused) = absurd refused
known_older disk files closed task number (inr (inl owed)) = owed
known_older disk files closed task number (inr (inr new)) = elim new.2.1 [
  | inl refused ↦ absurd refused
  | inr filled ↦ absurd (other_fault number filled.3)
]
