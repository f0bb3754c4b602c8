-- The rows of a laboratory, one kind after the other, in a database that keeps its own rules.
use Rattle.std.proofs.Common.{◌≡◌, ℤ, List, subst}
use Rattle.sqlite.specs.Effect.{IsDatabase}
use Rattle.sqlite.specs.State.{State}
use Rattle.lab_people_access.specs.declared.persons.Person.{Person}
use Rattle.lab_records_kept.specs.declared.labs.Lab.{Lab}
use Rattle.lab_records_kept.specs.declared.trails.TrailRow.{TrailRow as Told}
use Rattle.lab_store_tables.specs.Changes.{InTurn, AddsPerson, AddsTold}
use Rattle.lab_store_tables.specs.Held.{IsTyped}
use Rattle.lab_store_tables.specs.Ready.{tables_of}
use Rattle.lab_store_write.specs.Calls.{Steps}
use Rattle.lab_store_write_changes.proofs.Steps.{rules_of}
use Rattle.lab_store_write_changes.specs.NewbornRows.{AddsLab, AddsRows}

-- persons and trail are given as slices
pub rows_added : (lab : Lab) (id : ℤ) (persons : List Person) (trail : List Told) (a b c d : State) → (IsTyped a.now → IsDatabase b.now)
    → persons ≡ lab.persons → trail ≡ lab.trail
    → Steps (AddsLab id lab) a b → Steps (InTurn (AddsPerson id) persons) b c → Steps (InTurn (AddsTold id) trail) c d → Steps (AddsRows lab) a d
rows_added lab id persons trail a b c d rules same_persons same_trail p q r = record {
  inside = r.inside;
  made = λ typed.
      let one = p.made typed in
      let two = q.made one.0 in
      let three = r.made two.0 in
      let added : AddsRows lab (tables_of a) (tables_of d) = record {
        id = id;
        begun = tables_of b;
        row = one.1;
        enrolled = tables_of c;
        persons = subst (λ list. InTurn (AddsPerson id) list (tables_of b) (tables_of c)) same_persons two.1;
        trail = subst (λ list. InTurn (AddsTold id) list (tables_of c) (tables_of d)) same_trail three.1;
        rising = three.0.rising;
        rules = rules_of d.now three.0 (r.sound two.0 (q.sound one.0 (rules typed)));
      } in
      (three.0, added);
  sound = λ typed _. let one = p.made typed in r.sound (q.made one.0).0 (q.sound one.0 (rules typed));
}
