-- Laws of the tables as a keeper's: a laboratory is kept under its own code, and changes after a
-- rest are changes of the tables before it.
use Rattle.std.proofs.Common.{◌≡◌, ℕ, List, Option, Some, None, option_map, find, refl, sym, ap, subst, ◌∙◌}
use Rattle.std.proofs.lemmas.Slice.Eq.{bytes_eq-Decides}
use Rattle.sqlite_rules.proofs.ListLemmas.{has_found}
use Rattle.sqlite_trees.specs.Tree.{Trees}
use Rattle.sqlite.specs.Effect.{Database}
use Rattle.lab_records_kept.specs.declared.labs.Lab.{Lab}
use Rattle.lab_records_kept.specs.declared.changes.Change.{Change}
use Rattle.lab_records_keeper.specs.Worlds.{Meaning, SameMeaning}
use Rattle.lab_store_tables.specs.Rows.{LabRow, Tables, tables_in}
use Rattle.lab_store_tables.specs.Meaning.{lab_in, has_code, meaning}
use Rattle.lab_store_tables.specs.Ready.{IsKept}
use Rattle.lab_store_tables.specs.Steps.{AreMadeIfAny}

own_code_by : (t : Tables) (code : List ℕ) (found : Option LabRow) (lab : Lab) →
    find (has_code code) t.labs ≡ found → option_map (lab_in t) found ≡ Some lab → lab.code ≡ code
own_code_by t code None lab is shown = absurd (let e = shown in cc)
own_code_by t code (Some row) lab is shown =
    let same : lab_in t row ≡ lab = (let e = shown in cc) in
    sym (ap (λ (one : Lab). one.code) same)
    ∙ (bytes_eq-Decides row.code code).0 (has_found (has_code code) t.labs row is).1

pub own_code : {db : Database} → IsKept db → (code : List ℕ) (lab : Lab) →
    meaning (tables_in db.trees) code ≡ Some lab → lab.code ≡ code
own_code {db} kept code lab is =
    let t = tables_in db.trees in own_code_by t code (find (has_code code) t.labs) lab refl is

-- and under which a crash leaves it
pub own_code_left : (trees : Trees) (held : Meaning) →
    SameMeaning (meaning (tables_in trees)) held →
    (code : List ℕ) (lab : Lab) → held code ≡ Some lab → lab.code ≡ code
own_code_left trees held same code lab is =
    let t = tables_in trees in
    own_code_by t code (find (has_code code) t.labs) lab refl (sym (same code) ∙ is)

pub made_after_rest : (first next last : Tables) (code : List ℕ) (changes : List Change) →
    next ≡ first → AreMadeIfAny code changes next last → AreMadeIfAny code changes first last
made_after_rest first next last code changes same made =
    subst (λ (t : Tables). AreMadeIfAny code changes t last) same made
