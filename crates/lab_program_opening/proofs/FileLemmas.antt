-- A file that was opened, or made.
use Rattle.std.proofs.Common.{◌≡◌, ◌∙◌, Bool, true, false, Option, Some, ap, inl, inr, refl, subst, sym}
use Rattle.std.specs.Prelude.{◌⊎◌, Err, IfErr, IfOk, IfSome, IsTrue, Ok, Result}
use Rattle.sqlite_trees.specs.Tree.{Trees}
use Rattle.sqlite_trees.specs.declared.store.Store.{Ghosts}
use Rattle.sqlite.specs.Effect.{Database}
use Rattle.sqlite.specs.Held.{Held, state}
use Rattle.lab_store_tables.specs.Ready.{IsAtRest}
use Rattle.lab_store_files.specs.declared.faults.FileFault.{FileFault}
use Rattle.lab_store_files.specs.declared.faults.FileFault.TheVariants.{Memory, NotEmpty, Storage}
use Rattle.lab_store_files.specs.Faults.{FailedInStore}
use Rattle.lab_store_files.specs.NewFiles.{IsBlank}
use Rattle.lab_program_opening.specs.declared.faults.OpenFault.{OpenFault}
use Rattle.lab_program_opening.specs.declared.faults.OpenFault.TheVariants.{File}
use Rattle.lab_program_opening.specs.Files.{FailsToMake, Finds, IsFilled, IsNewFrom, IsOpened, IsOurs, IsOursFrom, IsUnmade, IsUnopened, LeavesShown, RefusesFrom}
use Rattle.lab_program_opening.specs.Volumes.{FileAt, IsOfFile}

ok_is_no_fault : {A E : Type 0} (value : A) (fault : E) → ◌≡◌ {A = Result A E} (Ok value) (Err fault) → ⊥
ok_is_no_fault value fault is = absurd (cc)

-- where the tables were made none of their names was there
pub untaken : {A E : Type 0} (taken : Bool) (value : A) (fault : E) →
    (IsTrue taken → ◌≡◌ {A = Result A E} (Ok value) (Err fault)) → taken ≡ false
untaken true value fault refused = absurd (ok_is_no_fault value fault (refused refl))
untaken false value fault refused = refl

-- a crash leaves what was committed, which is what is shown where no transaction is under way
pub leaves_shown : {S : Type 0} (disk : Ghosts S)
    (settled : (s : S) (db : Trees) → IsTrue (disk.view s).is_open → disk.recovers s db →
    db ≡ (disk.view s).committed) (conn : Held S) → IsAtRest (state disk conn) →
    LeavesShown (state disk conn)
leaves_shown disk settled conn rest clean opened trees left =
    settled conn.store trees opened left
    ∙ sym (ap (λ (db : Database). db.trees) (rest.settled clean opened))

module _ {S : Type 0} (disk : Ghosts S) (IsHeld : Trees → Type 0) (old : Held S)
    (found : Finds disk IsHeld old) where
  pub is_ours : (result : Result (Held S) OpenFault) → IfOk result (IsOursFrom disk old) →
      IfOk result (IsOurs disk IsHeld)
  is_ours (Ok conn) ours = (old, found, ours)
  is_ours (Err fault) ours = ours

  pub ours_is_opened : (result : Result (Held S) OpenFault) → IfOk result (IsOursFrom disk old) →
      IfOk result (IsOpened disk IsHeld)
  ours_is_opened (Ok conn) ours = inl (old, found, ours)
  ours_is_opened (Err fault) ours = ours

  pub new_is_opened : (result : Result (Held S) OpenFault) → IfOk result (IsNewFrom disk old) →
      IfOk result (IsOpened disk IsHeld)
  new_is_opened (Ok conn) made = inr (old, found, made)
  new_is_opened (Err fault) made = made

-- ---- why it wasn't opened

module _ {S : Type 0} (disk : Ghosts S) (closed : Held S → Type 0) (file : FileAt) (old : Held S)
    (found : Finds disk file.holds old) where
  pub is_unopened : (result : Result (Held S) OpenFault) →
      IfErr result (IsOfFile (RefusesFrom disk closed old)) →
      IfErr result (IsUnopened disk closed file)
  is_unopened (Ok conn) refused = tt
  is_unopened (Err fault) refused = inr (old, found, refused)

  pub is_unopened_made : (result : Result (Held S) OpenFault) →
      IfErr result (IsOfFile (RefusesFrom disk closed old)) →
      IfErr result (IsUnmade disk closed file)
  is_unopened_made (Ok conn) refused = tt
  is_unopened_made (Err fault) refused = inl (inr (old, found, refused))

  pub is_unmade : (result : Result (Held S) OpenFault) →
      IfErr result (IsOfFile (FailsToMake disk closed old)) →
      IfErr result (IsUnmade disk closed file)
  is_unmade (Ok conn) refused = tt
  is_unmade (Err fault) refused = inr (old, found, refused)

-- something is in a file that was to be empty
pub is_filled : {S : Type 0} (disk : Ghosts S) (file : FileAt) (old : Held S) →
    Finds disk file.holds old → (result : Result (Held S) OpenFault) →
    IfErr result (λ fault. (¬ IsBlank (state disk old).now) × (fault ≡ File NotEmpty)) →
    IfErr result (IsFilled disk file)
is_filled disk file old found (Ok conn) filled = tt
is_filled disk file old found (Err fault) filled = inr (old, found, filled.0, filled.1)

-- why a making failed: something was there, or the store failed
pub make_cause : (taken : Bool) (fault : FileFault) →
    (◌≡◌ {A = Result (Unit {0}) FileFault} (Err fault) (Err NotEmpty) → IsTrue taken) →
    (fault ≡ NotEmpty) ⊎ ((fault ≡ Storage) ⊎ (fault ≡ Memory)) →
    ((fault ≡ NotEmpty) × IsTrue taken) ⊎ FailedInStore {A = Unit {0}} (Err fault)
make_cause taken fault there cause = elim cause [
  | inl is ↦ inl (is, there (ap (λ (f : FileFault). Err f) is))
  | inr failed ↦ inr (elim failed [
    | inl is ↦ inl (ap (λ (f : FileFault). Err f) is)
    | inr is ↦ inr (ap (λ (f : FileFault). Err f) is)
  ])
]

-- a keeper is as opened as the connection that it was made of
pub kept_so : {X : Type 0} (P : X → Type 0) (conn store keeper : X) → keeper ≡ store → store ≡ conn →
    P conn → P keeper
kept_so P conn store keeper kept made = subst P (sym (kept ∙ made))

-- what was left to be closed is the one that was closed
pub closed_kept : {X : Type 0} (closed : X → Type 0) (finished : Option X) (kept : X) →
    finished ≡ Some kept → IfSome finished closed → closed kept
closed_kept {X} closed finished kept is shut =
    subst (λ (one : Option X). IfSome one closed) is shut
