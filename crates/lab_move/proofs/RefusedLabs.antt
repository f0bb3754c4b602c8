-- Why a laboratory wasn't placed, and why the filling of a new file stopped.
use Rattle.std.proofs.Common.{◌≡◌, ◌⊎◌, inr, List, ◌∷◌, ◌++◌, ℕ, Option, Some, Ok, Err, Result, IfErr, refl, sym, ◌∙◌}
use Rattle.std.specs.Prelude.{All, IsErrAnd, OnErr}
use Rattle.sqlite_trees.specs.declared.store.Store.{Ghosts}
use Rattle.sqlite.specs.Effect.{Database}
use Rattle.sqlite.specs.Held.{Held, state}
use Rattle.sqlite.specs.State.{State, HasCleanDisk}
use Rattle.lab_forms_texts.specs.declared.refusals.Fault.{Fault}
use Rattle.lab_forms_texts.specs.declared.refusals.Fault.TheVariants as read
use Rattle.lab_records_keeper.specs.declared.faults.BadStore.{BadStore}
use Rattle.lab_records_kept.specs.declared.labs.Lab.{Lab}
use Rattle.lab_store_tables.specs.Ready.{WhereShown}
use Rattle.lab_store_tables.specs.Rows.{Tables}
use Rattle.lab_store_read.specs.Cells.{storage}
use Rattle.lab_store_files.specs.declared.faults.FileFault.{FileFault}
use Rattle.lab_store_files.specs.declared.faults.FileFault.TheVariants.{Storage, Memory}
use Rattle.lab_store_write.specs.Transactions.{HasOurTables}
use Rattle.lab_move_tables.specs.Reading.{PassesOver, ReadsAs}
use Rattle.lab_move_tables.specs.Standing.{StandsBy}
use Rattle.lab_move_tables.specs.declared.older.Older.{Older}
use Rattle.lab_move_tables.proofs.OldReaders.{may_and}
use Rattle.lab_move_read.specs.Laboratories.{IsLabOf, codes_of}
use Rattle.lab_move.specs.declared.faults.MoveFault.{MoveFault}
use Rattle.lab_move.specs.declared.faults.MoveFault.TheVariants.{File}
use Rattle.lab_move.specs.Causes.{IsFillingRefused, IsMoveUnfinished, IsRefusedLab, IsUnplaced, IsUnplacedOf, IsUnwritten, StopsAtEnd, StopsAtLab}
use Rattle.lab_move.specs.Faults.{read_told}
use Rattle.lab_move.specs.Moving.{Fills, HasThese, IsBegun, IsSoundIn}
use Rattle.lab_move.proofs.EachLab.{HasMoved}
use Rattle.lab_move.proofs.Steps.{steps_ok}

pub told_storage : (fault : Fault BadStore) (answer : FileFault) → answer ≡ read_told fault → File answer ≡ File Storage → fault ≡ storage
told_storage (read.Refused refusal) answer is told = refl
told_storage read.Memory answer is told = absurd (let same : answer ≡ Storage = cc in let wrong : Memory ≡ Storage = sym is ∙ same in cc)

-- ---- a laboratory

module _ {S A : Type 0} (g : Ghosts S) (old new : Held S) (r : Result A MoveFault) where
  pub unplaced_by : (lab : Lab) → IfErr r (λ fault. fault ≡ File Storage → IsUnwritten g lab old new) → IfErr r (λ fault. fault ≡ File Storage → IsUnplaced g lab old new)
  unplaced_by lab = go r
    where
      go : (end : Result A MoveFault) → IfErr end (λ fault. fault ≡ File Storage → IsUnwritten g lab old new) → IfErr end (λ fault. fault ≡ File Storage → IsUnplaced g lab old new)
      go (Ok a) h = tt
      go (Err e) h = λ told. inr (h told)

  pub unplaced_some : (found : Option Lab) (lab : Lab) → found ≡ Some lab → IfErr r (λ fault. fault ≡ File Storage → IsUnplaced g lab old new)
      → IfErr r (λ fault. fault ≡ File Storage → IsUnplacedOf g found old new)
  unplaced_some found lab is = go r
    where
      go : (end : Result A MoveFault) → IfErr end (λ fault. fault ≡ File Storage → IsUnplaced g lab old new) → IfErr end (λ fault. fault ≡ File Storage → IsUnplacedOf g found old new)
      go (Ok a) h = tt
      go (Err e) h = λ told. inr (lab, is, h told)

  pub refused_found : (older : Older) (code : List ℕ) (before after : State) (found : Option Lab) → ((t : Tables) → StandsBy older before.now t → IsLabOf t code found)
      → IfErr r (λ fault. fault ≡ File Storage → IsUnplacedOf g found old new) → IfErr r (λ fault. fault ≡ File Storage → IsRefusedLab g older code before after old new)
  refused_found older code before after found here = go r
    where
      go : (end : Result A MoveFault) → IfErr end (λ fault. fault ≡ File Storage → IsUnplacedOf g found old new) → IfErr end (λ fault. fault ≡ File Storage → IsRefusedLab g older code before after old new)
      go (Ok a) h = tt
      go (Err e) h = λ told. inr (found, here, h told)

-- ---- laboratories, one after the other

-- where a file is being filled, its tables are ours
pub ours_filled : {Stands : Database → Tables → Type 0} {E : Type 0} (done : List (List ℕ)) {before after old mid : State} → Fills {A = Unit {0}} {E = E} (HasThese Stands before after done) (Ok tt) old mid
    → IsBegun old.now → HasOurTables mid
ours_filled done p begun = λ clean opened. ((p.made clean (p.live clean opened)).1 begun).file.typed

pub ours_of : {Stands : Database → Tables → Type 0} {done : List (List ℕ)} {old now was is : State} → HasMoved Stands done old now was is → IsBegun was.now → HasOurTables is
ours_of {done = done} so begun = ours_filled done so.fills begun

module _ {D S : Type 0} (seen : D → State) (g : Ghosts S) (older : Older) (codes : List (List ℕ)) (before now after : D) (fresh last new : Held S) where
  pub stops_at : {A : Type 0} (done rest : List (List ℕ)) (code : List ℕ) → codes ≡ done ++ code ∷ rest → HasMoved (StandsBy older) done (seen before) (seen now) (state g fresh) (state g last) → (fault : MoveFault)
      → PassesOver (seen now) (seen after) → (HasCleanDisk (state g new) → HasCleanDisk (state g last)) → WhereShown (state g new) ((state g new).now ≡ (state g last).now)
      → (fault ≡ File Storage → IsRefusedLab g older code (seen now) (seen after) last new) → (end : Result A MoveFault) → IsErrAnd end (λ e. e ≡ fault)
      → IfErr end (λ e. e ≡ File Storage → StopsAtLab seen g older codes before after fresh new)
  stops_at done rest code split so fault passes clean left why (Ok a) failed = absurd failed
  stops_at done rest code split so fault passes clean left why (Err e) failed = λ told. record {
    done = done;
    code = code;
    rest = rest;
    split = split;
    now = now;
    last = last;
    placed = record { read = so.reads; moved = so.fills };
    passes = passes;
    clean = clean;
    left = left;
    why = why (sym failed ∙ told);
  }

  pub stops_behind : {A E : Type 0} → ReadsAs (StandsBy older) {T = Unit {0}} {E = E} (λ t _. All (IsSoundIn t) codes) (seen before) (seen now) (Ok tt)
      → Fills {A = Unit {0}} {E = E} (HasThese (StandsBy older) (seen before) (seen now) codes) (Ok tt) (state g fresh) (state g last) → PassesOver (seen now) (seen after)
      → (HasCleanDisk (state g new) → HasCleanDisk (state g last)) → (r : Result A MoveFault) → WhereShown (state g new) (OnErr r ((state g new).now ≡ (state g last).now))
      → IfErr r (λ e. e ≡ File Storage → IsMoveUnfinished g (seen now) (seen after) last new)
      → IfErr r (λ e. e ≡ File Storage → StopsAtLab seen g older codes before after fresh new ⊎ StopsAtEnd seen g older codes before after fresh new)
  stops_behind reads fills passes clean (Ok a) left h = tt
  stops_behind reads fills passes clean (Err e) left h = λ told. inr (record {
    now = now;
    last = last;
    placed = record { read = may_and reads (λ t file all. all); moved = steps_ok tt fills };
    passes = passes;
    clean = clean;
    left = left;
    why = h told;
  })

  -- by the codes that were read
  pub stops_of : {A : Type 0} → ReadsAs (StandsBy older) {E = Fault BadStore} (λ t made. made ≡ codes_of t) (seen before) (seen now) (Ok codes) → (r : Result A MoveFault)
      → IfErr r (λ e. e ≡ File Storage → StopsAtLab seen g older codes now after fresh new ⊎ StopsAtEnd seen g older codes now after fresh new)
      → IfErr r (λ e. e ≡ File Storage → IsFillingRefused seen g older before after fresh new)
  stops_of reads (Ok a) h = tt
  stops_of reads (Err e) h = λ told. inr (codes, now, reads, h told)
