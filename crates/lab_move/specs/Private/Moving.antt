-- What clauses of private functions say beside Moving.antt.
use Rattle.std.specs.Prelude.{◌≡◌, ◌⊎◌, ℕ, List, length, All, Some, Result}
use Rattle.sqlite.specs.Effect.{Database}
use Rattle.sqlite.specs.State.{State}
use Rattle.lab_records_kept.specs.declared.labs.Lab.{Lab}
use Rattle.lab_store_tables.specs.Rows.{Tables}
use Rattle.lab_store_tables.specs.Ready.{IsKept}
use Rattle.lab_move_write.specs.Unfinished.{IsBeingFilled}
use Rattle.lab_move_write.specs.Carrying.{Carries}
use Rattle.lab_move_read.specs.Laboratories.{codes_of, IsLabOf}
use Rattle.lab_move.specs.declared.faults.MoveFault.{MoveFault}
use Rattle.lab_move.specs.declared.faults.MoveFault.TheVariants.{File, NotSound}
use Rattle.lab_move.specs.Private.Faults.{IsOfStore}
use Rattle.lab_move.specs.Moving.{IsSoundLab, IsSoundIn, IsFirstUnsound, meaning_among, ReadsOldAs, HasCarried, MakesBySteps, OnceBegun}

-- ---- the new file, while it is filled and once it is whole

-- it is finished, and has those of these codes
abbrev pub IsWholeOf : (Database → Tables → Type 0) → State → State → List (List ℕ) → Database
    → Type 0
IsWholeOf Stands before after codes = HasCarried Stands IsKept before after (meaning_among codes)

-- a laboratory was read of the old file and placed
abbrev pub CarriesFrom : (Database → Tables → Type 0) → State → State → List ℕ → Database → Database
    → Type 0
CarriesFrom Stands before after code was db =
    (lab : Lab) × IsSoundLab lab × Carries lab was db
    × ((t : Tables) → ReadsOldAs Stands before after t → IsLabOf t code (Some lab))

-- ---- a call that commits more than once, however it ends

-- and one that finishes it, too
abbrev pub FillsAll : {A E : Type 0} → (Database → Type 0) → Result A E → State → State → Type 0
FillsAll Made result old new =
    MakesBySteps (OnceBegun old.now (λ db. IsBeingFilled db ⊎ Made db))
    (OnceBegun old.now IsBeingFilled) (OnceBegun old.now Made) result old new

-- so many codes, of which each is that of a sound laboratory
abbrev pub AreCounted : List (List ℕ) → Tables → ℕ → Type 0
AreCounted codes t count = (length codes ≡ count) × All (IsSoundIn t) codes

-- ---- why it was refused

-- a fault below: it is of the store, or names the laboratory, of which this holds
abbrev pub Blames : (List ℕ → Type 0) → MoveFault → Type 0
Blames Holds (File fault) = IsOfStore fault
Blames Holds (NotSound lab) = Holds lab

-- the laboratory is the first of these that isn't sound
abbrev pub BlamesFirst : (Database → Tables → Type 0) → State → State → List (List ℕ) → MoveFault
    → Type 0
BlamesFirst Stands before after codes =
    Blames (λ lab. (t : Tables) → ReadsOldAs Stands before after t → IsFirstUnsound t codes lab)

-- or of all that the old file has
abbrev pub BlamesFirstOfAll : (Database → Tables → Type 0) → State → State → MoveFault → Type 0
BlamesFirstOfAll Stands before after =
    Blames (λ lab. (t : Tables) → ReadsOldAs Stands before after t → IsFirstUnsound t (codes_of t) lab)
