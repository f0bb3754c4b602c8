-- What a step and a birth leave true of a laboratory, a request and a founding leave true of every
-- laboratory that is kept.
use Rattle.std.proofs.Common.{◌≡◌, ◌≢◌, ℕ, Bool, true, false, List, Option, Some, None, Result, Ok, Err, refl, sym, ◌∙◌, subst, inl, inr}
use Rattle.std.specs.Prelude.{OnOk, OnErr, bytes_eq}
use Rattle.std.proofs.lemmas.Bool.{false≢true}
use Rattle.std.proofs.lemmas.Slice.Eq.{bytes_eq-Decides}
use Rattle.lab_forms_texts.specs.declared.tick.Tick.{Tick}
use Rattle.lab_records_kept.specs.declared.labs.Lab.{Lab}
use Rattle.lab_records_kept.specs.Bound.{IsBound, IsBoundRecord}
use Rattle.lab_records_kept.specs.Dual.{IsDual, IsDualRecord}
use Rattle.lab_records_kept.specs.Limits.{IsWithin}
use Rattle.lab_records_keeper.specs.Worlds.{World, Meaning, CommitsAs, SetsOne, Places, Leaves}
use Rattle.lab_records_kept.proofs.ReleaseLemmas.{all_released}
use Rattle.lab_records_machine.specs.declared.births.BirthRefusal.{BirthRefusal}
use Rattle.lab_records_machine.specs.declared.births.Founding.{Founding}
use Rattle.lab_records_machine.specs.declared.commands.Instruction.{Instruction}
use Rattle.lab_records_machine.specs.Births.{born}
use Rattle.lab_records_machine.specs.Machine.{step}
use Rattle.lab_records_laws.specs.Asking.{IsCommandFormed}
use Rattle.lab_records_laws.specs.Runs.{IsReleasing}
use Rattle.lab_records_laws.specs.Stepping.{WhereThere}
use Rattle.lab_records_laws.proofs.BirthLemmas.{born_right, not_again}
use Rattle.lab_records_laws.proofs.BoundLemmas.{bound_stays}
use Rattle.lab_records_laws.proofs.DualLemmas.{dual_stays}
use Rattle.lab_records_laws.proofs.FormedLemmas.{formed_is_right}
use Rattle.lab_records_laws.proofs.LimitSteps.{step_within}
use Rattle.lab_records_laws.proofs.SigningStep.{step_keeps}
use Rattle.lab_wire.specs.declared.commands.Asked.{Asked}
use Rattle.lab_desk_foundings.specs.Foundings.{Body, after_birth, birth, born_of}
use Rattle.lab_desk_events.specs.Keeping.{OfAll, HoldsIn, LeavesOnly}
use Rattle.lab_desk_events.specs.Requests.{Steps}

-- ---- a meaning of which one laboratory is set, or none

set_at : (Holds : Lab → Type 0) (code other : List ℕ) (after : Option Lab) (old new : Meaning) →
    (b : Bool) → bytes_eq code other ≡ b → SetsOne code after old new →
    WhereThere Holds after → WhereThere Holds (old other) → WhereThere Holds (new other)
set_at Holds code other after old new true is set here there =
    let same : code ≡ other = (bytes_eq-Decides code other).0 is in
    subst (λ (one : List ℕ). WhereThere Holds (new one)) same
    (subst (WhereThere Holds) (sym set.here) here)
set_at Holds code other after old new false is set here there =
    subst (WhereThere Holds) (sym (set.others other
    (λ same. false≢true (sym is ∙ (bytes_eq-Decides code other).1 (sym same))))) there

pub set_holds : (Holds : Lab → Type 0) (code : List ℕ) (after : Option Lab) (old new : Meaning) →
    SetsOne code after old new → WhereThere Holds after → OfAll Holds old → OfAll Holds new
set_holds Holds code after old new set here holds other =
    set_at Holds code other after old new (bytes_eq code other) refl set here (holds other)

-- laboratories that mean what they meant
pub left_holds : (Holds : Lab → Type 0) (old new : World) → (new.is_live → old.is_live) →
    Leaves old new → HoldsIn Holds old → HoldsIn Holds new
left_holds Holds old new back left holds live code =
    subst (WhereThere Holds) (sym (left live code)) (holds (back live) code)

-- ---- a request

-- a step of the instruction leaves it true
abbrev pub Stays : (Lab → Type 0) → Tick → Instruction → Type 0
Stays Holds tick instruction =
    (lab : Lab) → Holds lab → WhereThere Holds (step (Some lab) tick instruction).after

pub step_there : (Holds : Lab → Type 0) (lab : Option Lab) (tick : Tick) (instruction : Instruction) →
    Stays Holds tick instruction → WhereThere Holds lab →
    WhereThere Holds (step lab tick instruction).after
step_there Holds None tick instruction stays holds = tt
step_there Holds (Some lab) tick instruction stays holds = stays lab holds

asked_by : {A F : Type 0} (Holds : Lab → Type 0) (old new : World) (tick : Tick) (asked : Asked)
    (answered : Result A F) → Stays Holds tick asked.instruction → (new.is_live → old.is_live) →
    OnOk answered (Steps tick (Ok asked) old.meaning new.meaning) →
    OnErr answered (Leaves old new) → HoldsIn Holds old → HoldsIn Holds new
asked_by Holds old new tick asked (Ok answer) stays back steps left holds live =
    set_holds Holds asked.lab _ old.meaning new.meaning steps
    (step_there Holds (old.meaning asked.lab) tick asked.instruction stays
    (holds (back live) asked.lab)) (holds (back live))
asked_by Holds old new tick asked (Err fault) stays back steps left holds live =
    left_holds Holds old new back left holds live

-- every laboratory is within its limits after what was asked
pub asked_within : {A F : Type 0} (old new : World) (tick : Tick) (asked : Asked)
    (answered : Result A F) → IsCommandFormed asked.instruction.command →
    (new.is_live → old.is_live) →
    OnOk answered (Steps tick (Ok asked) old.meaning new.meaning) →
    OnErr answered (Leaves old new) → HoldsIn IsWithin old → HoldsIn IsWithin new
asked_within old new tick asked answered formed back steps left holds =
    asked_by IsWithin old new tick asked answered
    (λ lab within. step_within lab tick asked.instruction within
    (formed_is_right asked.instruction.command formed)) back steps left holds

releasing_of : (lab : Option Lab) → WhereThere IsBound lab → WhereThere IsDual lab →
    WhereThere IsReleasing lab
releasing_of None bound dual = tt
releasing_of (Some lab) bound dual = record {
  bound = bound;
  dual = dual;
  released = all_released lab bound dual;
}

pub step_releasing : (tick : Tick) (instruction : Instruction) → Stays IsReleasing tick instruction
step_releasing tick instruction lab is =
    releasing_of (step (Some lab) tick instruction).after
    (step_keeps IsBoundRecord bound_stays lab tick instruction is.bound)
    (step_keeps (λ code kept. IsDualRecord kept) dual_stays lab tick instruction is.dual)

-- and bound and under dual control
pub asked_releasing : {A F : Type 0} (old new : World) (tick : Tick) (asked : Asked)
    (answered : Result A F) → (new.is_live → old.is_live) →
    OnOk answered (Steps tick (Ok asked) old.meaning new.meaning) →
    OnErr answered (Leaves old new) → HoldsIn IsReleasing old → HoldsIn IsReleasing new
asked_releasing old new tick asked answered back steps left holds =
    asked_by IsReleasing old new tick asked answered (step_releasing tick asked.instruction) back
    steps left holds

-- and whatever a crash leaves after what was asked, where it was so of what it could leave before
asked_leaves : (Holds : Lab → Type 0) (old new : World) (tick : Tick) (asked : Asked) →
    Stays Holds tick asked.instruction → CommitsAs (Steps tick (Ok asked)) old new →
    old.is_live → HoldsIn Holds old → LeavesOnly Holds old → LeavesOnly Holds new
asked_leaves Holds old new tick asked stays crash live holds before held left =
    elim (crash live held left) as (λ _. OfAll Holds held) [
      | inl so ↦ before held so
      | inr steps ↦ set_holds Holds asked.lab _ old.meaning held steps
          (step_there Holds (old.meaning asked.lab) tick asked.instruction stays
          (holds live asked.lab)) (holds live)
    ]

pub asked_leaves_within : (old new : World) (tick : Tick) (asked : Asked) →
    IsCommandFormed asked.instruction.command → CommitsAs (Steps tick (Ok asked)) old new →
    old.is_live → HoldsIn IsWithin old → LeavesOnly IsWithin old → LeavesOnly IsWithin new
asked_leaves_within old new tick asked formed =
    asked_leaves IsWithin old new tick asked
    (λ lab within. step_within lab tick asked.instruction within
    (formed_is_right asked.instruction.command formed))

pub asked_leaves_releasing : (old new : World) (tick : Tick) (asked : Asked) →
    CommitsAs (Steps tick (Ok asked)) old new →
    old.is_live → HoldsIn IsReleasing old → LeavesOnly IsReleasing old →
    LeavesOnly IsReleasing new
asked_leaves_releasing old new tick asked =
    asked_leaves IsReleasing old new tick asked (step_releasing tick asked.instruction)

-- ---- a founding

placed_by : (Holds : Lab → Type 0) (old new : World) (lab : Lab) → (new.is_live → old.is_live) →
    Places lab old.meaning new.meaning → Holds lab → HoldsIn Holds old → HoldsIn Holds new
placed_by Holds old new lab back placed here holds live =
    set_holds Holds lab.code (Some lab) old.meaning new.meaning placed.placed here
    (holds (back live))

pub placed_within : (old new : World) (code : List ℕ) (tick : Tick) (founding : Founding)
    (lab : Lab) → born None code tick founding ≡ Ok lab → (new.is_live → old.is_live) →
    Places lab old.meaning new.meaning → HoldsIn IsWithin old → HoldsIn IsWithin new
placed_within old new code tick founding lab birth back placed holds =
    placed_by IsWithin old new lab back placed (born_right code tick founding lab birth).0 holds

pub placed_releasing : (old new : World) (code : List ℕ) (tick : Tick) (founding : Founding)
    (lab : Lab) → born None code tick founding ≡ Ok lab → (new.is_live → old.is_live) →
    Places lab old.meaning new.meaning → HoldsIn IsReleasing old → HoldsIn IsReleasing new
placed_releasing old new code tick founding lab birth back placed holds =
    let right = born_right code tick founding lab birth in
    placed_by IsReleasing old new lab back placed
    (releasing_of (Some lab) right.1 right.2) holds

-- whatever a crash leaves after a laboratory was to be placed
placed_leaves : (Holds : Lab → Type 0) (old new : World) (lab : Lab) → Holds lab →
    CommitsAs (Places lab) old new → old.is_live → HoldsIn Holds old → LeavesOnly Holds old →
    LeavesOnly Holds new
placed_leaves Holds old new lab here crash live holds before held left =
    elim (crash live held left) as (λ _. OfAll Holds held) [
      | inl so ↦ before held so
      | inr placed ↦ set_holds Holds lab.code (Some lab) old.meaning held placed.placed here
          (holds live)
    ]

pub placed_leaves_within : (old new : World) (code : List ℕ) (tick : Tick) (founding : Founding)
    (lab : Lab) → born None code tick founding ≡ Ok lab → CommitsAs (Places lab) old new →
    old.is_live → HoldsIn IsWithin old → LeavesOnly IsWithin old → LeavesOnly IsWithin new
placed_leaves_within old new code tick founding lab birth =
    placed_leaves IsWithin old new lab (born_right code tick founding lab birth).0

pub placed_leaves_releasing : (old new : World) (code : List ℕ) (tick : Tick) (founding : Founding)
    (lab : Lab) → born None code tick founding ≡ Ok lab → CommitsAs (Places lab) old new →
    old.is_live → HoldsIn IsReleasing old → LeavesOnly IsReleasing old →
    LeavesOnly IsReleasing new
placed_leaves_releasing old new code tick founding lab birth =
    let right = born_right code tick founding lab birth in
    placed_leaves IsReleasing old new lab (releasing_of (Some lab) right.1 right.2)

born_releasing : (code : List ℕ) (tick : Tick) (founding : Founding)
    (result : Result Lab BirthRefusal) → born None code tick founding ≡ result →
    WhereThere IsReleasing (after_birth None (birth result))
born_releasing code tick founding (Ok lab) is =
    let right = born_right code tick founding lab is in releasing_of (Some lab) right.1 right.2
born_releasing code tick founding (Err refusal) is = tt

not_born_releasing : (lab : Lab) (result : Result Lab BirthRefusal) →
    ((other : Lab) → result ≢ Ok other) → IsReleasing lab →
    WhereThere IsReleasing (after_birth (Some lab) (birth result))
not_born_releasing lab (Ok other) never is = absurd (never other refl)
not_born_releasing lab (Err refusal) never is = is

-- a laboratory after a founding of its code
pub birth_releasing : (lab : Option Lab) (code : List ℕ) (tick : Tick) (body : Body) →
    WhereThere IsReleasing lab → WhereThere IsReleasing (after_birth lab (born_of lab code tick body))
birth_releasing None code tick (Err refusal) is = tt
birth_releasing None code tick (Ok founding) is =
    born_releasing code tick founding (born None code tick founding) refl
birth_releasing (Some lab) code tick (Err refusal) is = is
birth_releasing (Some lab) code tick (Ok founding) is =
    not_born_releasing lab (born (Some lab) code tick founding)
    (λ other. not_again lab other code tick founding) is
