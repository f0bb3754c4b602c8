-- Each laboratory keeps what was there before a request, a founding and an event of its run.
use Rattle.std.proofs.Common.{◌≡◌, ◌≢◌, ℕ, Bool, true, false, List, Option, Some, None, Result, Ok, Err, refl, sym, ◌∙◌, subst, inl}
use Rattle.std.specs.Prelude.{OnOk, OnErr, bytes_eq}
use Rattle.std.proofs.lemmas.Bool.{false≢true}
use Rattle.std.proofs.lemmas.Slice.Eq.{bytes_eq-Decides}
use Rattle.lab_forms_texts.specs.declared.tick.Tick.{Tick}
use Rattle.lab_records_kept.specs.declared.labs.Lab.{Lab}
use Rattle.lab_records_kept.specs.Keeping.{Keeps}
use Rattle.lab_records_kept.specs.Limits.{IsWithin}
use Rattle.lab_records_keeper.specs.Worlds.{World, Meaning, SetsOne, Places, Leaves}
use Rattle.lab_records_machine.specs.declared.births.BirthRefusal.{BirthRefusal}
use Rattle.lab_records_machine.specs.declared.commands.Instruction.{Instruction}
use Rattle.lab_records_machine.specs.Births.{born}
use Rattle.lab_records_machine.specs.Machine.{step}
use Rattle.lab_records_laws.specs.Stepping.{WhereThere}
use Rattle.lab_records_laws.proofs.BirthLemmas.{not_again}
use Rattle.lab_records_laws.proofs.KeepForms.{forms_itself}
use Rattle.lab_records_laws.proofs.KeepLists.{prefix_itself}
use Rattle.lab_records_laws.proofs.KeepPersons.{persons_itself, sessions_itself}
use Rattle.lab_records_laws.proofs.KeepRecords.{records_itself}
use Rattle.lab_records_laws.proofs.KeepSteps.{step_keeps}
use Rattle.lab_records_laws.proofs.StayLemmas.{step_stays, holds_of}
use Rattle.lab_wire.specs.declared.commands.Asked.{Asked}
use Rattle.lab_desk_foundings.specs.Foundings.{Body, after_birth, birth, born_of}
use Rattle.lab_desk_events.specs.Keeping.{AreWithin, Follows, EachFollows, KeptFrom}
use Rattle.lab_desk_events.specs.Requests.{Steps}

-- ---- one laboratory

-- a laboratory that is left as it was
pub keeps_itself : (lab : Lab) → Keeps lab lab
keeps_itself lab = record {
  code = refl;
  name = refl;
  persons = persons_itself lab.persons;
  sessions = sessions_itself lab.sessions;
  forms = forms_itself lab.forms;
  records = records_itself lab.records;
  trail = prefix_itself lab.trail;
  told = inl refl;
}

pub follows_itself : (lab : Option Lab) → Follows Keeps lab lab
follows_itself None = tt
follows_itself (Some lab) = keeps_itself lab

-- after a step
pub step_follows : (lab : Option Lab) (tick : Tick) (instruction : Instruction) →
    WhereThere IsWithin lab → Follows Keeps lab (step lab tick instruction).after
step_follows None tick instruction within = tt
step_follows (Some lab) tick instruction within =
    holds_of (Keeps lab) (step (Some lab) tick instruction).after
    (step_stays lab tick instruction)
    (step_keeps lab tick instruction within.forms_numbered)

not_born : (lab : Lab) (result : Result Lab BirthRefusal) →
    ((other : Lab) → result ≢ Ok other) → Follows Keeps (Some lab)
    (after_birth (Some lab) (birth result))
not_born lab (Ok other) never = absurd (never other refl)
not_born lab (Err refusal) never = keeps_itself lab

-- after a founding of its code, which finds it there
pub birth_follows : (lab : Option Lab) (code : List ℕ) (tick : Tick) (body : Body) →
    Follows Keeps lab (after_birth lab (born_of lab code tick body))
birth_follows None code tick body = tt
birth_follows (Some lab) code tick (Err refusal) = keeps_itself lab
birth_follows (Some lab) code tick (Ok founding) =
    not_born lab (born (Some lab) code tick founding)
    (λ other. not_again lab other code tick founding)

-- ---- a meaning of which one laboratory is set, or none

set_follows : (code other : List ℕ) (after : Option Lab) (old new : Meaning) (b : Bool) →
    bytes_eq code other ≡ b → SetsOne code after old new → Follows Keeps (old code) after →
    Follows Keeps (old other) (new other)
set_follows code other after old new true is set here =
    let same : code ≡ other = (bytes_eq-Decides code other).0 is in
    subst (λ (one : List ℕ). Follows Keeps (old one) (new one)) same
    (subst (Follows Keeps (old code)) (sym set.here) here)
set_follows code other after old new false is set here =
    subst (Follows Keeps (old other)) (sym (set.others other
    (λ same. false≢true (sym is ∙ (bytes_eq-Decides code other).1 (sym same)))))
    (follows_itself (old other))

set_keeps : (code : List ℕ) (after : Option Lab) (old new : Meaning) →
    SetsOne code after old new → Follows Keeps (old code) after → EachFollows Keeps old new
set_keeps code after old new set here = λ other.
    set_follows code other after old new (bytes_eq code other) refl set here

-- laboratories that mean what they meant
pub left_keeps : (old new : World) → Leaves old new → KeptFrom old new
left_keeps old new left = λ live code.
    subst (Follows Keeps (old.meaning code)) (sym (left live code))
    (follows_itself (old.meaning code))

-- nothing was touched
pub still_keeps : (world : World) → KeptFrom world world
still_keeps world = λ live code. follows_itself (world.meaning code)

-- ---- a request

pub asked_keeps : {A F : Type 0} (old new : World) (tick : Tick) (asked : Asked)
    (answered : Result A F) → (new.is_live → old.is_live) →
    OnOk answered (Steps tick (Ok asked) old.meaning new.meaning) →
    OnErr answered (Leaves old new) → AreWithin old → KeptFrom old new
asked_keeps old new tick asked (Ok answer) back steps left within = λ live.
    set_keeps asked.lab (step (old.meaning asked.lab) tick asked.instruction).after
    old.meaning new.meaning steps
    (step_follows (old.meaning asked.lab) tick asked.instruction
    (within (back live) asked.lab))
asked_keeps old new tick asked (Err fault) back steps left within = left_keeps old new left

-- ---- a founding

pub placed_keeps : (old new : World) (lab : Lab) → Places lab old.meaning new.meaning →
    KeptFrom old new
placed_keeps old new lab placed = λ live.
    set_keeps lab.code (Some lab) old.meaning new.meaning placed.placed
    (subst (λ (before : Option Lab). Follows Keeps before (Some lab)) (sym placed.was_none) tt)
