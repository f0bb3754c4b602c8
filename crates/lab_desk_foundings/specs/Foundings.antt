-- What the desk does of a founding: what every laboratory is afterwards, and the line that answers
-- it (docs/FORMATS.md has the lines).
use Rattle.std.specs.Prelude.{◌≡◌, ◌⊎◌, ℕ, List, ◌++◌, Option, Some, None, Result, Ok, Err, IsOk, codes, decimal, if◌then◌else◌, length, nat_le}
use Rattle.lab_forms_texts.specs.Faults.{Entry, memory_entry}
use Rattle.lab_forms_texts.specs.declared.tick.Tick.{Tick}
use Rattle.lab_wire_members.specs.declared.refusals.BodyRefusal.{BodyRefusal}
use Rattle.lab_wire_members.specs.declared.refusals.BodyRefusal.TheVariants.{BadBody}
use Rattle.lab_wire_members.specs.Refusals.{body_entry}
use Rattle.lab_wire_bodies.specs.Bodies.{body_named}
use Rattle.lab_wire_bodies.specs.Foundings.{founding_named}
use Rattle.lab_records_kept.specs.declared.labs.Lab.{Lab}
use Rattle.lab_records_keeper.specs.Faults.{storage_entry}
use Rattle.lab_records_keeper.specs.Worlds.{World, Meaning, SetsOne, Places}
use Rattle.lab_records_machine.specs.declared.births.Founding.{Founding}
use Rattle.lab_records_machine.specs.declared.births.BirthRefusal.{BirthRefusal}
use Rattle.lab_records_machine.specs.Births.{birth_entry, born, founding_refusal, newborn}
use Rattle.lab_desk_foundings.specs.declared.foundings.TheConstants.{BODY_LIMIT}

-- what a founding's body says, or why it says nothing
abbrev pub Body : Type 0
Body = Result Founding BodyRefusal

-- the most bytes of a founding's body
abbrev pub body_limit : ℕ
body_limit = BODY_LIMIT

-- what the bytes of a founding's body say: one of more bytes isn't read, and is no body
unfoldable pub founding_in : List ℕ → Body
founding_in body =
    if nat_le (length body) body_limit then body_named founding_named body else Err BadBody

-- a body that reads, from which a laboratory is born where there is none of the code
abbrev pub Bears : List ℕ → Tick → Body → Type 0
Bears code tick (Err refusal) = ⊥
Bears code tick (Ok founding) = IsOk (born None code tick founding)

-- a body that reads, from which none is born, and why
abbrev pub BearsNone : List ℕ → Tick → Body → BirthRefusal → Type 0
BearsNone code tick (Err refusal) reason = ⊥
BearsNone code tick (Ok founding) reason = born None code tick founding ≡ Err reason

-- a body that reads, from which none is born, whichever there are, and why
abbrev pub BearsNever : Body → BirthRefusal → Type 0
BearsNever (Err refusal) reason = ⊥
BearsNever (Ok founding) reason = founding_refusal founding ≡ Some reason

-- the founding that a body names, where it isn't refused
pub record IsFounding (body : Body) (founding : Founding) : Type 0 where
  pub read : body ≡ Ok founding
  pub admitted : founding_refusal founding ≡ None

-- the laboratory that is born from a body that reads, where there is none of the code
pub record IsNewborn (code : List ℕ) (tick : Tick) (body : Body) (lab : Lab) : Type 0 where
  pub founding : Founding
  pub read : body ≡ Ok founding
  pub bears : born None code tick founding ≡ Ok lab

-- the laboratory that is born, or the row of the table of refusals that tells why none is
abbrev pub birth : Result Lab BirthRefusal → Result Lab Entry
birth (Ok lab) = Ok lab
birth (Err refusal) = Err (birth_entry refusal)

-- a founding from its body: the body's refusal first, and then the machine's
abbrev pub born_of : Option Lab → List ℕ → Tick → Body → Result Lab Entry
born_of lab code tick (Err refusal) = Err (body_entry refusal)
born_of lab code tick (Ok founding) = birth (born lab code tick founding)

-- the laboratory after a founding, which a refusal leaves as it was
abbrev pub after_birth : Option Lab → Result Lab Entry → Option Lab
after_birth before (Ok lab) = Some lab
after_birth before (Err refusal) = before

-- the laboratory of the code is born, where its body reads and there was none, and every other
-- means what it meant
abbrev pub Births : List ℕ → Tick → Body → Meaning → Meaning → Type 0
Births code tick body old new =
    SetsOne code (after_birth (old code) (born_of (old code) code tick body)) old new

-- a laboratory that was founded from its body: there was none before, and the rows are as they were
-- but for it
pub record Founds (old new : World) (places : Lab → Type 0) (code : List ℕ) (tick : Tick)
    (body : Body) : Type 0 where
  pub founding : Founding
  pub read : body ≡ Ok founding
  pub bears : born None code tick founding ≡ Ok (newborn code tick founding)
  pub placed : Places (newborn code tick founding) old.meaning new.meaning
  pub rows : places (newborn code tick founding)

-- ---- the line that answers a founding

-- `founded <code>`
abbrev pub founded_line : List ℕ → List ℕ
founded_line code = codes "founded " ++ code ++ codes "\n"

-- `refused <number> <word>`
abbrev pub refused_line : Entry → List ℕ
refused_line entry = codes "refused " ++ decimal entry.number ++ codes " " ++ entry.word ++ codes
    "\n"

abbrev pub line_of : List ℕ → Result Lab Entry → List ℕ
line_of code (Ok lab) = founded_line code
line_of code (Err entry) = refused_line entry

abbrev pub memory_line : List ℕ
memory_line = refused_line memory_entry

abbrev pub storage_line : List ℕ
storage_line = refused_line storage_entry

-- a line, or that for lack of memory where there is none
abbrev pub shown : Option (List ℕ) → List ℕ
shown None = memory_line
shown (Some line) = line

-- a line tells that memory ran out, or that the store refused, where this may be
abbrev pub IsRefusedLine : Type 0 → List ℕ → Type 0
IsRefusedLine may_refuse line = (line ≡ memory_line) ⊎ (may_refuse × (line ≡ storage_line))
