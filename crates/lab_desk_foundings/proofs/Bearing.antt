-- Births: a founding that bears none bears none whatever laboratory there is, what is born is the
-- newborn, and what is said of a founding that was taken.
use Rattle.std.proofs.Common.{◌≡◌, ℕ, Bool, true, false, cond, not, List, Option, Some, None, Result, Ok, Err, refl, sym, ◌∙◌, ap, subst, IsOk}
use Rattle.std.specs.Prelude.{IfErr, IsSome, OnErr, OnOk, is_ok}
use Rattle.std.proofs.lemmas.Bool.{false≢true}
use Rattle.lab_forms_texts.specs.Faults.{Entry}
use Rattle.lab_forms_texts.specs.declared.tick.Tick.{Tick}
use Rattle.lab_wire_members.specs.Refusals.{body_entry}
use Rattle.lab_records_keeper.specs.Faults.{placing_fault_entry}
use Rattle.lab_records_keeper.specs.declared.faults.PlacingFault.TheVariants.{LabExists as AlreadyThere, Storage, Memory}
use Rattle.lab_records_kept.specs.declared.labs.Lab.{Lab}
use Rattle.lab_records_machine.specs.declared.births.Founding.{Founding}
use Rattle.lab_records_machine.specs.declared.births.BirthRefusal.{BirthRefusal}
use Rattle.lab_records_machine.specs.declared.births.BirthRefusal.TheVariants.{CodeTaken, BadPassword, LabExists}
use Rattle.lab_records_machine.specs.Births.{is_code_shared, are_passwords, birth_entry, born, born_at, newborn}
use Rattle.lab_records_keeper.specs.Worlds.{World, SameMeaning, Places, Given, Lives, Leaves}
use Rattle.lab_desk_foundings.specs.declared.faults.FoundFault.{FoundFault}
use Rattle.lab_desk_foundings.specs.declared.faults.FoundFault.TheVariants.{Body as OfBody, Birth as OfBirth, Placing}
use Rattle.lab_desk_foundings.specs.Faults.{FoundFaultFits, OnBody, OnKept, found_fault_entry, is_taken}
use Rattle.lab_desk_foundings.specs.Foundings.{Body, Bears, BearsNone, IsNewborn, Founds, after_birth, birth, born_of, founded_line, line_of, refused_line}
use Rattle.lab_desk_foundings.specs.Private.Foundings.{TakesFounding}

-- a founding, by its two refusals
abbrev born_by : Bool → Bool → Result Lab BirthRefusal → Result Lab BirthRefusal
born_by shared bad there = cond shared (Err CodeTaken) (cond bad (Err BadPassword) there)

seen_by : (shared bad : Bool) (seen start : Option Lab) (code : List ℕ) (tick : Tick)
    (founding : Founding) →
    (IsOk (born_by shared bad (born_at None code tick founding)) → seen ≡ start) →
    born_by shared bad (born_at seen code tick founding)
    ≡ born_by shared bad (born_at start code tick founding)
seen_by true bad seen start code tick founding same = refl
seen_by false true seen start code tick founding same = refl
seen_by false false seen start code tick founding same =
    ap (λ (lab : Option Lab). born_at lab code tick founding) (same refl)

-- a body that bears none is refused whatever laboratory there is
pub born_seen : (body : Body) (seen start : Option Lab) (code : List ℕ) (tick : Tick) →
    (Bears code tick body → seen ≡ start) → born_of seen code tick body ≡ born_of start code tick body
born_seen (Err refusal) seen start code tick same = refl
born_seen (Ok founding) seen start code tick same =
    ap birth (seen_by (is_code_shared founding) (not (are_passwords founding)) seen start code tick
    founding same)

is_by : (shared bad : Bool) (code : List ℕ) (tick : Tick) (founding : Founding) (lab : Lab) →
    born_by shared bad (born_at None code tick founding) ≡ Ok lab → lab ≡ newborn code tick founding
is_by true bad code tick founding lab is = cc
is_by false true code tick founding lab is = cc
is_by false false code tick founding lab is = cc

-- what is born is the newborn
pub born_is : (code : List ℕ) (tick : Tick) (founding : Founding) (lab : Lab) →
    born None code tick founding ≡ Ok lab → lab ≡ newborn code tick founding
born_is code tick founding lab is =
    is_by (is_code_shared founding) (not (are_passwords founding)) code tick founding lab is

none_by : (shared bad : Bool) (seen : Option Lab) (code : List ℕ) (tick : Tick)
    (founding : Founding) (reason : BirthRefusal) →
    born_by shared bad (born_at None code tick founding) ≡ Err reason →
    born_by shared bad (born_at seen code tick founding) ≡ Err reason
none_by true bad seen code tick founding reason is = is
none_by false true seen code tick founding reason is = is
none_by false false seen code tick founding reason is = cc

-- why none is born is why none is born where there is one
pub none_seen : (seen : Option Lab) (code : List ℕ) (tick : Tick) (founding : Founding)
    (reason : BirthRefusal) → born None code tick founding ≡ Err reason →
    born seen code tick founding ≡ Err reason
none_seen seen code tick founding reason is =
    none_by (is_code_shared founding) (not (are_passwords founding)) seen code tick founding reason
    is

there_by : (shared bad : Bool) (lab : Lab) (code : List ℕ) (tick : Tick) (founding : Founding) →
    IsOk (born_by shared bad (born_at None code tick founding)) →
    born_by shared bad (born_at (Some lab) code tick founding) ≡ Err LabExists
there_by true bad lab code tick founding is = absurd (cc)
there_by false true lab code tick founding is = absurd (cc)
there_by false false lab code tick founding is = refl

-- none is born where there is one
pub born_there : (lab : Lab) (code : List ℕ) (tick : Tick) (founding : Founding) →
    IsOk (born None code tick founding) → born (Some lab) code tick founding ≡ Err LabExists
born_there lab code tick founding is =
    there_by (is_code_shared founding) (not (are_passwords founding)) lab code tick founding is

-- what was founded from a newborn was founded from its body
pub founds_as : (old new : World) (places : Lab → Type 0) (code : List ℕ) (tick : Tick)
    (body : Body) (lab : Lab) → IsNewborn code tick body lab → Places lab old.meaning new.meaning →
    places lab → Founds old new places code tick body
founds_as old new places code tick body lab newly placed rows =
    let same : lab ≡ newborn code tick newly.founding =
    born_is code tick newly.founding lab newly.bears in
    record {
      founding = newly.founding;
      read = newly.read;
      bears = subst (λ (one : Lab). born None code tick newly.founding ≡ Ok one) same newly.bears;
      placed = subst (λ (one : Lab). Places one old.meaning new.meaning) same placed;
      rows = subst places same rows;
    }

-- ---- a founding that was taken

taken_as_born : (old new : World) (places : Lab → Type 0) (code : List ℕ) (tick : Tick)
    (body : Body) (line : List ℕ) → Founds old new places code tick body → Lives old new →
    line ≡ founded_line code → TakesFounding old new code tick body line
taken_as_born old new places code tick body line founds lives told =
    let lab : Lab = newborn code tick founds.founding in
    let is : born_of (old.meaning code) code tick body ≡ Ok lab =
    ap (λ (one : Body). born_of (old.meaning code) code tick one) founds.read
    ∙ ap (λ (seen : Option Lab). birth (born seen code tick founds.founding)) founds.placed.was_none
    ∙ ap birth founds.bears in
    record {
      answered = told ∙ sym (ap (line_of code) is);
      after = record {
        here = founds.placed.placed.here ∙ sym (ap (after_birth (old.meaning code)) is);
        others = founds.placed.placed.others;
      };
      lives = λ bears. lives;
    }

-- where a laboratory was founded, and the line says so
pub takes_founded : (old new : World) (places : Lab → Type 0) (code : List ℕ) (tick : Tick)
    (body : Body) (line : List ℕ) (result : Result (Unit {0}) FoundFault) (done : Unit {0}) →
    result ≡ Ok done → OnOk result (Founds old new places code tick body) →
    OnKept result (Lives old new) → line ≡ founded_line code →
    TakesFounding old new code tick body line
takes_founded old new places code tick body line result done is founds lives told =
    taken_as_born old new places code tick body line
    (subst (λ (one : Result (Unit {0}) FoundFault).
    OnOk one (Founds old new places code tick body)) is founds)
    (subst (λ (one : Result (Unit {0}) FoundFault). OnKept one (Lives old new)) is lives) told

-- where none is born, every laboratory means what it meant
taken_by_row : (old new : World) (code : List ℕ) (tick : Tick) (body : Body) (entry : Entry) →
    born_of (old.meaning code) code tick body ≡ Err entry → SameMeaning old.meaning new.meaning →
    (Bears code tick body → Lives old new) →
    TakesFounding old new code tick body (refused_line entry)
taken_by_row old new code tick body entry is same lives = record {
  answered = sym (ap (line_of code) is);
  after = record {
    here = same code ∙ sym (ap (after_birth (old.meaning code)) is);
    others = λ other differs. same other;
  };
  lives = lives;
}

none_of : (seen : Option Lab) (code : List ℕ) (tick : Tick) (body : Body)
    (reason : BirthRefusal) → BearsNone code tick body reason →
    born_of seen code tick body ≡ Err (birth_entry reason)
none_of seen code tick (Err refusal) reason is = absurd is
none_of seen code tick (Ok founding) reason is =
    ap birth (none_seen seen code tick founding reason is)

bears_none : (code : List ℕ) (tick : Tick) (body : Body) (reason : BirthRefusal) →
    BearsNone code tick body reason → Bears code tick body → ⊥
bears_none code tick (Err refusal) reason is bears = bears
bears_none code tick (Ok founding) reason is bears = false≢true (ap is_ok (sym is) ∙ bears)

there_of : (seen : Option Lab) (code : List ℕ) (tick : Tick) (body : Body) → IsSome seen →
    Bears code tick body → born_of seen code tick body ≡ Err (placing_fault_entry AlreadyThere)
there_of None code tick body there bears = absurd (false≢true there)
there_of (Some lab) code tick (Err refusal) there bears = absurd bears
there_of (Some lab) code tick (Ok founding) there bears =
    ap birth (born_there lab code tick founding bears)

unmoved : {S : Type 0} (world : S → World) (old new : S) → new ≡ old →
    SameMeaning (world old).meaning (world new).meaning
unmoved {S} world old new same code = ap (λ (one : S). (world one).meaning code) same

taken_by : {S : Type 0} (world : S → World) (old new : S) (code : List ℕ) (tick : Tick)
    (body : Body) (fault : FoundFault) → (world new).is_honest → (world old).is_reached →
    is_taken fault ≡ true →
    FoundFaultFits (world old).may_refuse
    (Given (world old) (world new) (IsSome ((world old).meaning code))) code tick body fault →
    OnBody (Err fault) (new ≡ old) → OnKept (Err fault) (Lives (world old) (world new)) →
    Leaves (world old) (world new) →
    TakesFounding (world old) (world new) code tick body (refused_line (found_fault_entry fault))
taken_by {S} world old new code tick body (OfBody refusal) honest reached taken fits same lives left =
    taken_by_row (world old) (world new) code tick body (body_entry refusal)
    (ap (λ (one : Body). born_of ((world old).meaning code) code tick one) fits)
    (unmoved world old new same)
    (λ bears. absurd (subst (λ (one : Body). Bears code tick one) fits bears))
taken_by {S} world old new code tick body (OfBirth reason) honest reached taken fits same lives left =
    taken_by_row (world old) (world new) code tick body (birth_entry reason)
    (none_of ((world old).meaning code) code tick body reason fits)
    (unmoved world old new same)
    (λ bears. absurd (bears_none code tick body reason fits bears))
taken_by {S} world old new code tick body (Placing AlreadyThere) honest reached taken fits same lives left =
    taken_by_row (world old) (world new) code tick body (placing_fault_entry AlreadyThere)
    (there_of ((world old).meaning code) code tick body (fits.1 honest reached) fits.0)
    (left lives.1) (λ bears. lives)
taken_by {S} world old new code tick body (Placing Storage) honest reached taken fits same lives left =
    absurd (false≢true taken)
taken_by {S} world old new code tick body (Placing Memory) honest reached taken fits same lives left =
    absurd (false≢true taken)

-- where none was founded, and the line tells the fault
pub takes_refused : {S : Type 0} (world : S → World) (old new : S) (code : List ℕ) (tick : Tick)
    (body : Body) (line : List ℕ) (result : Result (Unit {0}) FoundFault) (fault : FoundFault) →
    (world new).is_honest → (world old).is_reached → result ≡ Err fault →
    (is_taken fault ≡ true) × (line ≡ refused_line (found_fault_entry fault)) →
    IfErr result (FoundFaultFits (world old).may_refuse
    (Given (world old) (world new) (IsSome ((world old).meaning code))) code tick body) →
    OnBody result (new ≡ old) → OnKept result (Lives (world old) (world new)) →
    OnErr result (Leaves (world old) (world new)) →
    TakesFounding (world old) (world new) code tick body line
takes_refused {S} world old new code tick body line result fault honest reached is told fits same lives left =
    subst (λ (one : List ℕ). TakesFounding (world old) (world new) code tick body one) (sym told.1)
    (taken_by world old new code tick body fault honest reached told.0
    (subst (λ (one : Result (Unit {0}) FoundFault). IfErr one
    (FoundFaultFits (world old).may_refuse
    (Given (world old) (world new) (IsSome ((world old).meaning code))) code tick body)) is fits)
    (subst (λ (one : Result (Unit {0}) FoundFault). OnBody one (new ≡ old)) is same)
    (subst (λ (one : Result (Unit {0}) FoundFault).
    OnKept one (Lives (world old) (world new))) is lives)
    (subst (λ (one : Result (Unit {0}) FoundFault).
    OnErr one (Leaves (world old) (world new))) is left))
