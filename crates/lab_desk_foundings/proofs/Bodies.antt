-- What a founding's body says, by how many bytes it has; where it reads, it has some byte. Which faults its
-- reading may give.
use Rattle.std.proofs.Common.{◌≡◌, ◌∙◌, ◌<◌, ◌≤◌, ℕ, List, arith, length, take, lit<, Result, Ok, Err, ap, sym, false, if◌then◌else◌, inl, inr}
use Rattle.std.specs.Prelude.{IfErr, nat_le}
use Rattle.std.proofs.Math.Nat.{le_of_lt, lt_trans}
use Rattle.std.proofs.lemmas.Bool.{cases_lt, le-leb}
use Rattle.std.proofs.lemmas.Bool.Decides.{nat_tests}
use Rattle.std.proofs.lemmas.List.{length-take-le, take_all}
use Rattle.lab_wire_members.specs.declared.refusals.BodyRefusal.TheVariants.{BadBody}
use Rattle.lab_wire_bodies.specs.Bodies.{body_named}
use Rattle.lab_wire_bodies.specs.Foundings.{founding_named}
use Rattle.lab_wire_bodies.proofs.BodyLemmas.{byte_named}
use Rattle.lab_forms_texts.specs.declared.tick.Tick.{Tick}
use Rattle.lab_records_keeper.specs.declared.faults.PlacingFault.TheVariants.{LabExists, Storage, Memory}
use Rattle.lab_records_machine.specs.declared.births.Founding.{Founding}
use Rattle.lab_records_machine.specs.declared.births.BirthRefusal.{BirthRefusal}
use Rattle.lab_records_machine.proofs.BirthLemmas.{born_refused}
use Rattle.lab_desk_foundings.specs.declared.faults.FoundFault.{FoundFault}
use Rattle.lab_desk_foundings.specs.declared.faults.FoundFault.TheVariants.{Body as OfBody, Birth as OfBirth, Placing}
use Rattle.lab_desk_foundings.specs.Faults.{FoundFaultFits, FoundingFaultFits}
use Rattle.lab_desk_foundings.specs.Foundings.{Body, BearsNever, BearsNone, body_limit, founding_in}

-- a body of no more bytes than it may have says what its JSON names
pub said_within : (body : List ℕ) → length body ≤ body_limit → founding_in body ≡ body_named founding_named body
unfolding founding_in
said_within body within =
    ap (λ short. if short then body_named founding_named body else Err BadBody) (le-leb (length body) body_limit within)

-- a longer one is no body
pub said_past : (body : List ℕ) → body_limit < length body → founding_in body ≡ Err BadBody
unfolding founding_in
said_past body past =
    let long : nat_le (length body) body_limit ≡ false = grind (arith, nat_tests) in
    ap (λ short. if short then body_named founding_named body else Err BadBody) long

-- so its first bytes tell what a body says, where they are more than it may have
pub said_by_front : (count : ℕ) (body : List ℕ) → body_limit < count → founding_in (take count body) ≡ founding_in body
said_by_front count body more = elim (cases_lt count (length body)) [
  | inl cut ↦ said_past (take count body) (rw (length-take-le count body (le_of_lt cut)) more)
      ∙ sym (said_past body (lt_trans more cut))
  | inr whole ↦ ap founding_in (take_all count body whole)
]

-- a body that says a founding has some byte
some_byte : (body : List ℕ) (founding : Founding) → founding_in body ≡ Ok founding → 0 < length body
some_byte body founding is = elim (cases_lt body_limit (length body)) [
  | inl past ↦ lt_trans (lit< tt) past
  | inr within ↦ byte_named founding_named body founding (sym (said_within body within) ∙ is)
]

pub byte_read : {A : Type 0} (body : List ℕ) (founding : Founding) (r : Result A FoundFault) → founding_in body ≡ Ok founding
    → IfErr r (λ fault. fault ≡ Placing Memory → 0 < length body)
byte_read body founding (Ok newborn) is = tt
byte_read body founding (Err fault) is = λ told. some_byte body founding is

-- ---- faults

never_none : (code : List ℕ) (tick : Tick) (body : Body) (reason : BirthRefusal) → BearsNever body reason → BearsNone code tick body reason
never_none code tick (Err refusal) reason never = never
never_none code tick (Ok founding) reason never = born_refused code tick founding reason never

-- a fault of the reading of a body is one of its founding, for which no keeper is asked
pub found_fits : (code : List ℕ) (tick : Tick) (body : Body) (fault : FoundFault) → FoundingFaultFits body fault
    → FoundFaultFits ⊥ ⊥ code tick body fault
found_fits code tick body (OfBody refusal) fits = fits
found_fits code tick body (OfBirth reason) fits = never_none code tick body reason fits
found_fits code tick body (Placing LabExists) fits = absurd (cc)
found_fits code tick body (Placing Storage) fits = absurd (cc)
found_fits code tick body (Placing Memory) fits = tt
