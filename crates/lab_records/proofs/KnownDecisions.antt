-- Values from outside, so that a wrong rule in the definitions does not check: where nothing is made, so
-- that memory can't run out.
use Rattle.std.proofs.Common.{◌≡◌, ℕ, true, false, List, codes, refl, None}
use Rattle.lab_forms_texts.specs.declared.tick.Tick.{Tick}
use Rattle.lab_people_access.specs.declared.persons.Person.{Person}
use Rattle.lab_people_access.specs.declared.refusals.PeopleRefusal.TheVariants.{LabFull}
use Rattle.lab_people_access.specs.declared.sessions.Session.{Session}
use Rattle.lab_people_access.specs.Openings.{opening}
use Rattle.lab_records_kept.specs.declared.needs.Slice.{Slice}
use Rattle.lab_records_rules.specs.declared.refusals.Refusal.TheVariants.{People}
use Rattle.lab_records_machine.specs.declared.commands.Command.{Command}
use Rattle.lab_records_machine.specs.declared.commands.Command.TheVariants.{Card, Open}
use Rattle.lab_records_machine.specs.declared.passages.Passage.TheVariants.{Stranger, Barred, Passes}
use Rattle.lab_records.specs.Makings.{is_made_in, is_made_by, is_made}

-- a clock that is behind is refused with nothing made
pub known_clock : (slice : Slice) (tick : Tick) (command : Command)
    → is_made (record slice { last = 1100 }) (record tick { moment = 1099 }) command ≡ false
known_clock slice tick command = refl

-- so is a stranger; who is barred has come, which is noted, and not twice at one moment; the card is copied, and an unknown code
-- is a stray password, which is counted
pub known_makings : (slice : Slice) (tick : Tick) (session : Session) (caller : Person) (password : List ℕ)
    → (is_made_in 1100 1100 Stranger ≡ false)
    × (is_made_in 1099 1100 (Barred session (People LabFull)) ≡ true)
    × (is_made_in 1100 1100 (Barred (record session { last = 1099 }) (People LabFull)) ≡ true)
    × (is_made_in 1100 1100 (Barred (record session { last = 1100 }) (People LabFull)) ≡ false)
    × (is_made_in 1100 1100 (Passes session caller) ≡ true)
    × (is_made_by slice tick Card ≡ true)
    × (is_made_by (record slice { person = None; session = None }) tick (Open (codes "zed") password) ≡ true)
unfolding opening
known_makings slice tick session caller password = (refl, refl, refl, refl, refl, refl, refl)
