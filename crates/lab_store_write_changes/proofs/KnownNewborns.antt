-- A small instance of the definition: whom something was asked for.
use Rattle.std.proofs.Common.{◌≡◌, true, false, Some, None, refl}
use Rattle.std.specs.Prelude.{codes}
use Rattle.lab_people_access.specs.declared.persons.Ask.{Ask}
use Rattle.lab_people_access.specs.declared.persons.Person.{Person}
use Rattle.lab_records_kept.specs.declared.births.Newborn.{Newborn}
use Rattle.lab_store_write_changes.specs.Newborns.{is_asked}

abbrev born : Person → Person → Person → Newborn
born first second third = record {
  code = codes "zinc";
  name = codes "Zinc Lab";
  moment = 2000;
  first = first;
  second = second;
  third = third;
}

-- whoever they are, one for whom something was asked is enough, whichever it is
pub known_asked : (one : Person) (ask : Ask) →
    (let plain = record one { ask = None } in
    let asked = record one { ask = Some ask } in
    (is_asked (born plain plain plain) ≡ false) × (is_asked (born asked plain plain) ≡ true)
    × (is_asked (born plain asked plain) ≡ true) × (is_asked (born plain plain asked) ≡ true))
known_asked one ask = (refl, refl, refl, refl)
