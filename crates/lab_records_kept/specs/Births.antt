-- A laboratory as it is founded: it has three persons, in the order of their codes, and the first
-- row of the trail, which names no person; it has no session, no form and no record.
use Rattle.std.specs.Prelude.{[], ◌∷◌, None}
use Rattle.lab_records_kept.specs.declared.births.Newborn.{Newborn}
use Rattle.lab_records_kept.specs.declared.labs.Lab.{Lab}
use Rattle.lab_records_kept.specs.declared.trails.Deed.TheVariants.{Found}
use Rattle.lab_records_kept.specs.Changes.{added_person}
use Rattle.lab_records_kept.specs.Trails.{trail_row_of}

abbrev pub newborn_lab : Newborn → Lab
newborn_lab newborn = record {
  code = newborn.code;
  name = newborn.name;
  last = newborn.moment;
  strays = 0;
  persons =
      added_person newborn.third (added_person newborn.second (added_person newborn.first []));
  sessions = [];
  forms = [];
  records = [];
  trail = trail_row_of 1 newborn.moment None (Found newborn.code) ∷ [];
}
