-- Values from outside, computed on the definitions over the small file of lab_store_tables: the part of the
-- laboratory aqua, whose dan, form and record other laboratories have too, as that of its meaning.
use Rattle.std.proofs.Common.{◌≡◌, Some, refl, ℕ, List, None, option_map, pos, [], ◌∷◌, map}
use Rattle.std.specs.Prelude.{codes}
use Rattle.lab_records_kept.specs.declared.needs.Need.{Need}
use Rattle.lab_records_kept.specs.declared.needs.FormWanted.TheVariants.{Last, Exact}
use Rattle.lab_records_kept.specs.declared.needs.RecordWanted.TheVariants.{About, Numbered}
use Rattle.lab_records_kept.specs.declared.needs.ListWanted.TheVariants.{Trail, Persons, Records}
use Rattle.lab_records_kept.specs.Parts.{part}
use Rattle.lab_store_tables.proofs.KnownFile.{filled, file}
use Rattle.lab_store_tables.proofs.KnownValues.{aqua}
use Rattle.lab_store_read_records.specs.Laboratories.{lab_by}
use Rattle.lab_store_load.specs.Private.Parts.{slice_by}
use Rattle.lab_people_access.specs.declared.persons.Person.{Person}
use Rattle.lab_store_load.specs.Private.People.{callers_by}
use Rattle.lab_store_load.specs.People.{people_by}
use Rattle.lab_records_kept.specs.declared.records.FormVersion.{FormVersion}
use Rattle.lab_records_kept.specs.declared.records.Record.{Record}
use Rattle.lab_store_load.specs.Things.{things_by}
use Rattle.lab_records_kept.specs.declared.trails.TrailRow.{TrailRow as Told}
use Rattle.lab_store_read_records.specs.declared.heads.LabHead.{LabHead}
use Rattle.lab_store_load.specs.Counts.{IsCounted, lab_id_of}
use Rattle.lab_store_load.specs.Lists.{counts_by, listed_by}

-- aqua's own row
abbrev head : LabHead
head = record {
  id = pos 7;
  code = codes "aqua";
  name = codes "Aqua Lab";
  last = 1600;
  strays = 2;
  records = 2;
  sessions = 2;
  trail = 12;
}

-- by the row of a laboratory the whole of it is the one that the tables mean
pub known_lab : lab_by file head ≡ aqua
known_lab = refl

-- ---- the part

abbrev whole_need : Need
whole_need = record {
  token = Some (filled 32 41);
  person = Some (codes "ann");
  form = Some (Last (codes "water"));
  filed = Some (About (codes "water") (codes "S2"));
  list = Some (Trail 11 20);
}

-- what is read of the rows is the part of the laboratory that they mean
pub known_part : slice_by file whole_need head ≡ part whole_need aqua
known_part = refl

abbrev name_of : Person → List ℕ
name_of person = person.name

-- ---- persons

abbrev need_of_persons : Need
need_of_persons = record {
  token = Some (filled 32 41);
  person = Some (codes "ann");
  form = None;
  filed = None;
  list = None;
}

-- the token is aqua's dan's and brick's dan's: it is aqua's that calls
pub known_people : (option_map name_of (people_by aqua need_of_persons).caller ≡ Some (codes "Dan Dale"))
    × (option_map name_of (people_by aqua need_of_persons).person ≡ Some (codes "Ann Ames"))
    × (option_map name_of (callers_by aqua (Some (filled 32 42))).caller ≡ Some (codes "Eve Eden"))
    × ((callers_by aqua (Some (filled 32 43))).session ≡ None) × ((callers_by aqua None).caller ≡ None)
known_people = (refl, refl, refl, refl, refl)

-- ---- forms and records

abbrev need_of_records : Need
need_of_records = record {
  token = None;
  person = None;
  form = Some (Last (codes "water"));
  filed = Some (About (codes "water") (codes "S2"));
  list = None;
}

-- the last version of a form is its second, and a record is found by its sample
pub known_things :
    (option_map (λ (form : FormVersion). form.version) (things_by aqua need_of_records).form ≡ Some 2)
    × (option_map (λ (kept : Record). kept.number) (things_by aqua need_of_records).filed ≡ Some 2)
    × (option_map (λ (form : FormVersion). form.version)
    (things_by aqua (record need_of_records { form = Some (Exact (codes "water") 1) })).form ≡ Some 1)
    × (option_map (λ (kept : Record). kept.number)
    (things_by aqua (record need_of_records { filed = Some (Numbered 3) })).filed ≡ None)
known_things = (refl, refl, refl, refl)

-- persons are counted, as no row counts them: brick's three are none of aqua's four
pub known_counts : counts_by file head ≡ record { persons = 4; sessions = 2; records = 2; trail = 12 }
known_counts = refl

-- so many were counted of either; what was counted of one is not right for the other, and no laboratory has the code zinc
pub known_counted :
    IsCounted file (record { code = codes "aqua"; lab = pos 7; persons = 4 })
    × IsCounted file (record { code = codes "brick"; lab = pos 3; persons = 3 })
    × (IsCounted file (record { code = codes "brick"; lab = pos 7; persons = 4 }) → ⊥)
    × (lab_id_of file (codes "zinc") ≡ None)
known_counted = (record { found = refl; persons = refl }, record { found = refl; persons = refl }, other, refl)
  where
    other : IsCounted file (record { code = codes "brick"; lab = pos 7; persons = 4 }) → ⊥
    other is = let wrong : Some (pos 7) ≡ Some (pos 3) = is.found in cc

-- ---- lists

-- from a number to a number, both taken; a list that isn't meant is empty
pub known_lists :
    (map (λ (told : Told). told.number) (listed_by aqua (Some (Trail 11 20))).trail ≡ 11 ∷ 12 ∷ [])
    × ((listed_by aqua (Some (Trail 11 20))).persons ≡ [])
    × (map (λ (kept : Record). kept.number) (listed_by aqua (Some (Records 2 2))).records ≡ 2 ∷ [])
    × (map name_of (listed_by aqua (Some Persons)).persons
    ≡ codes "Ann Ames" ∷ codes "Dan Dale" ∷ codes "Eve Eden" ∷ codes "Hal Hunt" ∷ [])
    × ((listed_by aqua None).records ≡ [])
known_lists = (refl, refl, refl, refl, refl)
