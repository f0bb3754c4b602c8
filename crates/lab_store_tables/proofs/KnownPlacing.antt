-- What a founding makes of the small file, and what the placing of a whole laboratory makes of it, under
-- ids that are free and aren't the next: the laboratory, and the two that were there as they were.
use Rattle.std.proofs.Common.{◌≡◌, ℕ, pos, true, false, List, [], ◌∷◌, Some, None, refl}
use Rattle.std.specs.Prelude.{codes}
use Rattle.lab_people_access.specs.declared.persons.Person.{Person}
use Rattle.lab_people_access.specs.Persons.{newcomer}
use Rattle.lab_seal_versions.specs.declared.versions.Format.TheVariants as format
use Rattle.lab_forms.specs.declared.kinds.Kind.TheVariants.{Choice}
use Rattle.lab_seal_versions.specs.declared.seals.Meaning.TheVariants.{Authorship}
use Rattle.lab_records_kept.specs.declared.births.Newborn.{Newborn}
use Rattle.lab_records_kept.specs.declared.records.FormVersion.{FormVersion}
use Rattle.lab_records_kept.specs.declared.records.Version.{Version}
use Rattle.lab_records_kept.specs.declared.labs.Lab.{Lab}
use Rattle.lab_records_kept.specs.declared.trails.Action.TheVariants as action
use Rattle.lab_records_kept.specs.Births.{newborn_lab}
use Rattle.lab_records_kept.proofs.KnownDefaults.{bare_entry, bare_field, bare_form, bare_lab, bare_record, bare_session, bare_signature, bare_told, bare_version}
use Rattle.lab_store_tables.specs.Rows.{LabRow, Tables}
use Rattle.lab_store_tables.specs.Meaning.{meaning}
use Rattle.lab_store_tables.specs.Changes.{in_lab, put_person, put_session, put_form, put_field, put_choice, put_record, put_version, put_entry, put_signature, put_told, set_person}
use Rattle.lab_store_tables.specs.Placing.{PlacesLab, put_lab}
use Rattle.lab_store_tables.proofs.KnownFile.{filled, file, lab, filed, person, session, form, plainly, field, choice, version, entry, signature, told, unset, unasked, asked_by}
use Rattle.lab_store_tables.proofs.KnownValues.{aqua, brick, verifier}

-- the two that were there
abbrev AreThere : Tables → Type 0
AreThere new = (meaning new (codes "aqua") ≡ Some aqua) × (meaning new (codes "brick") ≡ Some brick)

abbrev founder : List ℕ → List ℕ → Person
founder code name = newcomer code name (record { analyst = false; reviewer = false; manager = false; administrator = true; inspector = false })

-- ---- a founding: the founders come in another order than that of their codes

abbrev newborn : Newborn
newborn = record {
  code = codes "zinc";
  name = codes "Zinc Lab";
  moment = 2000;
  first = founder (codes "cid") (codes "Cid Cole");
  second = founder (codes "ann") (codes "Ann Zorn");
  third = founder (codes "bob") (codes "Bob Zorn");
}

abbrev placed : Tables
placed = put_lab (lab (pos 5) (codes "zinc") (codes "Zinc Lab") 2000 0 0 0 0) file

abbrev with_ann : Tables
with_ann = put_person (person (pos 61) (pos 5) (codes "ann") (codes "Ann Zorn") 8 false 0 None unset unasked) placed

abbrev with_bob : Tables
with_bob = put_person (person (pos 62) (pos 5) (codes "bob") (codes "Bob Zorn") 8 false 0 None unset unasked) with_ann

abbrev with_cid : Tables
with_cid = put_person (person (pos 3) (pos 5) (codes "cid") (codes "Cid Cole") 8 false 0 None unset unasked) with_bob

abbrev pub founded : Tables
founded = in_lab (pos 5) (λ (one : LabRow). record one { trail = 1 })
    (put_told (told (pos 60) (pos 5) 1 2000 None (codes "found") (codes "zinc")) with_cid)

pub known_founding : PlacesLab (newborn_lab newborn) file founded
    × (meaning founded (codes "zinc") ≡ Some (newborn_lab newborn)) × AreThere founded
known_founding = (
  record {
    absent = refl;
    id = pos 5;
    free = refl;
    enrolled = with_cid;
    persons = (
      with_ann,
      record { id = pos 61; free = refl; asker = None; named = refl; made = refl },
      (
        with_bob,
        record { id = pos 62; free = refl; asker = None; named = refl; made = refl },
        (with_cid, record { id = pos 3; free = refl; asker = None; named = refl; made = refl }, refl),
      ),
    );
    asked = with_cid;
    asks = refl;
    opened = with_cid;
    sessions = refl;
    formed = with_cid;
    forms = refl;
    filed = with_cid;
    records = refl;
    trail = (founded, record { id = pos 60; free = refl; person = None; named = refl; made = refl }, refl);
  },
  refl,
  (refl, refl),
)

-- ---- a whole laboratory: of its two persons the second asked for a one-time password of the first

abbrev dirt : FormVersion
dirt = record bare_form {
  code = codes "dirt";
  version = 1;
  form = record {
    fields = record bare_field {
      key = codes "look";
      label = codes "Look";
      required = true;
      kind = Choice (codes "dry" ∷ []);
    } ∷ [];
    approval = true;
  };
}

abbrev dry : Version
dry = record bare_version {
  format = format.Two true;
  opener = codes "zoe";
  opened = 1910;
  rows = record bare_entry { key = codes "look"; value = codes "dry"; person = codes "zoe"; moment = 1920 } ∷ [];
  signatures = record bare_signature {
    person = codes "zoe";
    name = codes "Zoe Zink";
    meaning = Authorship;
    moment = 1930;
    digest = filled 32 51;
    seal = filled 32 52;
  } ∷ [];
}

abbrev clay : Lab
clay = record bare_lab {
  code = codes "clay";
  name = codes "Clay Lab";
  last = 1990;
  strays = 1;
  persons = record (founder (codes "amy") (codes "Amy Adde")) {
    ask = Some (record { asker = codes "zoe"; asked = 1950; first = verifier 9 10 });
  } ∷ founder (codes "zoe") (codes "Zoe Zink") ∷ [];
  sessions = record bare_session {
    number = 1;
    person = codes "zoe";
    token = filled 32 41;
    opened = 1900;
    last = 1990;
    signed = true;
  } ∷ [];
  forms = dirt ∷ [];
  records = record bare_record { number = 1; form = dirt; sample = codes "S1"; versions = dry ∷ [] } ∷ [];
  trail = record bare_told { number = 1; moment = 1880; action = action.Found; subject = codes "clay" } ∷ record bare_told {
    number = 2;
    moment = 1930;
    person = Some (codes "zoe");
    action = action.Sign;
    subject = codes "1/1/authorship";
  } ∷ [];
}

abbrev with_clay : Tables
with_clay = put_lab (lab (pos 5) (codes "clay") (codes "Clay Lab") 1990 1 0 0 0) file

abbrev with_amy : Tables
with_amy = put_person (person (pos 3) (pos 5) (codes "amy") (codes "Amy Adde") 8 false 0 None unset unasked) with_clay

abbrev with_zoe : Tables
with_zoe = put_person (person (pos 61) (pos 5) (codes "zoe") (codes "Zoe Zink") 8 false 0 None unset unasked) with_amy

abbrev asked : Tables
asked = set_person
    (person (pos 3) (pos 5) (codes "amy") (codes "Amy Adde") 8 false 0 None unset (asked_by (pos 61) 1950 9 10000 10)) with_zoe

abbrev opened : Tables
opened = in_lab (pos 5) (λ (one : LabRow). record one { sessions = 1 })
    (put_session (session (pos 9) (pos 5) (pos 61) 1 (filled 32 41) 1900 1990 false true) asked)

abbrev formed : Tables
formed = put_choice (choice (pos 9) (pos 9) 1 (codes "dry"))
    (put_field (field (pos 9) (pos 9) 1 (codes "look") (codes "Look") true (plainly (codes "choice")))
    (put_form (form (pos 9) (pos 5) (codes "dirt") 1 true) opened))

abbrev entered : Tables
entered = put_entry (entry (pos 9) (pos 9) 1 (codes "look") (codes "dry") [] (pos 61) 1920 None)
    (put_version (version (pos 9) (pos 9) 1 2 (pos 61) 1910 None)
    (in_lab (pos 5) (λ (one : LabRow). record one { records = 1 })
    (put_record (filed (pos 9) (pos 5) 1 (pos 9) (codes "dirt") (codes "S1") 1) formed)))

abbrev signed : Tables
signed = put_signature
    (signature (pos 9) (pos 9) 1 (pos 61) (codes "Zoe Zink") (codes "authorship") 1930 None (filled 32 51) (filled 32 52))
    entered

abbrev told_once : Tables
told_once = in_lab (pos 5) (λ (one : LabRow). record one { trail = 1 })
    (put_told (told (pos 60) (pos 5) 1 1880 None (codes "found") (codes "clay")) signed)

abbrev pub whole : Tables
whole = in_lab (pos 5) (λ (one : LabRow). record one { trail = 2 })
    (put_told (told (pos 50) (pos 5) 2 1930 (Some (pos 61)) (codes "sign") (codes "1/1/authorship")) told_once)

pub known_placing : PlacesLab clay file whole × (meaning whole (codes "clay") ≡ Some clay) × AreThere whole
known_placing = (
  record {
    absent = refl;
    id = pos 5;
    free = refl;
    enrolled = with_zoe;
    persons = (
      with_amy,
      record { id = pos 3; free = refl; asker = None; named = refl; made = refl },
      (with_zoe, record { id = pos 61; free = refl; asker = None; named = refl; made = refl }, refl),
    );
    asked = asked;
    asks = (
      asked,
      record { id = pos 3; found = refl; asker = Some (pos 61); named = (pos 61, refl, refl); made = refl },
      refl,
    );
    opened = opened;
    sessions = (opened, record { id = pos 9; free = refl; person = pos 61; named = refl; made = refl }, refl);
    formed = formed;
    forms = (
      formed,
      record {
        id = pos 9;
        free = refl;
        fields = (
          formed,
          record { id = pos 9; free = refl; choices = (formed, record { id = pos 9; free = refl; made = refl }, refl) },
          refl,
        );
      },
      refl,
    );
    filed = signed;
    records = (
      signed,
      record {
        id = pos 9;
        free = refl;
        form = pos 9;
        named = refl;
        versions = (
          signed,
          record {
            id = pos 9;
            free = refl;
            opener = pos 61;
            named = refl;
            entered = entered;
            rows = (entered, record { id = pos 9; free = refl; person = pos 61; named = refl; made = refl }, refl);
            signatures = (signed, record { id = pos 9; free = refl; person = pos 61; named = refl; made = refl }, refl);
          },
          refl,
        );
      },
      refl,
    );
    trail = (
      told_once,
      record { id = pos 60; free = refl; person = None; named = refl; made = refl },
      (
        whole,
        record { id = pos 50; free = refl; person = Some (pos 61); named = (pos 61, refl, refl); made = refl },
        refl,
      ),
    );
  },
  refl,
  (refl, refl),
)
