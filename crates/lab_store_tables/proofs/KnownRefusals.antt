-- Changes that name somebody or something that isn't there make nothing of the small file, whatever it
-- would be: brick's `max` is nobody to aqua, and what brick has is nothing to aqua.
use Rattle.std.proofs.Common.{◌≡◌, pos, true, false, [], Some, None, unwrap_or, ap, subst, sym}
use Rattle.std.specs.Prelude.{codes}
use Rattle.lab_people_access.specs.declared.persons.Person.{Person}
use Rattle.lab_people_access.specs.declared.sessions.Session.{Session}
use Rattle.lab_seal_versions.specs.declared.rows.EntryRow.{EntryRow as Entry}
use Rattle.lab_seal_versions.specs.declared.seals.Meaning.TheVariants.{Review}
use Rattle.lab_records_kept.specs.declared.records.Record.{Record as Kept}
use Rattle.lab_records_kept.specs.declared.records.Signature.{Signature}
use Rattle.lab_records_kept.specs.declared.trails.TrailRow.{TrailRow as Told}
use Rattle.lab_records_kept.specs.declared.trails.Action.TheVariants as action
use Rattle.lab_records_kept.specs.declared.changes.Change.TheVariants.{Last}
use Rattle.lab_records_kept.proofs.KnownDefaults.{bare_entry, bare_form, bare_session, bare_signature, bare_told}
use Rattle.lab_store_tables.specs.Rows.{RecordRow, Tables, person_id}
use Rattle.lab_store_tables.specs.Changes.{IsFree, version_named, AddsPerson, SetsPerson, AddsSession, SetsSession, AddsRecord, EntersRow, OpensVersion, SignsVersion, AddsTold, Applies}
use Rattle.lab_store_tables.specs.Placing.{PlacesLab}
use Rattle.lab_store_tables.proofs.RowWords.{no_record}
use Rattle.lab_store_tables.proofs.KnownFile.{filled, file, filed}
use Rattle.lab_store_tables.proofs.KnownValues.{aqua, aqua_record, verifier}
use Rattle.lab_store_tables.proofs.KnownChanges.{bob, amended}

none_is : {A : Type 0} (one : A) → None ≡ Some one → ⊥
none_is one wrong = absurd cc

some_is : {A : Type 0} (one : A) → Some one ≡ None → ⊥
some_is one wrong = absurd cc

true_is : true ≡ false → ⊥
true_is wrong = absurd cc

-- ---- persons

-- aqua has no bob
pub known_no_such_person : (new : Tables) → SetsPerson (pos 7) bob file new → ⊥
known_no_such_person new it = none_is it.id it.found

abbrev asked_by_max : Person
asked_by_max = record bob { ask = Some (record { asker = codes "max"; asked = 1590; first = verifier 9 10 }) }

pub known_no_such_asker : (new : Tables) → AddsPerson (pos 7) asked_by_max file new → ⊥
known_no_such_asker new it = none_is it.named.0 it.named.1

abbrev eve_asked_by_max : Person
eve_asked_by_max = record asked_by_max { code = codes "eve" }

pub known_no_asker_to_set : (new : Tables) → SetsPerson (pos 7) eve_asked_by_max file new → ⊥
known_no_asker_to_set new it = none_is it.named.0 it.named.1

-- an id that a person has is not free, also where it is another laboratory's
pub known_taken : IsFree person_id file.persons (pos 1) → ⊥
known_taken free = true_is free

-- ---- sessions

abbrev of_max : Session
of_max = record bare_session { number = 3; person = codes "max"; token = filled 32 44; opened = 1590; last = 1590 }

pub known_no_such_holder : (new : Tables) → AddsSession (pos 7) of_max file new → ⊥
known_no_such_holder new it = none_is it.person it.named

-- brick has a session of this token
abbrev of_brick : Session
of_brick = record of_max { person = codes "dan"; token = filled 32 43 }

pub known_no_such_session : (new : Tables) → SetsSession (pos 7) of_brick file new → ⊥
known_no_such_session new it = none_is it.id it.found

-- ---- records

abbrev no_such_form : Kept
no_such_form = record (aqua_record 3 (codes "S3") []) {
  form = record bare_form { code = codes "water"; version = 3; form = record { fields = []; approval = false } };
}

pub known_no_such_form : (new : Tables) → AddsRecord (pos 7) no_such_form file new → ⊥
known_no_such_form new it = none_is it.form it.named

abbrev by_max : Entry
by_max = record bare_entry {
  key = codes "lead";
  value = codes "8.00";
  unit = codes "mg/L";
  person = codes "max";
  moment = 1500;
}

pub known_no_such_writer : (new : Tables) → EntersRow (pos 7) 2 by_max file new → ⊥
known_no_such_writer new it = none_is it.added.person it.added.named

-- brick has one record, and aqua two
pub known_no_such_record : (new : Tables) → EntersRow (pos 3) 2 by_max file new → ⊥
known_no_such_record new it = none_is it.kept it.found

pub known_none_to_amend : (new : Tables) → OpensVersion (pos 7) 3 amended file new → ⊥
known_none_to_amend new it = none_is it.kept it.found

abbrev signed_by_max : Signature
signed_by_max = record bare_signature {
  person = codes "max";
  name = codes "Max Moss";
  meaning = Review;
  moment = 1620;
  digest = filled 32 30;
  seal = filled 32 31;
}

pub known_no_such_signer : (new : Tables) → SignsVersion (pos 7) 2 1 signed_by_max file new → ⊥
known_no_such_signer new it = none_is it.added.person it.added.named

pub known_no_such_version : (new : Tables) → SignsVersion (pos 7) 2 2 signed_by_max file new → ⊥
known_no_such_version new it =
    let same : it.kept ≡ filed (pos 1) (pos 7) 2 (pos 1) (codes "water") (codes "S2") 1 =
    sym (ap (λ o. unwrap_or o no_record) it.found) in
    none_is it.signed (subst (λ (kept : RecordRow). version_named file kept.id 2 ≡ Some it.signed) same it.there)

-- ---- the trail, and laboratories

abbrev told_of_max : Told
told_of_max = record bare_told {
  number = 13;
  moment = 1620;
  person = Some (codes "max");
  action = action.Close;
  subject = codes "3";
}

pub known_nobody_told_of : (new : Tables) → AddsTold (pos 7) told_of_max file new → ⊥
known_nobody_told_of new it = none_is it.named.0 it.named.1

pub known_no_such_lab : (new : Tables) → Applies (codes "zinc") (Last 1700) file new → ⊥
known_no_such_lab new it = none_is it.lab it.found

-- none is placed where one is
pub known_placed_once : (new : Tables) → PlacesLab aqua file new → ⊥
known_placed_once new it = some_is _ it.absent
