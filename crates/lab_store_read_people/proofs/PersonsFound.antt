-- What was read of the rows that a query shows, as what the tables have.
use Rattle.std.proofs.Common.{◌≡◌, ℕ, ℤ, cond, List, [], ◌∷◌, map, filter, find, slice_get, Option, Some, None, option_map, refl, sym, ap, ◌∙◌, int_eq, bytes_eq}
use Rattle.std.specs.Cmp.{on_total}
use Rattle.std.specs.Cmp.Lexicographic.{nat_list_cmp_total}
use Rattle.sqlite_keyed.proofs.ListLemmas.{slice_get-filter, map-map, map_same}
use Rattle.lab_people_access.specs.declared.persons.Person.{Person}
use Rattle.lab_people_access.specs.Persons.{person_of}
use Rattle.lab_store_tables.specs.Rows.{PersonRow, Tables}
use Rattle.lab_store_tables.specs.Columns.{password_in}
use Rattle.lab_store_tables.specs.WellKept.{IsWellKept}
use Rattle.lab_store_tables.specs.Changes.{is_person}
use Rattle.lab_store_tables.specs.Meaning.{person_in, persons_of, by_code}
use Rattle.lab_store_read.proofs.Finds.{found_alone}
use Rattle.lab_store_read_people.specs.Heads.{ask_head}
use Rattle.lab_store_read_people.specs.Private.Heads.{person_head, person_heads_of, ask_by, person_by}
use Rattle.lab_store_read_people.specs.PersonsShown.{person_shown, person_shown_by, persons_shown, person_read, password_cells, ask_cells}
use Rattle.lab_store_read_people.proofs.PersonKeys.{persons_apart}
use Rattle.lab_store_read.proofs.Lists.{alone_texts}
use Rattle.lab_store_read.proofs.Found.{flag_back, number_back, blob_back, id_back}

password_back : (one : PersonRow) → password_cells (person_shown one) ≡ one.password
password_back one = λ i. record {
  kind = one.password.kind;
  salt = blob_back one.password.salt i;
  rounds = number_back one.password.rounds i;
  bytes = blob_back one.password.bytes i;
  salt2 = blob_back one.password.salt2 i;
  rounds2 = number_back one.password.rounds2 i;
  bytes2 = blob_back one.password.bytes2 i;
  changed = number_back one.password.changed i;
}

ask_back : (one : PersonRow) → ask_cells (person_shown one) ≡ one.ask
ask_back one = λ i. record {
  asker = id_back one.ask.asker i;
  asked = number_back one.ask.asked i;
  salt = blob_back one.ask.salt i;
  rounds = number_back one.ask.rounds i;
  bytes = blob_back one.ask.bytes i;
}

person_back : (one : PersonRow) → person_read (person_shown one) ≡ person_head one
person_back one = λ i. record (person_head one) {
  retired = flag_back one.retired i;
  locked = number_back one.locked i;
  password = password_in (password_back one i);
  ask = ask_head (ask_back one i);
}

pub persons_found : (t : Tables) (lab : ℤ) → map person_read (persons_shown t lab) ≡ person_heads_of t lab
persons_found t lab = map-map person_read person_shown _ ∙ map_same _ _ person_back _

person_built : (t : Tables) (one : PersonRow) → person_by t (person_head one) ≡ person_in t one
person_built t one = λ i. record (person_in t one) { ask = go one.ask.asker i }
  where
    go : (o : Option ℤ) → option_map (ask_by t) (ask_head (record one.ask { asker = o })) ≡ (person_in t (record one { ask = record one.ask { asker = o } })).ask
    go None = refl
    go (Some asker) = refl

pub persons_built : (t : Tables) (lab : ℤ) → map (person_by t) (person_heads_of t lab) ≡ persons_of t lab
persons_built t lab = map-map (person_by t) person_head _ ∙ map_same _ _ (person_built t) _

person_is_found : (code : List ℕ) (persons : List Person) → person_of persons code ≡ find (λ (one : Person). bytes_eq one.code code) persons
person_is_found code [] = refl
person_is_found code (one ∷ others) = ap (λ more. cond (bytes_eq one.code code) (Some one) more) (person_is_found code others)

first_read : (t : Tables) (found : List PersonRow) → option_map (person_by t) (option_map person_read (slice_get (map person_shown found) 0)) ≡ option_map (person_in t) (slice_get found 0)
first_read t [] = refl
first_read t (one ∷ more) = ap Some (ap (person_by t) (person_back one) ∙ person_built t one)

pub person_found : (t : Tables) → IsWellKept t → (lab : ℤ) (code : List ℕ)
    → option_map (person_by t) (option_map person_read (slice_get (person_shown_by t lab code) 0)) ≡ person_of (persons_of t lab) code
person_found t kept lab code =
    first_read t (filter (is_person lab code) t.persons) ∙ ap (option_map (person_in t)) (slice_get-filter (is_person lab code) t.persons)
    ∙ sym (person_is_found code (persons_of t lab)
    ∙ found_alone by_code (on_total (λ (one : PersonRow). one.code) nat_list_cmp_total) (λ (one : PersonRow). int_eq one.lab lab) (person_in t) (λ (one : Person). bytes_eq one.code code) t.persons
    (alone_texts (λ (one : PersonRow). one.lab) (λ (one : PersonRow). one.code) lab code t.persons (persons_apart t kept)))
