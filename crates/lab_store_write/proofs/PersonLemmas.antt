-- The columns of a person's row, and steps of several calls: a person more, a person set.
use Rattle.std.proofs.Common.{◌≡◌, ℤ, Some, None, Option, option_map, refl, ap, subst, ◌∙◌}
use Rattle.sqlite_keyed.specs.Keyed.{next_key}
use Rattle.sqlite_keyed.proofs.KeyedLemmas.{next_key_is_free}
use Rattle.sqlite.specs.State.{State}
use Rattle.lab_people_access.specs.declared.passwords.Password.{Password}
use Rattle.lab_people_access.specs.declared.passwords.Password.TheVariants.{Unset, Chosen, OneTime}
use Rattle.lab_people_access.specs.declared.persons.Person.{Person}
use Rattle.lab_people_access.specs.declared.persons.Ask.{Ask}
use Rattle.lab_store_tables.specs.Rows.{Tables, person_id}
use Rattle.lab_store_tables.specs.Columns.{roles_sum}
use Rattle.lab_store_tables.specs.Changes.{person_named, IsNamedIfAny, asker_of, person_row_of, set_person, AddsPerson, SetsPerson}
use Rattle.lab_store_tables.specs.Ready.{tables_of}
use Rattle.lab_store_tables.specs.Family.{Persons}
use Rattle.lab_store_write.specs.declared.statements.RowId.{RowId}
use Rattle.lab_store_write.specs.Calls.{Steps, Finds, MadeFrom}
use Rattle.lab_store_write.specs.Ids.{row_id}
use Rattle.lab_store_write.specs.Private.Persons.{password_cells, ask_cells, with_person}
use Rattle.lab_store_write.proofs.PersonWords.{person_given}
use Rattle.lab_store_write.proofs.PersonWrites.{person_values}

pub given_is : (lab id : ℤ) (asker : Option RowId) (person : Person)
    → person_given lab person (roles_sum person.roles) (password_cells person.password) (ask_cells asker person.ask) ≡ person_values (person_row_of lab id (option_map row_id asker) person)
given_is lab id asker person = go person.password person.ask
  where
    go : (p : Password) (a : Option Ask) → (let one : Person = record person { password = p; ask = a } in person_given lab one (roles_sum one.roles) (password_cells p) (ask_cells asker a) ≡ person_values (person_row_of lab id (option_map row_id asker) one))
    go Unset None = refl
    go Unset (Some ask) = refl
    go (Chosen verifier changed) None = refl
    go (Chosen verifier changed) (Some ask) = refl
    go (OneTime first second confirmed) None = refl
    go (OneTime first second confirmed) (Some ask) = refl

pub person_added : (lab : ℤ) (K : Tables → Type 0) (person : Person) (asker : Option ℤ) (a b c : State) → Steps (Finds (λ t. K t → IsNamedIfAny t lab (asker_of person) asker)) a b
    → Steps (λ before after. after ≡ with_person lab asker person before) b c → Steps (MadeFrom K (AddsPerson lab person)) a c
person_added lab K person asker a b c p q = record {
  inside = q.inside;
  made = λ typed.
      let one = p.made typed in
      let two = q.made one.0 in
      let t = tables_of a in
      let added : K t → AddsPerson lab person (tables_of a) (tables_of c) = λ known. record {
        id = next_key person_id t.persons;
        free = next_key_is_free person_id t.persons (typed.rising.at Persons);
        asker = asker;
        named = one.1.0 known;
        made = two.1 ∙ ap (with_person lab asker person) one.1.1;
      } in
      (two.0, added);
  sound = λ typed rules. q.sound (p.made typed).0 (p.sound typed rules);
}

pub person_set : (lab : ℤ) (K : Tables → Type 0) (person : Person) (id : ℤ) (asker : Option ℤ) (a b c d : State)
    → Steps (Finds (λ t. K t → person_named t lab person.code ≡ Some id)) a b
    → Steps (Finds (λ t. K t → IsNamedIfAny t lab (asker_of person) asker)) b c
    → Steps (λ before after. after ≡ set_person (person_row_of lab id asker person) before) c d → Steps (MadeFrom K (SetsPerson lab person)) a d
person_set lab K person id asker a b c d p q r = record {
  inside = r.inside;
  made = λ typed.
      let one = p.made typed in
      let two = q.made one.0 in
      let three = r.made two.0 in
      let t = tables_of a in
      let set : K t → SetsPerson lab person t (tables_of d) = λ known. record {
        id = id;
        found = one.1.0 known;
        asker = asker;
        named = subst (λ (t : Tables). K t → IsNamedIfAny t lab (asker_of person) asker) one.1.1 two.1.0 known;
        made = three.1 ∙ ap (set_person (person_row_of lab id asker person)) (two.1.1 ∙ one.1.1);
      } in
      (three.0, set);
  sound = λ typed rules. let one = p.made typed in r.sound (q.made one.0).0 (q.sound one.0 (p.sound typed rules));
}
