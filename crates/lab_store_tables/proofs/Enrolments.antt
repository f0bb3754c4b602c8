-- Persons who are added to a laboratory one after the other, nobody having asked anything for them: who was there stays as they
-- were, no other laboratory sees the new ones, and this one has them behind its own, where they come in the order of codes.
use Rattle.std.proofs.Common.{◌≡◌, ℤ, Bool, true, false, ◌&&◌, List, [], ◌∷◌, ◌++◌, filter, Option, None, option_map, is_some, refl, sym, ap, ap₂, subst, ◌∙◌, append_assoc, append-nil, int_eq, bytes_eq, is_eq, is_gt}
use Rattle.std.specs.List.{AllByRecursion}
use Rattle.std.specs.Ordering.{nat_cmp}
use Rattle.std.specs.Cmp.{IsTotalOrder, on_total}
use Rattle.std.specs.Cmp.Lexicographic.{slice_cmp, nat_list_cmp_total, nat_list_eq_equiv}
use Rattle.sqlite_keyed.specs.Keyed.{IsKeyedBy, get_by, has_key, insert_by}
use Rattle.sqlite_keyed.specs.Rules.{AreApart}
use Rattle.sqlite_keyed.proofs.ListLemmas.{all_weaker, all_both}
use Rattle.sqlite_keyed.proofs.KeyedLemmas.{same_int, all-insert_by, IsKeyedBy-insert_by}
use Rattle.lab_people_access.specs.declared.persons.Person.{Person}
use Rattle.lab_people_access.specs.declared.persons.Ask.{Ask}
use Rattle.lab_records_kept.specs.Lookups.{comes_before}
use Rattle.lab_store_tables.specs.Rows.{PersonRow, Tables, person_id}
use Rattle.lab_store_tables.specs.Columns.{ask_columns}
use Rattle.lab_store_tables.specs.Meaning.{person_in, by_code}
use Rattle.lab_store_tables.specs.WellKept.{same_person}
use Rattle.lab_store_tables.specs.Changes.{IsNamedIfAny, InTurn, asker_of, person_row_of, AddsPerson}
use Rattle.lab_store_tables.proofs.ColumnsBack.{roles_back, password_back}
use Rattle.lab_store_tables.proofs.SortLaws.{filter-insert_other}
use Rattle.lab_store_tables.proofs.LevelLaws.{had_by, own_has_last}
use Rattle.lab_store_tables.proofs.NumberLaws.{each_admitted}
use Rattle.lab_store_tables.proofs.LabLaws.{alike}
use Rattle.lab_store_tables.proofs.PutLaws.{turned_id, get_stays, apart_back}
use Rattle.lab_store_tables.proofs.CodeOrder.{untied, comes_behind, AreByCode}

-- ---- persons added in turn, as rows that are put into their table

-- nobody asked anything for any of them
abbrev pub AreUnasked : List Person → Type 0
AreUnasked = AllByRecursion (λ (one : Person). one.ask ≡ None)

-- the row of one, under an id
abbrev pub enrolled : ℤ → ℤ → Person → PersonRow
enrolled lab id person = person_row_of lab id None person

abbrev pub Enrols : ℤ → List Person → List PersonRow → List PersonRow → Type 0
Enrols lab [] rows all = all ≡ rows
Enrols lab (person ∷ others) rows all =
    (id : ℤ) × (has_key person_id rows id ≡ false) × Enrols lab others (insert_by person_id rows (enrolled lab id person)) all

nobody_asks : (t : Tables) (lab : ℤ) (person : Person) (asker : Option ℤ) → person.ask ≡ None → IsNamedIfAny t lab (asker_of person) asker → asker ≡ None
nobody_asks t lab person asker none named = subst (λ (ask : Option Ask). IsNamedIfAny t lab (option_map (λ (one : Ask). one.asker) ask) asker) none named

pub rows_enrolled : (lab : ℤ) (persons : List Person) (old new : Tables) → AreUnasked persons → InTurn (AddsPerson lab) persons old new
    → Enrols lab persons old.persons new.persons
rows_enrolled lab [] old new unasked it = ap (λ (t : Tables). t.persons) it
rows_enrolled lab (person ∷ others) old new unasked it =
    (it.1.id, it.1.free, subst (λ rows. Enrols lab others rows new.persons) put (rows_enrolled lab others it.0 new unasked.1 it.2))
  where
    put : it.0.persons ≡ insert_by person_id old.persons (enrolled lab it.1.id person)
    put =
        ap (λ (t : Tables). t.persons) it.1.made
        ∙ ap (λ asker. insert_by person_id old.persons (person_row_of lab it.1.id asker person)) (nobody_asks old lab person it.1.asker unasked.0 it.1.named)

-- nothing else becomes other
pub persons_alone : (lab : ℤ) (persons : List Person) (old new : Tables) → InTurn (AddsPerson lab) persons old new → new ≡ record old { persons = new.persons }
persons_alone lab [] old new it = ap (λ (t : Tables). record t { persons = new.persons }) it
persons_alone lab (person ∷ others) old new it =
    persons_alone lab others it.0 new it.2 ∙ ap (λ (t : Tables). record t { persons = new.persons }) it.1.made

-- ---- who was there, and every other laboratory

pub known_stay : (lab : ℤ) (persons : List Person) (rows all : List PersonRow) → Enrols lab persons rows all → (id : ℤ) → has_key person_id rows id ≡ true
    → get_by person_id all id ≡ get_by person_id rows id
known_stay lab [] rows all it id there = ap (λ list. get_by person_id list id) it
known_stay lab (person ∷ others) rows all it id there =
    let here : get_by person_id (insert_by person_id rows (enrolled lab it.0 person)) id ≡ get_by person_id rows id =
    get_stays person_id rows (enrolled lab it.0 person) it.1 id there in
    known_stay lab others (insert_by person_id rows (enrolled lab it.0 person)) all it.2 id (ap is_some here ∙ there) ∙ here

pub others_stay : (lab : ℤ) (persons : List Person) (rows all : List PersonRow) → Enrols lab persons rows all → (other : ℤ) → int_eq lab other ≡ false
    → filter (λ (one : PersonRow). int_eq one.lab other) all ≡ filter (λ (one : PersonRow). int_eq one.lab other) rows
others_stay lab [] rows all it other apart = ap (filter (λ (one : PersonRow). int_eq one.lab other)) it
others_stay lab (person ∷ others) rows all it other apart =
    others_stay lab others (insert_by person_id rows (enrolled lab it.0 person)) all it.2 other apart
    ∙ filter-insert_other person_id (λ (one : PersonRow). int_eq one.lab other) (enrolled lab it.0 person) apart rows it.1

-- what holds of the rows that were there, and of each new one, holds of all
pub all_enrolled : (P : PersonRow → Type 0) (lab : ℤ) (persons : List Person) (rows all : List PersonRow)
    → AllByRecursion (λ (one : Person). (id : ℤ) → P (enrolled lab id one)) persons → Enrols lab persons rows all → AllByRecursion P rows → AllByRecursion P all
all_enrolled P lab [] rows all each it holds = subst (AllByRecursion P) (sym it) holds
all_enrolled P lab (person ∷ others) rows all each it holds =
    all_enrolled P lab others (insert_by person_id rows (enrolled lab it.0 person)) all each.1 it.2
    (all-insert_by person_id P rows (enrolled lab it.0 person) (each.0 it.0) holds)

-- ---- codes of their own

int_alike : (a b : ℤ) → int_eq a b ≡ int_eq b a
int_alike a b = go (int_eq a b) refl
  where
    go : (c : Bool) → int_eq a b ≡ c → c ≡ int_eq b a
    go true e = sym (alike b a (sym (same_int a b e)))
    go false e = sym (turned_id a b e)

same_turned : (one other : PersonRow) → same_person one other ≡ false → same_person other one ≡ false
same_turned one other apart = ap₂ ◌&&◌ (int_alike other.lab one.lab) (nat_list_eq_equiv.symm other.code one.code) ∙ apart

apart_before : (lab : ℤ) (persons : List Person) (rows all : List PersonRow) → Enrols lab persons rows all → AreApart same_person all
    → AreApart same_person rows
apart_before lab [] rows all it apart = subst (AreApart same_person) it apart
apart_before lab (person ∷ others) rows all it apart =
    (apart_back person_id same_person (enrolled lab it.0 person) (same_turned (enrolled lab it.0 person)) rows it.1
    (apart_before lab others (insert_by person_id rows (enrolled lab it.0 person)) all it.2 apart)).0

other_code : (same alike : Bool) → same ≡ true → (same && alike) ≡ false → alike ≡ false
other_code same alike is apart = sym (ap (λ b. b && alike) is) ∙ apart

-- ---- what the laboratory has

by_code_total : IsTotalOrder by_code
by_code_total = on_total (λ (one : PersonRow). one.code) nat_list_cmp_total

-- the person comes before none of the rows that the laboratory has
abbrev pub IsBehind : ℤ → List PersonRow → Person → Type 0
IsBehind lab rows person = AllByRecursion (λ (one : PersonRow). int_eq one.lab lab ≡ true → comes_before person.code one.code ≡ false) rows

-- a row of another code, behind which the person comes
abbrev IsAhead : Person → PersonRow → Type 0
IsAhead person one = (is_eq (slice_cmp nat_cmp one.code person.code) ≡ false) × (is_gt (slice_cmp nat_cmp person.code one.code) ≡ true)

-- as the tables `u` tell who asked for something, which nobody did here
module _ (u : Tables) (lab : ℤ) where
  -- the persons that the laboratory has by these rows
  abbrev pub had : List PersonRow → List Person
  had rows = had_by (λ (one : PersonRow). one.lab) by_code (person_in u) rows lab

  ask_back : (id : ℤ) (person : Person) → person.ask ≡ None → (person_in u (enrolled lab id person)).ask ≡ person.ask
  ask_back id person none = ap (λ (ask : Option Ask). (person_in u (record (enrolled lab id person) { ask = ask_columns None ask })).ask) none ∙ sym none

  read_back : (id : ℤ) (person : Person) → person.ask ≡ None → person_in u (enrolled lab id person) ≡ person
  read_back id person none = λ i. record person {
    roles = roles_back person.roles i;
    password = password_back person.password i;
    ask = ask_back id person none i;
  }

  rows_ahead : (rows : List PersonRow) (person : Person) → IsBehind lab rows person → (id : ℤ)
      → AllByRecursion (λ one. same_person one (enrolled lab id person) ≡ false) rows
      → AllByRecursion (IsAhead person) (filter (λ (one : PersonRow). int_eq one.lab lab) rows)
  rows_ahead rows person behind id apart =
      each_admitted (λ (one : PersonRow). int_eq one.lab lab ≡ true → IsAhead person one) (IsAhead person) (λ (one : PersonRow). int_eq one.lab lab)
      (λ one own ahead. ahead own) rows
      (all_both (λ (one : PersonRow). int_eq one.lab lab ≡ true → comes_before person.code one.code ≡ false)
      (λ (one : PersonRow). same_person one (enrolled lab id person) ≡ false)
      (λ (one : PersonRow). int_eq one.lab lab ≡ true → IsAhead person one)
      (λ one not_before other own.
      let differs : bytes_eq one.code person.code ≡ false = other_code (int_eq one.lab lab) (bytes_eq one.code person.code) own other in
      (untied one.code person.code differs, comes_behind one.code person.code (not_before own) differs))
      rows behind apart)

  -- one person more, behind the others
  one_behind : (person : Person) (rows : List PersonRow) (id : ℤ) → person.ask ≡ None → IsBehind lab rows person → IsKeyedBy person_id rows
      → has_key person_id rows id ≡ false → AreApart same_person (insert_by person_id rows (enrolled lab id person))
      → had (insert_by person_id rows (enrolled lab id person)) ≡ had rows ++ person ∷ []
  one_behind person rows id none behind rise free apart =
      let ahead = rows_ahead rows person behind id
      (apart_back person_id same_person (enrolled lab id person) (same_turned (enrolled lab id person)) rows free apart).1 in
      own_has_last person_id (λ (one : PersonRow). one.lab) by_code by_code_total (person_in u) rows rise (enrolled lab id person) free lab (alike lab lab refl)
      (all_weaker (IsAhead person) (λ one. is_eq (by_code one (enrolled lab id person)) ≡ false) (λ one it. it.0)
      (filter (λ (one : PersonRow). int_eq one.lab lab) rows) ahead)
      (all_weaker (IsAhead person) (λ one. is_gt (by_code (enrolled lab id person) one) ≡ true) (λ one it. it.1)
      (filter (λ (one : PersonRow). int_eq one.lab lab) rows) ahead)
      ∙ ap (λ one. had rows ++ one ∷ []) (read_back id person none)

  -- and so all of them
  pub all_behind : (persons : List Person) (rows all : List PersonRow) → AreUnasked persons → AreByCode persons → AllByRecursion (IsBehind lab rows) persons
      → IsKeyedBy person_id rows → AreApart same_person all → Enrols lab persons rows all → had all ≡ had rows ++ persons
  all_behind [] rows all unasked order behind rise apart it = ap had it ∙ sym (append-nil (had rows))
  all_behind (person ∷ others) rows all unasked order behind rise apart it =
      all_behind others (insert_by person_id rows (enrolled lab it.0 person)) all unasked.1 order.1
      (all_both (λ (one : Person). comes_before one.code person.code ≡ false) (IsBehind lab rows)
      (IsBehind lab (insert_by person_id rows (enrolled lab it.0 person)))
      (λ one later before. all-insert_by person_id (λ (row : PersonRow). int_eq row.lab lab ≡ true → comes_before one.code row.code ≡ false) rows
      (enrolled lab it.0 person) (λ own. later) before)
      others order.0 behind.1)
      (IsKeyedBy-insert_by person_id rows (enrolled lab it.0 person) rise) apart it.2
      ∙ ap (λ list. list ++ others)
      (one_behind person rows it.0 unasked.0 behind.0 rise it.1 (apart_before lab others (insert_by person_id rows (enrolled lab it.0 person)) all it.2 apart))
      ∙ append_assoc (had rows) (person ∷ []) others
