-- A laboratory that was placed with persons of whom nobody was asked for, and one row in its trail: it is what was placed, and
-- every other laboratory is what it was.
use Rattle.std.proofs.Common.{◌≡◌, ◌≢◌, ℕ, ℤ, Bool, true, false, cond, List, [], ◌∷◌, ◌++◌, map, filter, find, Option, Some, None, option_map, refl, sym, ap, ◌∙◌, true≢false, int_eq, bytes_eq}
use Rattle.std.specs.List.{AllByRecursion}
use Rattle.std.proofs.lemmas.Slice.Eq.{bytes_eq-Decides}
use Rattle.sqlite_rules.proofs.ListLemmas.{all_has, has_found}
use Rattle.sqlite_keyed.specs.Keyed.{get_by, has_key, insert_by}
use Rattle.sqlite_keyed.specs.Lists.{sort_by, update_where}
use Rattle.sqlite_keyed.specs.Rules.{AreApart}
use Rattle.sqlite_keyed.proofs.ListLemmas.{all_of, all_weaker, filter_none}
use Rattle.lab_records_kept.specs.declared.labs.Lab.{Lab}
use Rattle.lab_records_kept.specs.declared.trails.TrailRow.{TrailRow as Told}
use Rattle.lab_records_kept.specs.Lookups.{comes_before}
use Rattle.lab_records_keeper.specs.Worlds.{Places}
use Rattle.lab_store_tables.specs.Rows.{LabRow, PersonRow, SessionRow, FormRow, RecordRow, TrailRow, Tables, lab_id, person_id, trail_id}
use Rattle.lab_store_tables.specs.Meaning.{person_in, by_code, persons_of, session_in, by_session, sessions_of, form_in, by_form, forms_of, record_in, by_record, records_of, told_in, by_trail, trail_of, lab_in, has_code, meaning}
use Rattle.lab_store_tables.specs.WellKept.{same_person, have_parents}
use Rattle.lab_store_tables.specs.Changes.{IsFree, told_row_of}
use Rattle.lab_store_tables.specs.Placing.{lab_row_of}
use Rattle.lab_store_tables.specs.Held.{AreRising}
use Rattle.lab_store_tables.specs.Family.{Labs, Persons, Trail}
use Rattle.lab_store_tables.proofs.ColumnsBack.{action_back}
use Rattle.lab_store_tables.proofs.SortLaws.{filter-insert_other}
use Rattle.lab_store_tables.proofs.LabLaws.{alike, find_set, map_option}
use Rattle.lab_store_tables.proofs.PutLaws.{turned_id, none_has, none_led, find_other, find_alone, filter_alone}
use Rattle.lab_store_tables.proofs.Parts.{AreLed}
use Rattle.lab_store_tables.proofs.CodeOrder.{AreByCode}
use Rattle.lab_store_tables.proofs.Enrolments.{AreUnasked, Enrols, IsBehind, known_stay, others_stay, all_behind}
use Rattle.lab_store_tables.proofs.StayLaws.{lab_same}
use Rattle.lab_store_tables.proofs.Comparing.{text_is}

-- a row of the trail of a laboratory that names nobody, under an id
abbrev pub told_row : ℤ → ℤ → Told → TrailRow
told_row lab id told = told_row_of lab id None told

-- a laboratory's row that counts the rows of the trail up to this one
abbrev pub counting : Told → LabRow → LabRow
counting told one = record one { trail = told.number }

-- the tables with the row of the laboratory, these persons, and the row of the trail
abbrev pub with_lab : Tables → Lab → ℤ → List PersonRow → Told → ℤ → Tables
with_lab t lab id persons told at = record t {
  labs = update_where (λ (one : LabRow). int_eq one.id id) (counting told) (insert_by lab_id t.labs (lab_row_of id lab));
  persons = persons;
  trail = insert_by trail_id t.trail (told_row id at told);
}

-- the ids are free, the persons of the laboratory stand in the order of codes that no two of them share, and the row of the
-- trail is the first
pub record IsPlacing (t : Tables) (lab : Lab) (id : ℤ) (persons : List PersonRow) (told : Told) (at : ℤ) : Type 0 where
  pub absent : find (has_code lab.code) t.labs ≡ None
  pub free : IsFree lab_id t.labs id
  pub enrolled : Enrols id lab.persons t.persons persons
  pub apart : AreApart same_person persons
  pub unasked : AreUnasked lab.persons
  pub order : AreByCode lab.persons
  pub free_told : IsFree trail_id t.trail at
  pub first : told.number ≡ 1
  pub nobody : told.person ≡ None

module _ (t : Tables) (rising : AreRising t) (led : AreLed t) (lab : Lab) (id : ℤ) (persons : List PersonRow) (told : Told) (at : ℤ)
    (it : IsPlacing t lab id persons told at) where
  abbrev after : Tables
  after = with_lab t lab id persons told at

  -- no row that was there leads to the new laboratory
  pub unseen : {X : Type 0} (parent : X → ℤ) (rows : List X) → have_parents (λ one. Some (parent one)) lab_id t.labs rows ≡ true
      → filter (λ one. int_eq (parent one) id) rows ≡ []
  unseen parent rows whole = filter_none (λ one. int_eq (parent one) id) rows (none_led parent lab_id t.labs id rows it.free whole)

  -- and it is the only one that has the new row of the trail
  pub told_alone : filter (λ (one : TrailRow). int_eq one.lab id) after.trail ≡ told_row id at told ∷ []
  told_alone =
      filter_alone trail_id t.trail (told_row id at told) it.free_told (λ (one : TrailRow). int_eq one.lab id) (rising.at Trail) (alike id id refl)
      (unseen (λ (one : TrailRow). one.lab) t.trail led.trail_lab)

  pub told_unseen : (other : ℤ) → int_eq other id ≡ false
      → filter (λ (one : TrailRow). int_eq one.lab other) after.trail ≡ filter (λ (one : TrailRow). int_eq one.lab other) t.trail
  told_unseen other apart =
      filter-insert_other trail_id (λ (one : TrailRow). int_eq one.lab other) (told_row id at told) (turned_id other id apart) t.trail it.free_told

  pub stays : (person : ℤ) → has_key person_id t.persons person ≡ true → get_by person_id persons person ≡ get_by person_id t.persons person
  stays = known_stay id lab.persons t.persons persons it.enrolled

  -- ---- what it has

  behind : AllByRecursion (IsBehind id t.persons) lab.persons
  behind =
      all_of (IsBehind id t.persons) (λ person.
      all_weaker (λ (one : PersonRow). int_eq one.lab id ≡ false) (λ (one : PersonRow). int_eq one.lab id ≡ true → comes_before person.code one.code ≡ false)
      (λ one apart own. absurd (true≢false (sym own ∙ apart))) t.persons
      (none_led (λ (one : PersonRow). one.lab) lab_id t.labs id t.persons it.free led.persons_lab)) lab.persons

  persons_here : persons_of after id ≡ lab.persons
  persons_here =
      all_behind after id lab.persons t.persons persons it.unasked it.order behind (rising.at Persons) it.apart it.enrolled
      ∙ ap (λ (list : List PersonRow). map (person_in after) (sort_by by_code list) ++ lab.persons)
      (unseen (λ (one : PersonRow). one.lab) t.persons led.persons_lab)

  sessions_here : sessions_of after id ≡ []
  sessions_here =
      ap (λ (list : List SessionRow). map (session_in after) (sort_by by_session list)) (unseen (λ (one : SessionRow). one.lab) t.sessions led.sessions_lab)

  forms_here : forms_of after id ≡ []
  forms_here = ap (λ (list : List FormRow). map (form_in after) (sort_by by_form list)) (unseen (λ (one : FormRow). one.lab) t.forms led.forms_lab)

  records_here : records_of after lab.code id ≡ []
  records_here =
      ap (λ (list : List RecordRow). map (record_in after lab.code) (sort_by by_record list)) (unseen (λ (one : RecordRow). one.lab) t.records led.records_lab)

  told_back : told_in after (told_row id at told) ≡ told
  told_back = λ i. record told { person = sym it.nobody i; action = action_back told.action i }

  trail_here : trail_of after id ≡ told ∷ []
  trail_here = ap (λ (list : List TrailRow). map (told_in after) (sort_by by_trail list)) told_alone ∙ ap (λ one. one ∷ []) told_back

  -- what is placed
  abbrev placed : Lab
  placed = record lab { sessions = []; forms = []; records = []; trail = told ∷ [] }

  lab_here : lab_in after (lab_row_of id lab) ≡ placed
  lab_here = λ i. record placed {
    persons = persons_here i;
    sessions = sessions_here i;
    forms = forms_here i;
    records = records_here i;
    trail = trail_here i;
  }

  -- ---- what is found

  uncounted : (b : Bool) (one : LabRow) → lab_in after (cond b (counting told one) one) ≡ lab_in after one
  uncounted true one = refl
  uncounted false one = refl

  not_seen : (o : Option LabRow) → option_map (λ (one : LabRow). lab_in after (cond (int_eq one.id id) (counting told one) one)) o ≡ option_map (lab_in after) o
  not_seen None = refl
  not_seen (Some one) = ap Some (uncounted (int_eq one.id id) one)

  means : (code : List ℕ) → meaning after code ≡ option_map (lab_in after) (find (has_code code) (insert_by lab_id t.labs (lab_row_of id lab)))
  means code =
      ap (option_map (lab_in after))
      (find_set (has_code code) (λ (one : LabRow). int_eq one.id id) (counting told) (λ one. refl) (insert_by lab_id t.labs (lab_row_of id lab)))
      ∙ map_option (lab_in after) (λ (one : LabRow). cond (int_eq one.id id) (counting told one) one)
      (find (has_code code) (insert_by lab_id t.labs (lab_row_of id lab)))
      ∙ not_seen (find (has_code code) (insert_by lab_id t.labs (lab_row_of id lab)))

  here : meaning after lab.code ≡ Some placed
  here =
      means lab.code
      ∙ ap (option_map (lab_in after))
      (find_alone lab_id t.labs (lab_row_of id lab) it.free (has_code lab.code) (rising.at Labs) ((bytes_eq-Decides lab.code lab.code).1 refl) it.absent)
      ∙ ap Some lab_here

  other_code : (other : List ℕ) → other ≢ lab.code → bytes_eq lab.code other ≡ false
  other_code other differs = go (bytes_eq lab.code other) refl
    where
      go : (b : Bool) → bytes_eq lab.code other ≡ b → bytes_eq lab.code other ≡ false
      go true e = absurd (differs (sym (text_is lab.code other e)))
      go false e = e

  still_there : (other : List ℕ) (o : Option LabRow) → find (has_code other) t.labs ≡ o → option_map (lab_in after) o ≡ option_map (lab_in t) o
  still_there other None e = refl
  still_there other (Some one) e =
      let apart : int_eq one.id id ≡ false =
      all_has (λ (x : LabRow). int_eq x.id id ≡ false) t.labs one (none_has lab_id id t.labs it.free) (has_found (has_code other) t.labs one e).0 in
      ap Some (lab_same t led after.labs persons after.trail stays one
      (others_stay id lab.persons t.persons persons it.enrolled one.id (turned_id one.id id apart)) (told_unseen one.id apart))

  elsewhere : (other : List ℕ) → other ≢ lab.code → meaning after other ≡ meaning t other
  elsewhere other differs =
      means other
      ∙ ap (option_map (lab_in after)) (find_other lab_id t.labs (lab_row_of id lab) it.free (has_code other) (other_code other differs))
      ∙ still_there other (find (has_code other) t.labs) refl

  pub lab_is_placed : Places placed (meaning t) (meaning after)
  lab_is_placed = record {
    was_none = ap (option_map (lab_in t)) it.absent;
    placed = record { here = here; others = elsewhere };
  }
