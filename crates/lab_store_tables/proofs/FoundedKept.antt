-- Tables into which a laboratory was placed with its persons and the first row of its trail are well kept, where the database's
-- own rules hold.
use Rattle.std.proofs.Common.{◌≡◌, ℤ, Bool, true, false, ◌&&◌, ◌==◌, cond, List, [], ◌∷◌, filter, length, Option, None, refl, ap, ◌∙◌, int_eq}
use Rattle.std.specs.Prelude.{nat_le}
use Rattle.std.specs.List.{list_all, AllByRecursion}
use Rattle.std.proofs.lemmas.Bool.{and_parts, and_from}
use Rattle.sqlite_keyed.specs.Keyed.{get_by, has_key, insert_by}
use Rattle.sqlite_keyed.proofs.ListLemmas.{all_weaker, all_both, all_map, all_from_test, test_from_all}
use Rattle.sqlite_keyed.proofs.KeyedLemmas.{all-insert_by}
use Rattle.lab_people_access.specs.declared.persons.Person.{Person}
use Rattle.lab_people_access.specs.declared.persons.Ask.{Ask}
use Rattle.lab_records_kept.specs.declared.labs.Lab.{Lab}
use Rattle.lab_records_kept.specs.declared.trails.TrailRow.{TrailRow as Told}
use Rattle.lab_records_kept.specs.Trails.{action_word}
use Rattle.lab_store_tables.specs.Rows.{LabRow, PersonRow, SessionRow, RecordRow, TrailRow, Tables, lab_id, person_id, trail_id}
use Rattle.lab_store_tables.specs.Columns.{roles_sum, password_columns, ask_columns}
use Rattle.lab_store_tables.specs.WellKept.{are_ids_unique, are_keys_unique, are_arrows_whole, is_of_lab, is_asked_within, is_told_within, are_labs_apart, are_numbered_beside, are_all_numbered, has_counted, is_said_alike, is_whole_ask, are_columns_whole, IsPersonSpelled, IsTrailSpelled, AreWellKept}
use Rattle.lab_store_tables.specs.Placing.{lab_row_of}
use Rattle.lab_store_tables.specs.Held.{AreRising}
use Rattle.lab_store_tables.proofs.ColumnsBack.{roles_back, password_back, action_back}
use Rattle.lab_store_tables.proofs.LabLaws.{alike}
use Rattle.lab_store_tables.proofs.PutLaws.{none_has, none_led}
use Rattle.lab_store_tables.proofs.Parts.{AreLed, arrows_led, AreWithin, labs_within}
use Rattle.lab_store_tables.proofs.Enrolments.{enrolled, all_enrolled}
use Rattle.lab_store_tables.proofs.StayLaws.{sessions_within, versions_within, entries_within, signatures_within, asked_within, told_within}
use Rattle.lab_store_tables.proofs.FoundedMeaning.{told_row, counting, with_lab, IsPlacing, unseen, told_alone, told_unseen, stays}

module _ (t : Tables) (rising : AreRising t) (well : AreWellKept t) (lab : Lab) (id : ℤ) (persons : List PersonRow) (told : Told) (at : ℤ)
    (it : IsPlacing t lab id persons told at) where
  abbrev after : Tables
  after = with_lab t lab id persons told at

  abbrev new_told : TrailRow
  new_told = told_row id at told

  led : AreLed t
  led = arrows_led t well.arrows

  within : AreWithin t
  within = labs_within t well.labs_apart

  known : (person : ℤ) → has_key person_id t.persons person ≡ true → get_by person_id persons person ≡ get_by person_id t.persons person
  known = stays t rising led lab id persons told at it

  -- ---- whose a row is

  persons_own : list_all (is_asked_within after) persons ≡ true
  persons_own =
      test_from_all (is_asked_within after) persons
      (all_enrolled (λ one. is_asked_within after one ≡ true) id lab.persons t.persons persons
      (all_weaker (λ (one : Person). one.ask ≡ None) (λ (one : Person). (own : ℤ) → is_asked_within after (enrolled id own one) ≡ true)
      (λ one none own. ap (λ (ask : Option Ask). is_of_lab after id (ask_columns None ask).asker) none) lab.persons it.unasked)
      it.enrolled (asked_within t led after.labs persons after.trail known within))

  trail_own : list_all (is_told_within after) after.trail ≡ true
  trail_own =
      test_from_all (is_told_within after) after.trail
      (all-insert_by trail_id (λ one. is_told_within after one ≡ true) t.trail new_told refl (told_within t led after.labs persons after.trail known within))

  apart : are_labs_apart after ≡ true
  apart =
      and_from _ _ (and_from _ _ (and_from _ _ (and_from _ _ (and_from _ _ (and_from _ _ persons_own
      (sessions_within t led after.labs persons after.trail known ∙ within.sessions))
      within.records)
      (versions_within t led after.labs persons after.trail known ∙ within.versions))
      (entries_within t led after.labs persons after.trail known ∙ within.entries))
      (signatures_within t led after.labs persons after.trail known ∙ within.signatures))
      trail_own

  -- ---- numbers

  abbrev of_lab : ℤ → TrailRow → Bool
  of_lab of one = int_eq one.lab of

  -- a row of the trail lies among so many
  abbrev lies : List TrailRow → TrailRow → Bool
  lies rows one = nat_le 1 one.number && nat_le one.number (length (filter (of_lab one.lab) rows))

  lies_first : lies after.trail new_told ≡ true
  lies_first =
      ap (λ (list : List TrailRow). nat_le 1 told.number && nat_le told.number (length list)) (told_alone t rising led lab id persons told at it)
      ∙ ap (λ n. nat_le 1 n && nat_le n (length (new_told ∷ []))) it.first

  lie_others : AllByRecursion (λ one. lies after.trail one ≡ true) t.trail
  lie_others =
      all_both (λ (one : TrailRow). int_eq one.lab id ≡ false) (λ one. lies t.trail one ≡ true) (λ one. lies after.trail one ≡ true)
      (λ one elsewhere lay.
      ap (λ (list : List TrailRow). nat_le 1 one.number && nat_le one.number (length list))
      (told_unseen t rising led lab id persons told at it one.lab elsewhere) ∙ lay)
      t.trail (none_led (λ (one : TrailRow). one.lab) lab_id t.labs id t.trail it.free led.trail_lab)
      (all_from_test (lies t.trail) t.trail (and_parts _ _ well.numbered).1)

  trail_numbered : are_numbered_beside (λ (one other : TrailRow). int_eq other.lab one.lab) (λ (one : TrailRow). one.number) after.trail ≡ true
  trail_numbered =
      test_from_all (lies after.trail) after.trail (all-insert_by trail_id (λ one. lies after.trail one ≡ true) t.trail new_told lies_first lie_others)

  numbered : are_all_numbered after ≡ true
  numbered = and_from _ _ (and_parts _ _ well.numbered).0 trail_numbered

  -- ---- counters

  abbrev counts : LabRow → List RecordRow → List SessionRow → List TrailRow → Bool
  counts one records sessions trail = (one.records == length records) && (one.sessions == length sessions) && (one.trail == length trail)

  abbrev set : LabRow → LabRow
  set one = cond (int_eq one.id id) (counting told one) one

  counted_here : has_counted after (counting told (lab_row_of id lab)) ≡ true
  counted_here =
      (λ i. counts (counting told (lab_row_of id lab))
      (unseen t rising led lab id persons told at it (λ (one : RecordRow). one.lab) t.records led.records_lab i)
      (unseen t rising led lab id persons told at it (λ (one : SessionRow). one.lab) t.sessions led.sessions_lab i)
      (told_alone t rising led lab id persons told at it i))
      ∙ ap (λ n. (0 == 0) && (0 == 0) && (n == length (new_told ∷ []))) it.first

  counted_there : (one : LabRow) → int_eq one.id id ≡ false → has_counted t one ≡ true → has_counted after one ≡ true
  counted_there one elsewhere was =
      ap (counts one (filter (λ (x : RecordRow). int_eq x.lab one.id) t.records) (filter (λ (x : SessionRow). int_eq x.lab one.id) t.sessions))
      (told_unseen t rising led lab id persons told at it one.id elsewhere) ∙ was

  all_counted : list_all (has_counted after) after.labs ≡ true
  all_counted =
      test_from_all (has_counted after) after.labs
      (all_map (λ one. has_counted after one ≡ true) set (insert_by lab_id t.labs (lab_row_of id lab))
      (all-insert_by lab_id (λ one. has_counted after (set one) ≡ true) t.labs (lab_row_of id lab)
      (ap (λ b. has_counted after (cond b (counting told (lab_row_of id lab)) (lab_row_of id lab))) (alike id id refl) ∙ counted_here)
      (all_both (λ (one : LabRow). int_eq one.id id ≡ false) (λ one. has_counted t one ≡ true) (λ one. has_counted after (set one) ≡ true)
      (λ one elsewhere was. ap (λ b. has_counted after (cond b (counting told one) one)) elsewhere ∙ counted_there one elsewhere was)
      t.labs (none_has lab_id id t.labs it.free) (all_from_test (has_counted t) t.labs (and_parts _ _ (and_parts _ _ well.alike).0).0))))

  said : is_said_alike after ≡ true
  said = and_from _ _ (and_from _ _ all_counted (and_parts _ _ (and_parts _ _ well.alike).0).1) (and_parts _ _ well.alike).1

  -- ---- columns

  asks_whole : list_all (λ (one : PersonRow). is_whole_ask one.ask) persons ≡ true
  asks_whole =
      test_from_all (λ (one : PersonRow). is_whole_ask one.ask) persons
      (all_enrolled (λ one. is_whole_ask one.ask ≡ true) id lab.persons t.persons persons
      (all_weaker (λ (one : Person). one.ask ≡ None) (λ (one : Person). (own : ℤ) → is_whole_ask (enrolled id own one).ask ≡ true)
      (λ one none own. ap (λ (ask : Option Ask). is_whole_ask (ask_columns None ask)) none) lab.persons it.unasked)
      it.enrolled (all_from_test (λ (one : PersonRow). is_whole_ask one.ask) t.persons (and_parts _ _ (and_parts _ _ (and_parts _ _ well.columns).0).0).0))

  columns : are_columns_whole after ≡ true
  columns =
      and_from _ _ (and_from _ _ (and_from _ _ asks_whole
      (and_parts _ _ (and_parts _ _ (and_parts _ _ well.columns).0).0).1)
      (and_parts _ _ (and_parts _ _ well.columns).0).1)
      (and_parts _ _ well.columns).1

  spelled : AllByRecursion IsPersonSpelled persons
  spelled =
      all_enrolled IsPersonSpelled id lab.persons t.persons persons
      (all_weaker (λ (one : Person). one.ask ≡ None) (λ (one : Person). (own : ℤ) → IsPersonSpelled (enrolled id own one))
      (λ one none own. (ap roles_sum (roles_back one.roles), ap password_columns (password_back one.password))) lab.persons it.unasked)
      it.enrolled well.persons

  -- ---- all of it

  pub kept_with_lab : are_ids_unique after ≡ true → are_keys_unique after ≡ true → are_arrows_whole after ≡ true → AreWellKept after
  kept_with_lab ids keys arrows = record {
    ids = ids;
    keys = keys;
    arrows = arrows;
    labs_apart = apart;
    numbered = numbered;
    alike = said;
    columns = columns;
    persons = spelled;
    fields = well.fields;
    signatures = well.signatures;
    trail = all-insert_by trail_id IsTrailSpelled t.trail new_told (ap action_word (action_back told.action)) well.trail;
  }
