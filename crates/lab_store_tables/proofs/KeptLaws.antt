-- A laboratory's own row that is set stays well kept, with all that is beside it, where its id, its code and its counters
-- stay; so it is with the last moment and with stray passwords.
use Rattle.std.proofs.Common.{◌≡◌, ℕ, ℤ, Bool, true, false, not, ◌&&◌, cond, List, [], ◌∷◌, map, Option, Some, None, refl, sym, ap, ap₂, subst, ◌∙◌, int_eq, bytes_eq}
use Rattle.std.specs.List.{list_all}
use Rattle.sqlite_keyed.specs.Rules.{has_parent}
use Rattle.sqlite_keyed.proofs.KeyedLemmas.{has_key-update_where}
use Rattle.lab_records_kept.specs.declared.changes.Change.TheVariants.{Last, Strays}
use Rattle.lab_store_tables.specs.Rows.{LabRow, PersonRow, SessionRow, FormRow, FieldRow, ChoiceRow, RecordRow, VersionRow, EntryRow, SignatureRow, TrailRow, Tables, lab_id, person_id, session_id, form_id, field_id, choice_id, record_id, version_id, entry_id, signature_id, trail_id}
use Rattle.lab_store_tables.specs.WellKept.{are_apart, have_own_ids, have_parents, same_lab, same_person, same_token, same_session, same_form, same_field, same_key, same_choice, same_record, same_sample, same_version, same_entry, same_signature, same_meaning, same_told, are_ids_unique, are_keys_unique, are_arrows_whole, has_counted, is_current, names_its_form, is_said_alike, AreWellKept, IsWellKept}
use Rattle.lab_store_tables.specs.Changes.{in_lab, Applies}
use Rattle.lab_store_tables.specs.ByRules.{IsByRules}

-- ---- rows that are set, where a test of them stays

all_kept : {X : Type 0} (p : X → Bool) (u : X → X) → ((one : X) → p (u one) ≡ p one) → (rows : List X) → list_all p (map u rows) ≡ list_all p rows
all_kept p u stays [] = refl
all_kept p u stays (one ∷ others) = ap₂ ◌&&◌ (stays one) (all_kept p u stays others)

all_same : {X : Type 0} (p q : X → Bool) → ((one : X) → p one ≡ q one) → (rows : List X) → list_all p rows ≡ list_all q rows
all_same p q same [] = refl
all_same p q same (one ∷ others) = ap₂ ◌&&◌ (same one) (all_same p q same others)

all_read : {X Y : Type 0} (p : Y → Bool) (u : X → Y) (rows : List X) → list_all p (map u rows) ≡ list_all (λ one. p (u one)) rows
all_read p u [] = refl
all_read p u (one ∷ others) = ap (λ b. p (u one) && b) (all_read p u others)

apart_kept : {X : Type 0} (clash : X → X → Bool) (u : X → X) → ((one other : X) → clash (u one) (u other) ≡ clash one other) → (rows : List X) → are_apart clash (map u rows) ≡ are_apart clash rows
apart_kept clash u stays [] = refl
apart_kept clash u stays (one ∷ others) =
    ap₂ ◌&&◌ (all_read (λ other. not (clash (u one) other)) u others ∙ all_same (λ other. not (clash (u one) (u other))) (λ other. not (clash one other)) (λ other. ap not (stays one other)) others)
    (apart_kept clash u stays others)

-- ---- a laboratory's row

module _ (t : Tables) (id : ℤ) (next : LabRow → LabRow) (same_id : (one : LabRow) → lab_id (next one) ≡ lab_id one)
    (codes_stay : (one other : LabRow) → same_lab (cond (int_eq one.id id) (next one) one) (cond (int_eq other.id id) (next other) other) ≡ same_lab one other)
    (counted : (one : LabRow) → has_counted t (next one) ≡ has_counted t one) where
  abbrev set : LabRow → LabRow
  set one = cond (int_eq one.id id) (next one) one

  abbrev after : Tables
  after = in_lab id next t

  id_stays : (one : LabRow) → lab_id (set one) ≡ lab_id one
  id_stays one = go (int_eq one.id id)
    where
      go : (b : Bool) → lab_id (cond b (next one) one) ≡ lab_id one
      go true = same_id one
      go false = refl

  count_stays : (one : LabRow) → has_counted t (set one) ≡ has_counted t one
  count_stays one = go (int_eq one.id id)
    where
      go : (b : Bool) → has_counted t (cond b (next one) one) ≡ has_counted t one
      go true = counted one
      go false = refl

  own_ids : have_own_ids lab_id after.labs ≡ have_own_ids lab_id t.labs
  own_ids = apart_kept (λ (one other : LabRow). int_eq (lab_id one) (lab_id other)) set (λ one other. ap₂ int_eq (id_stays one) (id_stays other)) t.labs

  ids_stay : are_ids_unique after ≡ are_ids_unique t
  ids_stay = ap (λ b. b && have_own_ids person_id t.persons && have_own_ids session_id t.sessions && have_own_ids form_id t.forms && have_own_ids field_id t.fields && have_own_ids choice_id t.choices
      && have_own_ids record_id t.records && have_own_ids version_id t.versions && have_own_ids entry_id t.entries && have_own_ids signature_id t.signatures && have_own_ids trail_id t.trail) own_ids

  keys_stay : are_keys_unique after ≡ are_keys_unique t
  keys_stay = ap (λ b. b && are_apart same_person t.persons && are_apart same_token t.sessions && are_apart same_session t.sessions && are_apart same_form t.forms && are_apart same_field t.fields
      && are_apart same_key t.fields && are_apart same_choice t.choices && are_apart same_record t.records && are_apart same_sample t.records && are_apart same_version t.versions
      && are_apart same_entry t.entries && are_apart same_signature t.signatures && are_apart same_meaning t.signatures && are_apart same_told t.trail)
      (apart_kept same_lab set codes_stay t.labs)

  parent_stays : (to : Option ℤ) → has_parent lab_id after.labs to ≡ has_parent lab_id t.labs to
  parent_stays None = refl
  parent_stays (Some to) = has_key-update_where lab_id (λ (one : LabRow). int_eq one.id id) next same_id t.labs to

  parents_stay : {X : Type 0} (arrow : X → Option ℤ) (rows : List X) → have_parents arrow lab_id after.labs rows ≡ have_parents arrow lab_id t.labs rows
  parents_stay arrow rows = all_same (λ one. has_parent lab_id after.labs (arrow one)) (λ one. has_parent lab_id t.labs (arrow one)) (λ one. parent_stays (arrow one)) rows

  -- the five arrows that lead to a laboratory, among the others
  arrows_stay : are_arrows_whole after ≡ are_arrows_whole t
  arrows_stay = λ i.
      parents_stay (λ (one : PersonRow). Some one.lab) t.persons i
      && have_parents (λ (one : PersonRow). one.ask.asker) person_id t.persons t.persons
      && parents_stay (λ (one : SessionRow). Some one.lab) t.sessions i
      && have_parents (λ (one : SessionRow). Some one.person) person_id t.persons t.sessions
      && parents_stay (λ (one : FormRow). Some one.lab) t.forms i
      && have_parents (λ (one : FieldRow). Some one.form) form_id t.forms t.fields
      && have_parents (λ (one : ChoiceRow). Some one.field) field_id t.fields t.choices
      && parents_stay (λ (one : RecordRow). Some one.lab) t.records i
      && have_parents (λ (one : RecordRow). Some one.form) form_id t.forms t.records
      && have_parents (λ (one : VersionRow). Some one.kept) record_id t.records t.versions
      && have_parents (λ (one : VersionRow). Some one.opener) person_id t.persons t.versions
      && have_parents (λ (one : EntryRow). Some one.version) version_id t.versions t.entries
      && have_parents (λ (one : EntryRow). Some one.person) person_id t.persons t.entries
      && have_parents (λ (one : SignatureRow). Some one.version) version_id t.versions t.signatures
      && have_parents (λ (one : SignatureRow). Some one.person) person_id t.persons t.signatures
      && parents_stay (λ (one : TrailRow). Some one.lab) t.trail i
      && have_parents (λ (one : TrailRow). one.person) person_id t.persons t.trail

  alike_stay : is_said_alike after ≡ is_said_alike t
  alike_stay = ap (λ b. b && list_all (is_current t) t.records && list_all (names_its_form t) t.records) (all_kept (has_counted t) set count_stays t.labs)

  pub set_kept : AreWellKept t → AreWellKept after
  set_kept kept = record {
    ids = ids_stay ∙ kept.ids;
    keys = keys_stay ∙ kept.keys;
    arrows = arrows_stay ∙ kept.arrows;
    labs_apart = kept.labs_apart;
    numbered = kept.numbered;
    alike = alike_stay ∙ kept.alike;
    columns = kept.columns;
    persons = kept.persons;
    fields = kept.fields;
    signatures = kept.signatures;
    trail = kept.trail;
  }

by_case : (t : Tables) (id : ℤ) (next : LabRow → LabRow) → ((one : LabRow) → (next one).code ≡ one.code) → (one other : LabRow)
    → same_lab (cond (int_eq one.id id) (next one) one) (cond (int_eq other.id id) (next other) other) ≡ same_lab one other
by_case t id next stays one other = ap₂ bytes_eq (code_stays (int_eq one.id id) one) (code_stays (int_eq other.id id) other)
  where
    code_stays : (b : Bool) (row : LabRow) → (cond b (next row) row).code ≡ row.code
    code_stays true row = stays row
    code_stays false row = refl

-- the last moment, and stray passwords
pub last_kept : (old new : Tables) (code : List ℕ) (moment : ℕ) → IsWellKept old → Applies code (Last moment) old new → IsWellKept new
last_kept old new code moment kept it = subst IsWellKept (sym it.made) (record {
  desk = kept.desk;
  rows = set_kept old it.lab.id (λ (one : LabRow). record one { last = moment }) (λ one. refl)
      (by_case old it.lab.id (λ (one : LabRow). record one { last = moment }) (λ one. refl)) (λ one. refl) kept.rows;
})

pub strays_kept : (old new : Tables) (code : List ℕ) (count : ℕ) → IsWellKept old → Applies code (Strays count) old new → IsWellKept new
strays_kept old new code count kept it = subst IsWellKept (sym it.made) (record {
  desk = kept.desk;
  rows = set_kept old it.lab.id (λ (one : LabRow). record one { stray = count }) (λ one. refl)
      (by_case old it.lab.id (λ (one : LabRow). record one { stray = count }) (λ one. refl)) (λ one. refl) kept.rows;
})

-- a database's own rules say nothing of the last moment
pub last_by_rules : (t : Tables) (lab : ℤ) (moment : ℕ) → IsByRules t → IsByRules (in_lab lab (λ (one : LabRow). record one { last = moment }) t)
last_by_rules t lab moment rules =
    let next = λ (one : LabRow). record one { last = moment } in
    let codes_stay = by_case t lab next (λ one. refl) in
    record {
      ids = ids_stay t lab next (λ one. refl) codes_stay (λ one. refl) ∙ rules.ids;
      keys = keys_stay t lab next (λ one. refl) codes_stay (λ one. refl) ∙ rules.keys;
      arrows = arrows_stay t lab next (λ one. refl) codes_stay (λ one. refl) ∙ rules.arrows;
    }
