-- What was read of persons, sessions and the trail, as what the tables have, and what was tried of them.
use Rattle.std.proofs.Common.{◌≡◌, ℕ, ℤ, pos, Bool, true, false, ◌&&◌, ◌==◌, List, [], ◌∷◌, map, filter, length, slice_get, Option, Some, None, option_map, option_and_then, unwrap_or, refl, sym, ap, ap₂, ◌∙◌, int_eq}
use Rattle.std.specs.List.{list_all}
use Rattle.sqlite_keyed.specs.Keyed.{get_by}
use Rattle.sqlite_keyed.proofs.ListLemmas.{slice_get-filter, map-map, map_same}
use Rattle.sqlite_value.specs.Order.{Row}
use Rattle.lab_store_tables.specs.Rows.{PersonRow, SessionRow, TrailRow, Tables, person_id}
use Rattle.lab_store_tables.specs.Columns.{password_in}
use Rattle.lab_store_tables.specs.Meaning.{code_of, session_in, sessions_of, trail_of, persons_of}
use Rattle.lab_store_read.proofs.Found.{flag_back, number_back, blob_back, id_back}
use Rattle.lab_store_read_people.specs.declared.heads.PersonHead.{PersonHead}
use Rattle.lab_store_read_people.specs.Heads.{ask_head}
use Rattle.lab_store_read_people.specs.Private.Heads.{person_head, person_heads_of, person_by}
use Rattle.lab_store_read_people.specs.Private.SessionsShown.{session_read}
use Rattle.lab_store_read_people.proofs.PersonsFound.{persons_built}
use Rattle.lab_store_read_trail.specs.declared.heads.ToldHead.{ToldHead}
use Rattle.lab_store_read_trail.specs.Private.Trails.{told_head, told_by}
use Rattle.lab_store_read_trail.specs.Shown.{told_read}
use Rattle.lab_move_tables.specs.OldRows.{beside, old_rounds}
use Rattle.lab_move_tables.specs.declared.older.Older.{Older}
use Rattle.lab_move_tables.specs.declared.older.Older.TheVariants.{Two}
use Rattle.lab_move_tables.specs.Standing.{AreLifted}
use Rattle.lab_move_tables.specs.Owned.{own_persons, own_sessions, own_trail, lab_of}
use Rattle.lab_move_tables.specs.KeptLabs.{run, is_theirs, is_nobody_or_theirs, are_kept_persons, are_kept_sessions, is_kept_trail}
use Rattle.lab_move_tables.specs.Shown.{person_shown, persons_shown, owner_shown, owners_shown, session_shown, sessions_shown, told_shown, trail_shown}
use Rattle.lab_move_tables.specs.Checks.{are_owned}
use Rattle.lab_move_read_people.specs.Kept.{IsFound, are_counted}
use Rattle.lab_move_read_people.specs.Private.Owners.{IsFirstOwner}
use Rattle.lab_move_read_people.specs.Persons.{password_cells, ask_cells, person_read}
use Rattle.lab_move_read_people.specs.Private.Persons.{is_kept_ask, is_kept_head}
use Rattle.lab_move_read_people.specs.Private.Trails.{is_counted_trail, is_kept_told, told_heads_of}
use Rattle.lab_move_read_people.proofs.Found.{first_fails}
use Rattle.lab_move_read_people.proofs.Numbered.{counted_is, owned_is, list_all-map}
use Rattle.lab_move_tables.proofs.OldOnes.{IsOldPerson, old_persons, all_same}

-- ---- whoever an arrow leads to

pub owner_found : (t : Tables) (lab id : ℤ) (found : Option (List ℕ)) → IsFirstOwner lab (slice_get (owners_shown t id) 0) found → IsFound (is_theirs t lab id) (λ code. code ≡ code_of t id) found
owner_found t lab id found h = go (filter (λ (one : PersonRow). int_eq one.id id) t.persons) (get_by person_id t.persons id) (slice_get-filter (λ (one : PersonRow). int_eq one.id id) t.persons) h
  where
    go : (those : List PersonRow) (o : Option PersonRow) → slice_get those 0 ≡ o → IsFirstOwner lab (slice_get (map owner_shown those) 0) found
        → IsFound (int_eq (unwrap_or (option_map (λ (one : PersonRow). one.lab) o) (pos 0)) lab) (λ code. code ≡ unwrap_or (option_map (λ (one : PersonRow). one.code) o) []) found
    go [] o e shown = absurd shown
    go (one ∷ more) o e shown = rw (sym e) shown

-- ---- persons

list_all_same : {X : Type 0} (p q : X → Bool) → ((x : X) → p x ≡ q x) → (xs : List X) → list_all p xs ≡ list_all q xs
list_all_same p q same [] = refl
list_all_same p q same (x ∷ xs) = ap₂ ◌&&◌ (same x) (list_all_same p q same xs)

password_back : (one : PersonRow) → IsOldPerson Two one → password_cells Two (person_shown Two one) ≡ one.password
password_back one old = λ i. record {
  kind = one.password.kind;
  salt = blob_back one.password.salt i;
  rounds = number_back one.password.rounds i;
  bytes = blob_back one.password.bytes i;
  salt2 = blob_back one.password.salt2 i;
  rounds2 = (ap₂ beside (blob_back one.password.salt2) (number_back one.password.rounds) ∙ old.rounds2) i;
  bytes2 = blob_back one.password.bytes2 i;
  changed = number_back one.password.changed i;
}

asked_same : (o : Option ℤ) → option_and_then (λ _. Some old_rounds) o ≡ option_map (λ _. old_rounds) o
asked_same None = refl
asked_same (Some asker) = refl

ask_back : (one : PersonRow) → IsOldPerson Two one → ask_cells Two (person_shown Two one) ≡ one.ask
ask_back one old = λ i. record {
  asker = id_back one.ask.asker i;
  asked = number_back one.ask.asked i;
  salt = blob_back one.ask.salt i;
  rounds = (ap (option_and_then (λ _. Some old_rounds)) (id_back one.ask.asker) ∙ asked_same one.ask.asker ∙ old.ask_rounds) i;
  bytes = blob_back one.ask.bytes i;
}

person_back : (older : Older) (one : PersonRow) → IsOldPerson older one → person_read older (person_shown older one) ≡ person_head one
person_back Two one old = λ i. record (person_head one) {
  retired = flag_back one.retired i;
  locked = number_back one.locked i;
  password = password_in (password_back one old i);
  ask = ask_head (ask_back one old i);
}

pub persons_found : (older : Older) (t : Tables) → AreLifted older t → (lab : ℤ) → map (person_read older) (persons_shown older t lab) ≡ person_heads_of t lab
persons_found older t of lab =
    map-map (person_read older) (person_shown older) (own_persons t lab)
    ∙ all_same (IsOldPerson older) (λ one. person_read older (person_shown older one)) person_head (person_back older) (own_persons t lab) (old_persons older t of lab)

asker_kept : (t : Tables) (lab : ℤ) (one : PersonRow) → is_kept_head t lab (person_head one) ≡ is_nobody_or_theirs t lab one.ask.asker
asker_kept t lab one = go one.ask.asker
  where
    go : (o : Option ℤ) → is_kept_ask t lab (ask_head (record one.ask { asker = o })) ≡ is_nobody_or_theirs t lab o
    go None = refl
    go (Some asker) = refl

pub persons_tried : (t : Tables) (lab : ℤ) → list_all (is_kept_head t lab) (person_heads_of t lab) ≡ are_kept_persons t lab
persons_tried t lab = list_all-map (is_kept_head t lab) person_head (own_persons t lab) ∙ list_all_same _ _ (asker_kept t lab) (own_persons t lab)

pub persons_done : (t : Tables) (lab : ℤ) (heads : List PersonHead) → heads ≡ person_heads_of t lab → (list_all (is_kept_head t lab) heads ≡ are_kept_persons t lab) × (map (person_by t) heads ≡ persons_of t lab)
persons_done t lab heads is = (ap (list_all (is_kept_head t lab)) is ∙ persons_tried t lab, ap (map (person_by t)) is ∙ persons_built t lab)

-- ---- sessions

session_back : (t : Tables) (one : SessionRow) → session_read (session_shown t one) ≡ session_in t one
session_back t one = λ i. record (session_in t one) { closed = flag_back one.closed i; signed = flag_back one.signed i }

pub sessions_done : (t : Tables) (lab : ℤ) (count : ℕ) (rows : List Row) → rows ≡ sessions_shown t lab
    → ((are_counted 0 count rows && are_owned 7 lab rows) ≡ are_kept_sessions t lab count) × (map session_read rows ≡ sessions_of t lab)
sessions_done t lab count rows is =
    let own = own_sessions t lab in (
      ap (λ l. are_counted 0 count l && are_owned 7 lab l) is
          ∙ ap₂ ◌&&◌ (counted_is (session_shown t) 0 count (λ (one : SessionRow). one.number) (λ one. refl) own)
          (owned_is (session_shown t) 7 lab (λ (one : SessionRow). lab_of t one.person) (λ one. refl) own),
      ap (map session_read) is ∙ map-map session_read (session_shown t) own ∙ map_same _ _ (session_back t) own,
    )

-- ---- the trail

told_back : (one : TrailRow) → told_read (told_shown one) ≡ told_head one
told_back one = λ i. record (told_head one) { person = id_back one.person i }

pub told_done : (t : Tables) (lab : ℤ) (count : ℕ) (rows : List Row) → rows ≡ trail_shown t lab → (are_counted 0 count rows ≡ is_counted_trail t lab count) × (map told_read rows ≡ told_heads_of t lab)
told_done t lab count rows is = (
  ap (are_counted 0 count) is,
  ap (map told_read) is ∙ map-map told_read told_shown (own_trail t lab) ∙ map_same _ _ told_back (own_trail t lab),
)

told_counted : (t : Tables) (lab : ℤ) (count : ℕ) → is_counted_trail t lab count ≡ ((length (own_trail t lab) == count) && run (λ (told : TrailRow). told.number) (own_trail t lab))
told_counted t lab count = counted_is told_shown 0 count (λ (one : TrailRow). one.number) (λ one. refl) (own_trail t lab)

pub trail_done : (t : Tables) (lab : ℤ) (count : ℕ) (heads : List ToldHead) → is_counted_trail t lab count ≡ true → heads ≡ told_heads_of t lab
    → (list_all (is_kept_told t lab) heads ≡ is_kept_trail t lab count) × (map (told_by t) heads ≡ trail_of t lab)
trail_done t lab count heads passes is =
    let own = own_trail t lab in (
      ap (list_all (is_kept_told t lab)) is ∙ list_all-map (is_kept_told t lab) told_head own
          ∙ ap (λ b. b && list_all (λ (told : TrailRow). is_nobody_or_theirs t lab told.person) own) (sym passes ∙ told_counted t lab count),
      ap (map (told_by t)) is ∙ map-map (told_by t) told_head own,
    )

pub trail_fails : (t : Tables) (lab : ℤ) (count : ℕ) → is_counted_trail t lab count ≡ false → is_kept_trail t lab count ≡ false
trail_fails t lab count fails = first_fails _ _ (sym (told_counted t lab count) ∙ fails)
