-- The counters of laboratories, and the current versions of records, as rows are put and set.
use Rattle.std.proofs.Common.{◌≡◌, ℕ, ◌+◌, ℤ, Bool, true, false, ◌&&◌, ◌==◌, cond, List, map, filter, length, refl, sym, ap, ◌∙◌, int_eq}
use Rattle.std.specs.List.{AllByRecursion}
use Rattle.std.proofs.lemmas.Bool.{and_parts, and_from, eq-eqb}
use Rattle.sqlite_keyed.specs.Keyed.{has_key, insert_by}
use Rattle.sqlite_keyed.proofs.ListLemmas.{all_of, all_weaker, all_map}
use Rattle.sqlite_keyed.proofs.KeyedLemmas.{same_int}
use Rattle.lab_store_tables.specs.Rows.{LabRow, SessionRow, RecordRow, TrailRow, Tables, session_id, record_id, trail_id}
use Rattle.lab_store_tables.specs.WellKept.{has_counted}
use Rattle.lab_store_tables.specs.Changes.{IsFree, in_lab, put_session, put_record, put_told, set_current}
use Rattle.lab_store_tables.proofs.LabLaws.{alike}
use Rattle.lab_store_tables.proofs.Kept.{AreCounted}
use Rattle.lab_store_tables.proofs.PutRows.{count_mine, count_other}
use Rattle.lab_store_tables.proofs.SetRows.{count_set}
use Rattle.lab_store_tables.proofs.Sets.{with_sessions, unread}
use Rattle.lab_store_tables.proofs.OneRow.{turned}

-- ---- one counter

module _ {X : Type 0} (key parent : X → ℤ) (rows : List X) (new : X) (fresh : has_key key rows (key new) ≡ false) where
  abbrev mine : ℤ → X → Bool
  mine id one = int_eq (parent one) id

  -- what is counted of the new row's own parent is set to its number, and of others it stays
  pub counter_follows : (number was : ℕ) → number ≡ length (filter (λ one. int_eq (parent one) (parent new)) rows) + 1 → (id : ℤ) (b : Bool)
      → int_eq id (parent new) ≡ b
      → (was == length (filter (λ one. int_eq (parent one) id) rows)) ≡ true
      → (cond b number was == length (filter (λ one. int_eq (parent one) id) (insert_by key rows new))) ≡ true
  counter_follows number was next id true e held =
      let here : id ≡ parent new = same_int id (parent new) e in
      eq-eqb number (length (filter (mine id) (insert_by key rows new)))
      (next ∙ ap (λ at. length (filter (mine at) rows) + 1) (sym here) ∙ sym (count_mine key new (mine id) rows fresh (alike (parent new) id (sym here))))
  counter_follows number was next id false e held =
      ap (λ n. was == n) (count_other key new (mine id) rows fresh (turned id (parent new) e)) ∙ held

-- ---- a session, a record or a row of the trail more, and its laboratory's counter

module _ (t : Tables) (row : SessionRow) (free : IsFree session_id t.sessions row.id)
    (next : row.number ≡ length (filter (λ (one : SessionRow). int_eq one.lab row.lab) t.sessions) + 1) where
  abbrev session_counted : LabRow → LabRow
  session_counted one = record one { sessions = row.number }

  session_follows : (one : LabRow) → has_counted t one ≡ true → has_counted (put_session row t) (cond (int_eq one.id row.lab) (session_counted one) one) ≡ true
  session_follows one held = go (int_eq one.id row.lab) refl
    where
      go : (b : Bool) → int_eq one.id row.lab ≡ b → has_counted (put_session row t) (cond b (session_counted one) one) ≡ true
      go true e =
          let whole = and_parts _ _ held in
          let first = and_parts _ _ whole.0 in
          and_from _ _ (and_from _ _ first.0
          (counter_follows session_id (λ (x : SessionRow). x.lab) t.sessions row free row.number one.sessions next one.id true e first.1)) whole.1
      go false e =
          let whole = and_parts _ _ held in
          let first = and_parts _ _ whole.0 in
          and_from _ _ (and_from _ _ first.0
          (counter_follows session_id (λ (x : SessionRow). x.lab) t.sessions row free row.number one.sessions next one.id false e first.1)) whole.1

  pub sessions_counted : AreCounted t → AreCounted (in_lab row.lab (λ (one : LabRow). record one { sessions = row.number }) (put_session row t))
  sessions_counted counts =
      all_map (λ (one : LabRow). has_counted (put_session row t) one ≡ true) (λ (one : LabRow). cond (int_eq one.id row.lab) (session_counted one) one) t.labs
      (all_weaker (λ (one : LabRow). has_counted t one ≡ true)
      (λ (one : LabRow). has_counted (put_session row t) (cond (int_eq one.id row.lab) (session_counted one) one) ≡ true) session_follows t.labs counts)

module _ (t : Tables) (row : RecordRow) (free : IsFree record_id t.records row.id)
    (next : row.number ≡ length (filter (λ (one : RecordRow). int_eq one.lab row.lab) t.records) + 1) where
  abbrev record_counted : LabRow → LabRow
  record_counted one = record one { records = row.number }

  record_follows : (one : LabRow) → has_counted t one ≡ true → has_counted (put_record row t) (cond (int_eq one.id row.lab) (record_counted one) one) ≡ true
  record_follows one held = go (int_eq one.id row.lab) refl
    where
      go : (b : Bool) → int_eq one.id row.lab ≡ b → has_counted (put_record row t) (cond b (record_counted one) one) ≡ true
      go true e =
          let whole = and_parts _ _ held in
          let first = and_parts _ _ whole.0 in
          and_from _ _ (and_from _ _
          (counter_follows record_id (λ (x : RecordRow). x.lab) t.records row free row.number one.records next one.id true e first.0) first.1) whole.1
      go false e =
          let whole = and_parts _ _ held in
          let first = and_parts _ _ whole.0 in
          and_from _ _ (and_from _ _
          (counter_follows record_id (λ (x : RecordRow). x.lab) t.records row free row.number one.records next one.id false e first.0) first.1) whole.1

  pub records_counted : AreCounted t → AreCounted (in_lab row.lab (λ (one : LabRow). record one { records = row.number }) (put_record row t))
  records_counted counts =
      all_map (λ (one : LabRow). has_counted (put_record row t) one ≡ true) (λ (one : LabRow). cond (int_eq one.id row.lab) (record_counted one) one) t.labs
      (all_weaker (λ (one : LabRow). has_counted t one ≡ true)
      (λ (one : LabRow). has_counted (put_record row t) (cond (int_eq one.id row.lab) (record_counted one) one) ≡ true) record_follows t.labs counts)

module _ (t : Tables) (row : TrailRow) (free : IsFree trail_id t.trail row.id)
    (next : row.number ≡ length (filter (λ (one : TrailRow). int_eq one.lab row.lab) t.trail) + 1) where
  abbrev told_counted : LabRow → LabRow
  told_counted one = record one { trail = row.number }

  told_follows : (one : LabRow) → has_counted t one ≡ true → has_counted (put_told row t) (cond (int_eq one.id row.lab) (told_counted one) one) ≡ true
  told_follows one held = go (int_eq one.id row.lab) refl
    where
      go : (b : Bool) → int_eq one.id row.lab ≡ b → has_counted (put_told row t) (cond b (told_counted one) one) ≡ true
      go true e =
          let whole = and_parts _ _ held in
          and_from _ _ whole.0 (counter_follows trail_id (λ (x : TrailRow). x.lab) t.trail row free row.number one.trail next one.id true e whole.1)
      go false e =
          let whole = and_parts _ _ held in
          and_from _ _ whole.0 (counter_follows trail_id (λ (x : TrailRow). x.lab) t.trail row free row.number one.trail next one.id false e whole.1)

  pub trail_counted : AreCounted t → AreCounted (in_lab row.lab (λ (one : LabRow). record one { trail = row.number }) (put_told row t))
  trail_counted counts =
      all_map (λ (one : LabRow). has_counted (put_told row t) one ≡ true) (λ (one : LabRow). cond (int_eq one.id row.lab) (told_counted one) one) t.labs
      (all_weaker (λ (one : LabRow). has_counted t one ≡ true)
      (λ (one : LabRow). has_counted (put_told row t) (cond (int_eq one.id row.lab) (told_counted one) one) ≡ true) told_follows t.labs counts)

-- ---- rows that are set

-- a laboratory's row that is set, but for its id and its counters
pub uncounted : (t : Tables) (id : ℤ) (next : LabRow → LabRow) → ((one : LabRow) → has_counted t (next one) ≡ has_counted t one) → AreCounted t
    → AreCounted (in_lab id next t)
uncounted t id next same counts =
    all_map (λ (one : LabRow). has_counted t one ≡ true) (λ (one : LabRow). cond (int_eq one.id id) (next one) one) t.labs
    (all_weaker (λ (one : LabRow). has_counted t one ≡ true) (λ (one : LabRow). has_counted t (cond (int_eq one.id id) (next one) one) ≡ true)
    (λ one held. go one (int_eq one.id id) ∙ held) t.labs counts)
  where
    go : (one : LabRow) (b : Bool) → has_counted t (cond b (next one) one) ≡ has_counted t one
    go one true = same one
    go one false = refl

-- sessions that are set, where each stays in its laboratory
pub sessions_set_counted : (t : Tables) (set : SessionRow → SessionRow) → AllByRecursion (λ (one : SessionRow). (set one).lab ≡ one.lab) t.sessions
    → AreCounted t → AreCounted (with_sessions (map set t.sessions) t)
sessions_set_counted t set stay counts =
    all_weaker (λ (one : LabRow). has_counted t one ≡ true) (λ (one : LabRow). has_counted (with_sessions (map set t.sessions) t) one ≡ true)
    (λ one held. ap (λ n. (one.records == length (filter (λ (x : RecordRow). int_eq x.lab one.id) t.records)) && (one.sessions == n)
    && (one.trail == length (filter (λ (x : TrailRow). int_eq x.lab one.id) t.trail)))
    (count_set (λ (x : SessionRow). x.lab) set one.id t.sessions stay) ∙ held) t.labs counts

-- the current version of a record
pub current_counted : (t : Tables) (id : ℤ) (number : ℕ) → AreCounted t → AreCounted (set_current id number t)
current_counted t id number counts =
    all_weaker (λ (one : LabRow). has_counted t one ≡ true) (λ (one : LabRow). has_counted (set_current id number t) one ≡ true)
    (λ one held. ap (λ n. (one.records == n) && (one.sessions == length (filter (λ (x : SessionRow). int_eq x.lab one.id) t.sessions))
    && (one.trail == length (filter (λ (x : TrailRow). int_eq x.lab one.id) t.trail)))
    (count_set (λ (x : RecordRow). x.lab) (λ (x : RecordRow). cond (int_eq x.id id) (record x { current = number }) x) one.id t.records
    (all_of (λ (x : RecordRow). (cond (int_eq x.id id) (record x { current = number }) x).lab ≡ x.lab)
    (unread t id number (λ (x : RecordRow). x.lab) (λ x. refl)) t.records)) ∙ held) t.labs counts
