-- A session more, a session that is set, and sessions that are closed: the tables stay well kept.
use Rattle.std.proofs.Common.{◌≡◌, ℕ, ◌+◌, ℤ, Bool, true, false, cond, List, [], ◌∷◌, map, filter, find, length, Some, option_map, refl, sym, ap, subst, ◌∙◌, int_eq, bytes_eq}
use Rattle.std.specs.List.{AllByRecursion}
use Rattle.std.proofs.lemmas.Bool.{and_parts, and_from, cond_both}
use Rattle.sqlite_rules.specs.Lists.{Has}
use Rattle.sqlite_rules.proofs.ListLemmas.{all_has, all_from, has_found}
use Rattle.sqlite_keyed.proofs.ListLemmas.{all_of, all_weaker}
use Rattle.sqlite_keyed.proofs.KeyedLemmas.{same_int}
use Rattle.lab_people_access.specs.declared.sessions.Session.{Session}
use Rattle.lab_people_access.specs.declared.sessions.Closing.{Closing}
use Rattle.lab_people_access.specs.Sessions.{session_of}
use Rattle.lab_records_kept.specs.declared.changes.Change.TheVariants.{SessionAdded, SessionSet, SessionsClosed}
use Rattle.lab_records_kept.specs.Changes.{SameSession, ChangesFit}
use Rattle.lab_store_tables.specs.Rows.{LabRow, SessionRow, Tables, person_id, session_id}
use Rattle.lab_store_tables.specs.Meaning.{meaning, session_in, by_session, sessions_of}
use Rattle.lab_store_tables.specs.WellKept.{have_own_ids, same_token, lab_of_person, is_session_within, AreWellKept}
use Rattle.lab_store_tables.specs.Family.{Sessions}
use Rattle.lab_store_tables.specs.Changes.{IsFree, person_named, is_session, session_row_of, in_lab, put_session, set_session, is_to_close, close_sessions, Applies}
use Rattle.lab_store_tables.proofs.Bridges.{apart_from_test}
use Rattle.lab_store_tables.proofs.LabLaws.{alike, same_id}
use Rattle.lab_store_tables.specs.ByRules.{IsByRules}
use Rattle.lab_store_tables.proofs.Kept.{AreAllKept, all_kept, well_kept}
use Rattle.lab_store_tables.proofs.Ids.{own_ids, own_keys}
use Rattle.lab_store_tables.proofs.Named.{same_key, the_row, of_same, named_lab}
use Rattle.lab_store_tables.proofs.Puts.{put_kept}
use Rattle.lab_store_tables.proofs.Sets.{lab_set, with_sessions, sessions_set}
use Rattle.lab_store_tables.proofs.Counters.{sessions_counted, sessions_set_counted}
use Rattle.lab_store_tables.proofs.Shown.{as_many, IsShown, all_shown, session_is_found, matched, fits_here}
use Rattle.lab_store_tables.proofs.Comparing.{text_is, text_alike}

-- ---- a session more

module _ (t : Tables) (own : have_own_ids person_id t.persons ≡ true) (lab : ℤ) (session : Session) (next : session.number ≡ length (sessions_of t lab) + 1)
    (id : ℤ) (free : IsFree session_id t.sessions id) (person : ℤ) (named : person_named t lab session.person ≡ Some person) where
  abbrev new_row : SessionRow
  new_row = session_row_of lab id person session

  abbrev more : Tables
  more = in_lab lab (λ (one : LabRow). record one { sessions = session.number }) (put_session new_row t)

  next_row : session.number ≡ length (filter (λ (one : SessionRow). int_eq one.lab lab) t.sessions) + 1
  next_row = next ∙ ap (λ n. n + 1) (as_many by_session (session_in t) (filter (λ (one : SessionRow). int_eq one.lab lab) t.sessions))

  new_within : is_session_within t new_row ≡ true
  new_within = of_same (lab_of_person t person) (Some lab) lab (named_lab t own lab session.person person named) refl

  session_more : AreAllKept t → AreAllKept more
  session_more kept = record {
    rows =
        lab_set (put_session new_row t) lab (λ (one : LabRow). record one { sessions = session.number })
        (put_kept Sessions t new_row free new_within next_row kept.rows);
    counters = sessions_counted t new_row free next_row kept.counters;
    currents = kept.currents;
  }

-- under the next number
pub session_numbered_keeps : {old new : Tables} {code : List ℕ} {session : Session} → AreWellKept old → IsByRules new
    → (it : Applies code (SessionAdded session) old new) → session.number ≡ length (sessions_of old it.lab.id) + 1 → AreWellKept new
session_numbered_keeps {old} {new} {code} {session} well rules it next =
    well_kept new rules
    (subst AreAllKept (sym it.made.made)
    (session_more old (own_ids old well.ids).persons it.lab.id session next it.made.id it.made.free it.made.person it.made.named (all_kept old well)))

pub session_added_keeps : {old new : Tables} {code : List ℕ} {session : Session} → AreWellKept old → IsByRules new
    → ChangesFit (meaning old code) (SessionAdded session ∷ [])
    → Applies code (SessionAdded session) old new → AreWellKept new
session_added_keeps {old} {new} {code} {session} well rules fit it =
    session_numbered_keeps well rules it (fits_here old code it.lab (SessionAdded session) it.found fit).0

-- ---- sessions that are set, each with its laboratory and its number

module _ (t : Tables) (set : SessionRow → SessionRow)
    (stay : AllByRecursion (λ (one : SessionRow). ((set one).lab ≡ one.lab) × ((set one).number ≡ one.number)) t.sessions)
    (within : AllByRecursion (λ (one : SessionRow). is_session_within t (set one) ≡ true) t.sessions) where
  sessions_kept : AreAllKept t → AreAllKept (with_sessions (map set t.sessions) t)
  sessions_kept kept = record {
    rows = sessions_set t set stay within kept.rows;
    counters =
        sessions_set_counted t set
        (all_weaker (λ (one : SessionRow). ((set one).lab ≡ one.lab) × ((set one).number ≡ one.number)) (λ (one : SessionRow). (set one).lab ≡ one.lab)
        (λ one h. h.0) t.sessions stay) kept.counters;
    currents = kept.currents;
  }

-- ---- a session that is set

same_tokens : (one other : SessionRow) → one.lab ≡ other.lab → one.token ≡ other.token → same_token one other ≡ true
same_tokens one other lab token =
    and_from (int_eq one.lab other.lab) (bytes_eq one.token other.token) (alike one.lab other.lab lab) (text_alike one.token other.token token)

-- the row of the token is the one whose session the laboratory is shown to have under it
number_stays : (t : Tables) → AreWellKept t → (lab : ℤ) (session old : Session) (row : SessionRow) → session_of (sessions_of t lab) session.token ≡ Some old
    → SameSession old session
    → Has t.sessions row → row.lab ≡ lab → row.token ≡ session.token → session.number ≡ row.number
number_stays t well lab session old row found same there beside token =
    let has = has_found (λ (one : Session). bytes_eq one.token session.token) (sessions_of t lab) old
    (sym (session_is_found (sessions_of t lab) session.token) ∙ found) in
    let it = all_has (IsShown (session_in t) (λ (one : SessionRow). int_eq one.lab lab) t.sessions) (sessions_of t lab) old
    (all_shown by_session (session_in t) (λ (one : SessionRow). int_eq one.lab lab) t.sessions) has.0 in
    let labs : it.0.lab ≡ row.lab = same_int it.0.lab lab it.2 ∙ sym beside in
    let tokens : it.0.token ≡ row.token = sym (ap (λ (x : Session). x.token) it.3) ∙ text_is old.token session.token has.1 ∙ sym token in
    let is : it.0 ≡ row = same_key same_token t.sessions it.0 row (apart_from_test same_token t.sessions (own_keys t well.keys).tokens) it.1 there
    (same_tokens it.0 row labs tokens) (same_tokens row it.0 (sym labs) (sym tokens)) in
    same.number ∙ ap (λ (x : Session). x.number) it.3 ∙ ap (λ (x : SessionRow). x.number) is

module _ (t : Tables) (well : AreWellKept t) (lab : ℤ) (session : Session) (old : Session) (shown : session_of (sessions_of t lab) session.token ≡ Some old)
    (same : SameSession old session)
    (id : ℤ) (found : option_map session_id (find (is_session lab session.token) t.sessions) ≡ Some id) (person : ℤ)
    (named : person_named t lab session.person ≡ Some person) where
  abbrev row : SessionRow
  row = session_row_of lab id person session

  abbrev set_row : SessionRow → SessionRow
  set_row one = cond (int_eq one.id id) row one

  row_stays : (one : SessionRow) → Has t.sessions one → ((set_row one).lab ≡ one.lab) × ((set_row one).number ≡ one.number)
  row_stays one has = go (int_eq one.id id) refl
    where
      go : (b : Bool) → int_eq one.id id ≡ b → ((cond b row one).lab ≡ one.lab) × ((cond b row one).number ≡ one.number)
      go true e =
          let it = the_row session_id (is_session lab session.token) t.sessions (own_ids t well.ids).sessions id found in
          let key = and_parts (int_eq it.0.lab lab) (bytes_eq it.0.token session.token) it.2 in
          let own = apart_from_test (λ a b. int_eq (session_id a) (session_id b)) t.sessions (own_ids t well.ids).sessions in
          let is : one ≡ it.0 = same_id session_id t.sessions one it.0 own has it.3 (same_int one.id id e ∙ sym it.4) in
          let beside : it.0.lab ≡ lab = same_int it.0.lab lab key.0 in
          let number = number_stays t well lab session old it.0 shown same it.3 beside (text_is it.0.token session.token key.1) in
          (sym beside ∙ sym (ap (λ (x : SessionRow). x.lab) is), number ∙ sym (ap (λ (x : SessionRow). x.number) is))
      go false e = (refl, refl)

  row_within : is_session_within t row ≡ true
  row_within = of_same (lab_of_person t person) (Some lab) lab (named_lab t (own_ids t well.ids).persons lab session.person person named) refl

  session_set : AreAllKept (set_session row t)
  session_set =
      let kept = all_kept t well in
      sessions_kept t set_row
      (all_from (λ (one : SessionRow). ((set_row one).lab ≡ one.lab) × ((set_row one).number ≡ one.number)) t.sessions row_stays)
      (all_weaker (λ (one : SessionRow). is_session_within t one ≡ true) (λ (one : SessionRow). is_session_within t (set_row one) ≡ true)
      (λ one h. cond_both (int_eq one.id id) row one (λ (x : SessionRow). is_session_within t x ≡ true) (λ e. row_within)
      (λ e. h)) t.sessions (kept.rows.at Sessions).0) kept

pub session_set_keeps : {old new : Tables} {code : List ℕ} {session : Session} → AreWellKept old → IsByRules new
    → ChangesFit (meaning old code) (SessionSet session ∷ [])
    → Applies code (SessionSet session) old new → AreWellKept new
session_set_keeps {old} {new} {code} {session} well rules fit it =
    let was = matched (session_of (sessions_of old it.lab.id) session.token) (λ (one : Session). SameSession one session)
    (fits_here old code it.lab (SessionSet session) it.found fit) in
    well_kept new rules (subst AreAllKept (sym it.made.made)
    (session_set old well it.lab.id session was.0 was.1 was.2 it.made.id it.made.found it.made.person it.made.named))

-- ---- sessions that are closed

module _ (t : Tables) (lab : ℤ) (person : List ℕ) (closing : Closing) where
  abbrev close_row : SessionRow → SessionRow
  close_row one = cond (is_to_close t lab person closing one) (record one { closed = true }) one

  closed_stays : (one : SessionRow) → ((close_row one).lab ≡ one.lab) × ((close_row one).number ≡ one.number)
  closed_stays one = go (is_to_close t lab person closing one)
    where
      go : (b : Bool) → ((cond b (record one { closed = true }) one).lab ≡ one.lab) × ((cond b (record one { closed = true }) one).number ≡ one.number)
      go true = (refl, refl)
      go false = (refl, refl)

  closed_within : (one : SessionRow) → is_session_within t one ≡ true → is_session_within t (close_row one) ≡ true
  closed_within one h = go (is_to_close t lab person closing one)
    where
      go : (b : Bool) → is_session_within t (cond b (record one { closed = true }) one) ≡ true
      go true = h
      go false = h

  sessions_closed : AreAllKept t → AreAllKept (close_sessions lab person closing t)
  sessions_closed kept =
      sessions_kept t close_row (all_of (λ (one : SessionRow). ((close_row one).lab ≡ one.lab) × ((close_row one).number ≡ one.number)) closed_stays t.sessions)
      (all_weaker (λ (one : SessionRow). is_session_within t one ≡ true)
      (λ (one : SessionRow). is_session_within t (close_row one) ≡ true) closed_within t.sessions (kept.rows.at Sessions).0) kept

pub closing_keeps : {old new : Tables} {code person : List ℕ} {closing : Closing} → AreWellKept old → IsByRules new
    → Applies code (SessionsClosed person closing) old new → AreWellKept new
closing_keeps {old} {new} {code} {person} {closing} well rules it =
    well_kept new rules (subst AreAllKept (sym it.made) (sessions_closed old it.lab.id person closing (all_kept old well)))
