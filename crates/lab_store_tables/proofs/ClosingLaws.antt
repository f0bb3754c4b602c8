-- Sessions that are closed: those of the person in the laboratory that is changed, and no other laboratory's.
use Rattle.std.proofs.Common.{◌≡◌, ℕ, ℤ, Bool, true, false, ◌&&◌, cond, List, [], ◌∷◌, filter, find, Some, refl, sym, ap, subst, ◌∙◌, int_eq}
use Rattle.std.specs.Ordering.{nat_cmp}
use Rattle.sqlite_keyed.proofs.ListLemmas.{map-map}
use Rattle.sqlite_keyed.proofs.KeyedLemmas.{same_int, int_eq_apart}
use Rattle.sqlite_keyed.specs.Lists.{sort_by}
use Rattle.lab_people_access.specs.declared.sessions.Closing.{Closing}
use Rattle.lab_people_access.specs.Sessions.{is_closed_by, closed_session, session_after, sessions_after}
use Rattle.lab_records_kept.specs.declared.changes.Change.TheVariants.{SessionsClosed}
use Rattle.lab_records_kept.specs.Changes.{change}
use Rattle.lab_records_keeper.specs.Worlds.{Changes}
use Rattle.lab_store_tables.specs.Rows.{LabRow, SessionRow, Tables}
use Rattle.lab_store_tables.specs.Meaning.{lab_in, has_code, meaning, session_in, by_session, sessions_of}
use Rattle.lab_store_tables.specs.WellKept.{are_ids_unique}
use Rattle.lab_store_tables.specs.Changes.{is_to_close, close_sessions, Applies}
use Rattle.lab_store_tables.proofs.LevelLaws.{had_by, set_has, had_alike}
use Rattle.lab_store_tables.proofs.LabLaws.{alike, rows_changed}
use Rattle.lab_store_tables.proofs.TrailLaws.{labs_own}

module _ (t : Tables) (ids : are_ids_unique t ≡ true) (code : List ℕ) (row : LabRow) (found : find (has_code code) t.labs ≡ Some row) (person : List ℕ) (closing : Closing) where
  abbrev closed : SessionRow → SessionRow
  closed one = cond (is_to_close t row.id person closing one) (record one { closed = true }) one

  abbrev lab_of : SessionRow → ℤ
  lab_of one = one.lab

  abbrev number_of : SessionRow → ℕ
  number_of one = one.number

  stays : (one : SessionRow) → lab_of (closed one) ≡ lab_of one
  stays one = go (is_to_close t row.id person closing one)
    where
      go : (b : Bool) → lab_of (cond b (record one { closed = true }) one) ≡ lab_of one
      go true = refl
      go false = refl

  numbered : (one : SessionRow) → number_of (closed one) ≡ number_of one
  numbered one = go (is_to_close t row.id person closing one)
    where
      go : (b : Bool) → number_of (cond b (record one { closed = true }) one) ≡ number_of one
      go true = refl
      go false = refl

  orders : (one other : SessionRow) → by_session (closed one) (closed other) ≡ by_session one other
  orders one other = λ i. nat_cmp (numbered one i) (numbered other i)

  -- a session of the laboratory, and one of another
  here : (one : SessionRow) → int_eq one.lab row.id ≡ true → session_in t (closed one) ≡ session_after closing person (session_in t one)
  here one own =
      ap (λ b. session_in t (cond (b && is_closed_by closing person (session_in t one)) (record one { closed = true }) one)) own ∙ go (is_closed_by closing person (session_in t one))
    where
      go : (b : Bool) → session_in t (cond b (record one { closed = true }) one) ≡ cond b (closed_session (session_in t one)) (session_in t one)
      go true = refl
      go false = refl

  there : (one : SessionRow) → int_eq one.lab row.id ≡ false → session_in t (closed one) ≡ session_in t one
  there one other = ap (λ b. session_in t (cond (b && is_closed_by closing person (session_in t one)) (record one { closed = true }) one)) other

  sessions_law : (lab : ℤ) → sessions_of (close_sessions row.id person closing t) lab ≡ cond (int_eq lab row.id) (sessions_after closing person (sessions_of t lab)) (sessions_of t lab)
  sessions_law lab = set_has lab_of by_session (session_in t) closed stays orders t.sessions lab ∙ go (int_eq lab row.id) refl
    where
      go : (b : Bool) → int_eq lab row.id ≡ b → had_by lab_of by_session (λ one. session_in t (closed one)) t.sessions lab
          ≡ cond b (sessions_after closing person (sessions_of t lab)) (sessions_of t lab)
      go true e =
          had_alike lab_of by_session (λ one. session_in t (closed one)) (λ one. session_after closing person (session_in t one)) t.sessions lab
          (λ one own. here one (alike one.lab row.id (same_int one.lab lab own ∙ same_int lab row.id e)))
          ∙ sym (map-map (session_after closing person) (session_in t) (sort_by by_session (filter (λ (one : SessionRow). int_eq one.lab lab) t.sessions)))
      go false e =
          had_alike lab_of by_session (λ one. session_in t (closed one)) (session_in t) t.sessions lab
          (λ one own. there one (int_eq_apart one.lab row.id (λ same. let yes : int_eq lab row.id ≡ true = alike lab row.id (sym (same_int one.lab lab own) ∙ same) in cc)))

  by_case : (lab : LabRow) → lab_in (close_sessions row.id person closing t) lab ≡ cond (int_eq lab.id row.id) (change (lab_in t lab) (SessionsClosed person closing)) (lab_in t lab)
  by_case lab = go (int_eq lab.id row.id) (sessions_law lab.id)
    where
      go : (b : Bool) → sessions_of (close_sessions row.id person closing t) lab.id ≡ cond b (sessions_after closing person (sessions_of t lab.id)) (sessions_of t lab.id)
          → lab_in (close_sessions row.id person closing t) lab ≡ cond b (change (lab_in t lab) (SessionsClosed person closing)) (lab_in t lab)
      go true law = λ i. record (lab_in t lab) { sessions = law i }
      go false law = λ i. record (lab_in t lab) { sessions = law i }

  closed_set : Changes code (SessionsClosed person closing ∷ []) (meaning t) (meaning (close_sessions row.id person closing t))
  closed_set = rows_changed t (close_sessions row.id person closing t) refl (labs_own t ids) code row found (SessionsClosed person closing) by_case

pub sessions_are_closed : (old new : Tables) (code person : List ℕ) (closing : Closing) → are_ids_unique old ≡ true → Applies code (SessionsClosed person closing) old new
    → Changes code (SessionsClosed person closing ∷ []) (meaning old) (meaning new)
sessions_are_closed old new code person closing ids it =
    subst (λ t. Changes code (SessionsClosed person closing ∷ []) (meaning old) (meaning t)) (sym it.made) (closed_set old ids code it.lab it.found person closing)
