-- A session more: its laboratory has it behind the others, under the next number, and no other laboratory sees it.
use Rattle.std.proofs.Common.{◌≡◌, ℕ, ◌+◌, ℤ, Bool, true, false, cond, List, [], ◌∷◌, ◌++◌, filter, find, length, Some, refl, sym, ap, subst, ◌∙◌, int_eq}
use Rattle.std.proofs.lemmas.Bool.{and_parts}
use Rattle.std.proofs.lemmas.List.{length-map}
use Rattle.sqlite_keyed.specs.Lists.{sort_by}
use Rattle.lab_people_access.specs.declared.sessions.Session.{Session}
use Rattle.lab_records_kept.specs.declared.changes.Change.TheVariants.{SessionAdded}
use Rattle.lab_records_kept.specs.Changes.{change}
use Rattle.lab_records_keeper.specs.Worlds.{Changes}
use Rattle.lab_store_tables.specs.Rows.{LabRow, SessionRow, Tables, session_id}
use Rattle.lab_store_tables.specs.Meaning.{lab_in, has_code, meaning, session_in, by_session, sessions_of}
use Rattle.lab_store_tables.specs.WellKept.{are_ids_unique, are_all_numbered}
use Rattle.lab_store_tables.specs.Changes.{IsFree, person_named, session_row_of, put_session, in_lab, Applies}
use Rattle.lab_store_tables.specs.Held.{AreRising}
use Rattle.lab_store_tables.specs.Family.{Sessions}
use Rattle.lab_store_tables.proofs.NumberLaws.{length_sorted, numbered_last}
use Rattle.lab_store_tables.proofs.LabLaws.{rows_counted}
use Rattle.lab_store_tables.proofs.TrailLaws.{labs_own, persons_own, code_named}

module _ (t : Tables) (rising : AreRising t) (ids : are_ids_unique t ≡ true) (numbered : are_all_numbered t ≡ true) (code : List ℕ) (row : LabRow)
    (found : find (has_code code) t.labs ≡ Some row) (session : Session) (id : ℤ) (free : IsFree session_id t.sessions id) (person : ℤ)
    (named : person_named t row.id session.person ≡ Some person) (next : session.number ≡ length (sessions_of t row.id) + 1) where
  abbrev new : SessionRow
  new = session_row_of row.id id person session

  abbrev mine : ℤ → SessionRow → Bool
  mine lab one = int_eq one.lab lab

  next_row : session.number ≡ length (filter (mine row.id) t.sessions) + 1
  next_row =
      next ∙ ap (λ n. n + 1) (length-map (sort_by by_session (filter (mine row.id) t.sessions)) (session_in t) ∙ length_sorted by_session (filter (mine row.id) t.sessions))

  session_back : session_in t new ≡ session
  session_back = λ i. record session { person = code_named t (persons_own t ids) row.id session.person person named i }

  sessions_law : (lab : ℤ) → sessions_of (put_session new t) lab ≡ cond (int_eq lab row.id) (sessions_of t lab ++ session ∷ []) (sessions_of t lab)
  sessions_law lab =
      numbered_last session_id (λ (one : SessionRow). one.lab) (λ (one : SessionRow). one.number) (session_in t) t.sessions (rising.at Sessions)
      (and_parts _ _ (and_parts _ _ (and_parts _ _ (and_parts _ _ (and_parts _ _ (and_parts _ _ (and_parts _ _ (and_parts _ _ numbered).0).0).0).0).0).0).0).0 new free next_row lab
      ∙ ap (λ one. cond (int_eq lab row.id) (sessions_of t lab ++ one ∷ []) (sessions_of t lab)) session_back

  by_case : (lab : LabRow) → lab_in (put_session new t) lab ≡ cond (int_eq lab.id row.id) (change (lab_in t lab) (SessionAdded session)) (lab_in t lab)
  by_case lab = go (int_eq lab.id row.id) (sessions_law lab.id)
    where
      go : (b : Bool) → sessions_of (put_session new t) lab.id ≡ cond b (sessions_of t lab.id ++ session ∷ []) (sessions_of t lab.id)
          → lab_in (put_session new t) lab ≡ cond b (change (lab_in t lab) (SessionAdded session)) (lab_in t lab)
      go true law = λ i. record (lab_in t lab) { sessions = law i }
      go false law = λ i. record (lab_in t lab) { sessions = law i }

  session_set : Changes code (SessionAdded session ∷ []) (meaning t) (meaning (in_lab row.id (λ (lab : LabRow). record lab { sessions = session.number }) (put_session new t)))
  session_set =
      rows_counted t (put_session new t) refl (labs_own t ids) code row found (SessionAdded session) by_case (λ (lab : LabRow). record lab { sessions = session.number }) (λ lab. refl) (λ lab. refl)

pub session_is_added : (old new : Tables) (code : List ℕ) (session : Session) → AreRising old → are_ids_unique old ≡ true → are_all_numbered old ≡ true
    → (it : Applies code (SessionAdded session) old new) → session.number ≡ length (sessions_of old it.lab.id) + 1
    → Changes code (SessionAdded session ∷ []) (meaning old) (meaning new)
session_is_added old new code session rising ids numbered it next =
    subst (λ t. Changes code (SessionAdded session ∷ []) (meaning old) (meaning t)) (sym it.made.made)
    (session_set old rising ids numbered code it.lab it.found session it.made.id it.made.free it.made.person it.made.named next)
